use Rattle.std.proofs.Common.{◌∷◌, [], ◌++◌, take, ◌∙◌, ap, arith}
use Rattle.std.proofs.lemmas.Result.{on_ok_weaker}
use Rattle.file_tree.specs.Apply.{entries_of}
use Rattle.tree_lines.proofs.Below.{none_left, some_left}
use Rattle.tree_lines.proofs.Going.{closed, went_on, went_down, work_more}
use Rattle.tree_lines.proofs.append_next.Goals as goal

pub returns-then-dir-entry_count-clause-lines : goal.returns-then-dir-entry_count-clause-lines
returns-then-dir-entry_count-clause-lines c =
    let cut = c.truncate.ensures.items ∙ ap (λ k. take k c.args.names.now.items) (c.len.ensures ∙ c.args.stack.now.ok.0) in
    closed c.args.names.now.items c.truncate.new.self.items c.args.stack.now.items c.args.dir c.requires cut c.args.text.now.items
    (none_left (entries_of c.args.dir.tree.now) c.args.dir.place (omega (arith, c.if-dir-entry_count.true, c.entry_count.ensures)))

pub returns-then-dir-entry_count-clause-work : goal.returns-then-dir-entry_count-clause-work
returns-then-dir-entry_count-clause-work c = omega (arith, work_more c.args.stack.now.items c.args.dir)

pub unreachable-requires : goal.unreachable-requires
unreachable-requires c = some_left (entries_of c.args.dir.tree.now) c.args.dir.place (omega (arith, c.if-dir-entry_count.false, c.entry_count.ensures)) c.in_default.ensures

pub returns-clause-lines : goal.returns-clause-lines
returns-clause-lines c =
    let cut = c.truncate.ensures.items ∙ ap (λ k. take k c.args.names.now.items) (c.len.ensures ∙ c.args.stack.now.ok.0) in
    let named = c.in_ok-push-2.ensures.items ∙ ap (λ n. c.truncate.new.self.items ++ n ∷ []) c.in_ok-copy.ensures in
    on_ok_weaker c.append_node.result
    (went_on c.args.names.now.items c.truncate.new.self.items c.args.stack.now.items c.args.dir c.requires cut
    c.in-Some.name.now c.in-Some.below.now _ c.push.new.self.items c.push-2.new.self.items c.in-Some.ensures c.in_ok-push.ensures.items named
    c.args.text.now.items c.append_node.new.text.items c.append_node.new.stack.items c.deref.result.now c.deref.ensures.value)
    c.append_node.ensures.lines

pub returns-clause-work : goal.returns-clause-work
returns-clause-work c =
    let cut = c.truncate.ensures.items ∙ ap (λ k. take k c.args.names.now.items) (c.len.ensures ∙ c.args.stack.now.ok.0) in
    let named = c.in_ok-push-2.ensures.items ∙ ap (λ n. c.truncate.new.self.items ++ n ∷ []) c.in_ok-copy.ensures in
    on_ok_weaker c.append_node.result
    (went_down c.args.names.now.items c.truncate.new.self.items c.args.stack.now.items c.args.dir c.requires cut
    c.in-Some.name.now c.in-Some.below.now _ c.push.new.self.items c.push-2.new.self.items c.in-Some.ensures c.in_ok-push.ensures.items named
    c.append_node.new.stack.items)
    c.append_node.ensures.work
