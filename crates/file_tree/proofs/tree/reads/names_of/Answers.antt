use Rattle.std.proofs.Common.{◌∷◌, [], ◌++◌, take, sym, ap, ◌∙◌, arith}
use Rattle.std.proofs.lemmas.List.{take_more}
use Rattle.file_tree.specs.Tree.{names_in}
use Rattle.file_tree.specs.Held.{entries_held}
use Rattle.file_tree.specs.declared.tree.Entry.{Entry}
use Rattle.file_tree.proofs.Entries.{names_held-append}
use Rattle.file_tree.proofs.tree.reads.names_of.Goals as goal

pub loop-entry-preserved : goal.loop-entry-preserved
loop-entry-preserved c =
    let es = c.args.entries.now in
    let e = c.entry-item.result in
    let name = c.in_ok-copy.ensures ∙ ap (λ (f : Entry). f.name) c.entry-item.is in
    c.in_ok-push.ensures.items ∙ (λ i. c.loop-entry.invariant i ++ name i ∷ [])
    ∙ sym (ap (λ fs. names_in (entries_held fs)) (take_more es c.loop-entry.entry-index e (omega arith)) ∙ names_held-append (take c.loop-entry.entry-index es) _)
