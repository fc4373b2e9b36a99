use Rattle.std.proofs.Common.{ℕ, ◌+◌, List, ◌++◌, length, take, drop, sym, ap, ◌∙◌}
use Rattle.file_tree.specs.Apply.{overwritten}
use Rattle.file_tree.proofs.Slices.{whole_put}
use Rattle.file_tree.proofs.Contents.{overwritten_is}
use Rattle.file_tree.proofs.content.Content.overwrite.Goals as goal

pub returns-clause-ok : goal.returns-clause-ok
returns-clause-ok c =
    let value = c.deref_mut.ensures.value in
    let over = λ (g : List ℕ). take c.args.at g ++ c.args.bytes.now ++ drop (c.args.at + length c.args.bytes.now) g in
    whole_put c.make_long.new.bytes.len c.write_over.new.bytes c.make_long.new.bytes.items (c.write_over.ensures.len ∙ ap length value) (sym (ap length value) ∙ c.deref_mut.ensures.len)
    ∙ c.write_over.ensures.over ∙ ap over value
    ∙ overwritten_is c.self.inside.bytes.items c.args.bytes.now c.args.at c.make_long.new.bytes.items c.in_ok-make_long.ensures.ok
    ∙ ap (overwritten c.args.at c.args.bytes.now) c.self.view_is
