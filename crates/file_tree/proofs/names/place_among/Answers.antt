use Rattle.std.proofs.Common.{ℕ, List, sym, ap, ◌∙◌}
use Rattle.file_tree.specs.Tree.{name_order}
use Rattle.file_tree.proofs.NameLists.{there}
use Rattle.file_tree.proofs.names.place_among.Goals as goal

pub returns-in-Equal : goal.returns-in-Equal
returns-in-Equal c =
    let equal = ap (λ (n : List ℕ). name_order c.args.bytes.now n) (sym (c.bytes.ensures.bytes ∙ c.name-item.is)) ∙ sym c.in-Equal.ensures in
    there c.args.names.now c.loop-name.name-index c.args.bytes.now c.name-item.result c.loop-name-test.true equal c.loop-name.invariant.split
