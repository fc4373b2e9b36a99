use Rattle.std.proofs.Common.{◌-◌, length, take, drop, ap, sym, ◌∙◌}
use Rattle.file_tree.specs.Apply.{walk, walk_from}
use Rattle.file_tree.proofs.Slices.{cons_is}
use Rattle.file_tree.proofs.WalkLaws.{refused_on}
use Rattle.file_tree.proofs.tree.Tree.find.Goals as goal

pub returns-in-Err : goal.returns-in-Err
returns-in-Err c =
    let rest = c.loop-rest.rest.now in
    let more = take (length rest - 1) (drop 1 rest) in
    let names = cons_is rest c.name-item.result c.in-len1-up.len_at_least c.name-item.is in
    sym c.loop-rest.invariant ∙ ap (walk c.loop-rest.tree.now) names ∙ ap (λ w. walk_from w more) c.in-Err.ensures ∙ refused_on c.in-Err.refused more
