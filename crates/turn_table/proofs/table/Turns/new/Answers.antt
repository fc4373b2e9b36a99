use Rattle.std.proofs.Common.{rules, ◌≡◌, length, replicate, sym, subst}
use Rattle.atomic_table.specs.Table.{opening}
use Rattle.turn_table.specs.Keeping.{Kept}
use Rattle.turn_table.specs.Playing.{founder}
use Rattle.turn_table.proofs.Opening.{opens}
use Rattle.turn_table.proofs.Filling.{one_filling}
use Rattle.turn_table.proofs.table.Turns.new.Goals as goal

pub new-requires-2 : goal.new-requires-2
new-requires-2 g c =
    let r = g.R.TurnRule in
    let words : c.as_slice.result.now ≡ replicate (length c.args.parts.items) 0 = search rules in
    let same = c.of-opening.ensures in
    subst (λ v. Kept r.holds r.grows (opening c.as_slice.result.now c.fill_slots.new.slots.items (founder v.items))) (sym same)
    (opens r.holds r.grows c.args.parts.items _ _ r.grows_reflexive c.requires.legal words c.fill_slots.ensures.slots)

pub returns-in-Err-clause-err : goal.returns-in-Err-clause-err
returns-in-Err-clause-err g c = one_filling _ _ (search rules)

pub returns-clause-err : goal.returns-clause-err
returns-clause-err g c = one_filling _ _ (search rules)
