use Rattle.std.proofs.Common.{◌≤◌, ◌∷◌, List, ℕ, length, arith, ap, ◌∙◌, sym, subst}
use Rattle.std.proofs.lemmas.Bool.Decides.{nat_tests}
use Rattle.gfs2_layout.specs.Area.{IsArea, slot_at, slots_of}
use Rattle.std.specs.Prelude.{IsTrue}
use Rattle.gfs2_layout.specs.declared.dirent.Dirent.{Dirent}
use Rattle.gfs2_layout.specs.Structures.{is_in_use}
use Rattle.gfs2_layout.proofs.Records.{area_on, area_ends, record_length}
use Rattle.gfs2_layout.proofs.area.next_record.Goals as goal

pub returns-then-is_empty : goal.returns-then-is_empty
returns-then-is_empty c = area_ends c.args.area.now (grind (arith, nat_tests))

pub head-head-requires : goal.head-head-requires
head-head-requires c =
    let some : 1 ≤ length c.args.area.now = grind (arith, nat_tests) in
    let long = record_length c.args.area.now (area_on c.args.area.now some c.requires).good in
    omega (arith, long.0, long.1)

pub name_in-name-requires-clause-record : goal.name_in-name-requires-clause-record
name_in-name-requires-clause-record c = let some : 1 ≤ length c.args.area.now = grind (arith, nat_tests) in (area_on c.args.area.now some c.requires).good

pub name_in-name-requires-clause-named : goal.name_in-name-requires-clause-named
name_in-name-requires-clause-named c = let some : 1 ≤ length c.args.area.now = grind (arith, nat_tests) in (area_on c.args.area.now some c.requires).here

pub past_record-requires : goal.past_record-requires
past_record-requires c = let some : 1 ≤ length c.args.area.now = grind (arith, nat_tests) in (area_on c.args.area.now some c.requires).good

pub returns : goal.returns
returns c =
    let area = c.args.area.now in
    let some : 1 ≤ length area = grind (arith, nat_tests) in
    let on = area_on area some c.requires in
    let past = c.past_record.ensures in
    record {
      slots = on.slots ∙ ap (λ (rest : List ℕ). slot_at area ∷ slots_of rest) (sym past.behind);
      shown = record { head_is = c.head-head.ensures; name_is = λ used. c.name_in-name.ensures (subst (λ (d : Dirent). IsTrue (is_in_use d)) (sym c.head-head.ensures) used) };
      later = subst IsArea (sym past.behind) on.later;
      shorter = omega (arith, past.whole, past.least);
    }
