use Rattle.std.proofs.Common.{◌≡◌, ◌≤◌, ◌+◌, ℕ, length, arith, sym, subst}
use Rattle.std.proofs.lemmas.Bool.Decides.{nat_tests}
use Rattle.gfs2_layout.specs.Bytes.{u16_at}
use Rattle.gfs2_layout.proofs.Places.{IsPlace, first_place, next_place, last_place, room_at}
use Rattle.gfs2_layout.proofs.putting.place_with_room.Goals as goal

pub loop-rest-init : goal.loop-rest-init
loop-rest-init c = first_place c.args.needed c.args.area.now c.requires.area

pub returns-then-finds_room : goal.returns-then-finds_room
returns-then-finds_room c =
    let some : 1 ≤ length c.loop-rest.rest.now = grind (arith, nat_tests) in
    room_at c.args.needed c.args.area.now c.loop-rest.at c.loop-rest.rest.now c.loop-rest.invariant some (sym c.if-finds_room.ensures)

pub loop-rest-preserved : goal.loop-rest-preserved
loop-rest-preserved c =
    let some : 1 ≤ length c.loop-rest.rest.now = grind (arith, nat_tests) in
    let on = next_place c.args.needed c.args.area.now c.loop-rest.at c.loop-rest.rest.now c.loop-rest.invariant some (sym c.if-finds_room.ensures) in
    let past = c.past_record-length.ensures in
    subst (λ (n : ℕ). IsPlace c.args.needed c.args.area.now (c.loop-rest.at + n) c.past_record-length.result.1.now) (sym past.length)
    (subst (IsPlace c.args.needed c.args.area.now (c.loop-rest.at + u16_at 20 c.loop-rest.rest.now)) (sym past.behind) on)

pub returns : goal.returns
returns c =
    let none : length c.loop-rest.rest.now ≡ 0 = grind (arith, nat_tests) in
    last_place c.args.needed c.args.area.now c.loop-rest.at c.loop-rest.rest.now c.loop-rest.invariant none
