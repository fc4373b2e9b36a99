use Rattle.std.proofs.Common.{◌-◌, ◌≤◌, sym, ap, ◌∙◌, subst, arith}
use Rattle.glock_names.proofs.StepLaws.{answer_at}
use Rattle.drafts.specs.Fates.{Drafted, seen_in}
use Rattle.gfs2_layout.specs.Bitmap.{state_at}
use Rattle.resource_groups.specs.Shown.{HasBitsIn, first_place}
use Rattle.resource_groups.proofs.Fits.{fit_of, end_below, big_of}
use Rattle.resource_groups.proofs.FreePlaces.{in_group}
use Rattle.resource_groups.proofs.Parts.{room_is}
use Rattle.resource_groups.proofs.Setting.{ArePuts, placed, damage_is, seen_after, put_is, two_are, seen_still, keeps_first, keeps_both, keeps_same}
use Rattle.resource_groups.proofs.putting.set_in_group.Given as given
use Rattle.resource_groups.proofs.putting.set_in_group.Goals as goal

pub bits_of-requires-clause-within : goal.bits_of-requires-clause-within
bits_of-requires-clause-within g c =
    let group = c.args.group.now in
    let fit = fit_of _ group c.block_size-size.ensures.view c.requires.group in
    in_group c.block_size-size.result group.count group.length c.part_of-part.result (c.args.block - group.first) fit.some
    (subst (λ s. group.count ≤ first_place s group.length) (sym c.block_size-size.ensures.value) (room_is _ group.count group.length fit.some fit.bits))
    (omega (arith, c.requires.own.low, c.requires.own.high)) c.part_of-part.ensures

pub returns-in_default-clause-damaged : goal.returns-in_default-clause-damaged
returns-in_default-clause-damaged g c at shown =
    let v = seen_in g.V.View.seen c.args.draft.now in
    let group = c.args.group.now in
    let place = placed v group c.args.block c.part_of-part.result c.block_size-size.result c.from.result c.first_place.result c.block_size-size.ensures.view c.requires.group c.requires.own c.block_size-size.ensures.value
    c.part_of-part.ensures c.from.ensures c.first_place.ensures in
    damage_is v group c.args.block c.part_of-part.result (c.from.result - c.first_place.result) place at c.state_at-old.result c.in-Is-2.bits.now c.in-Is.header shown
    (answer_at _ _ _ c.in-Is.is (c.in_ok-header.ensures.header at shown)) (answer_at _ _ _ c.in-Is-2.is (c.in_ok-bits.ensures.bits at shown)) c.state_at-old.ensures.value c.in_default.ensures.none

pub put_bits-requires-clause-number : goal.put_bits-requires-clause-number
put_bits-requires-clause-number g c =
    let v = seen_in g.V.View.seen c.args.draft.now in
    let group = c.args.group.now in
    let fit = fit_of v group c.block_size-size.ensures.view c.requires.group in
    let stands = subst (λ s. HasBitsIn s (c.args.block - group.first) c.part_of-part.result) c.block_size-size.ensures.value c.part_of-part.ensures in
    let inside = in_group v.size group.count group.length c.part_of-part.result (c.args.block - group.first) fit.some (room_is v.size group.count group.length fit.some fit.bits)
    (omega (arith, c.requires.own.low, c.requires.own.high)) stands in
    omega (arith, inside, fit.first, end_below v group c.block_size-size.ensures.view c.requires.group)

pub put_header-requires-clause-seen : goal.put_header-requires-clause-seen
put_header-requires-clause-seen g c =
    let bits = answer_at _ _ _ c.in-Is-2.is c.in_ok-bits.ensures.there in
    seen_after g.V.View.seen c.args.draft.now c.put_bits.new.draft c.args.group.now c.part_of-part.result (c.from.result - c.first_place.result) c.args.state bits
    (answer_at _ _ _ c.in-Is.is c.in_ok-header.ensures.there) c.in_ok-put_bits.ensures.put

pub put_header-requires-clause-room : goal.put_header-requires-clause-room
put_header-requires-clause-room g c =
    let v = seen_in g.V.View.seen c.args.draft.now in
    let large = big_of v.size c.block_size-size.ensures.view.block_size in
    let bits = answer_at _ _ _ c.in-Is-2.is c.in_ok-bits.ensures.there in
    subst (λ (x : Drafted g.row.V.Denot). 128 ≤ (g.V.View.seen x.view).size) (sym (c.in_ok-put_bits.ensures.put bits.0 bits.1)) (omega (arith, large))

-- both puts
both : (g : given.Over) (c : goal.In_ok-put_header g)
    → ArePuts g.V.View.seen c.args.draft.now c.put_bits.new.draft c.put_header.new.draft c.args.group.now c.part_of-part.result (c.from.result - c.first_place.result) c.args.state c.in-Some.header
both g c = record {
  bits_there = answer_at _ _ _ c.in-Is-2.is c.in_ok-bits.ensures.there;
  header_there = answer_at _ _ _ c.in-Is.is c.in_ok-header.ensures.there;
  first = c.in_ok-put_bits.ensures.put;
  second = c.in_ok-put_header.ensures.put;
  read = c.in_ok-put_header.ensures.read;
  behind = c.in_ok-put_header.ensures.behind;
}

pub returns-clause-put : goal.returns-clause-put
returns-clause-put g c at shown =
    let v = seen_in g.V.View.seen c.args.draft.now in
    let group = c.args.group.now in
    let k = c.part_of-part.result in
    let p = c.from.result - c.first_place.result in
    let place = placed v group c.args.block c.part_of-part.result c.block_size-size.result c.from.result c.first_place.result c.block_size-size.ensures.view c.requires.group c.requires.own c.block_size-size.ensures.value
    c.part_of-part.ensures c.from.ensures c.first_place.ensures in
    let bits_are = answer_at _ _ _ c.in-Is-2.is (c.in_ok-bits.ensures.bits at shown) in
    put_is g.V.View.seen c.args.draft.now c.put_bits.new.draft c.put_header.new.draft group c.args.block k p c.args.state c.in-Some.header place (both g c) at c.state_at-old.result c.in-Is.header shown
    (ap (λ x. state_at x p) (sym bits_are) ∙ sym c.state_at-old.ensures.value) (answer_at _ _ _ c.in-Is.is (c.in_ok-header.ensures.header at shown)) c.in-Some.ensures.some

pub returns-clause-two : goal.returns-clause-two
returns-clause-two g c at shown =
    let v = seen_in g.V.View.seen c.args.draft.now in
    let group = c.args.group.now in
    let k = c.part_of-part.result in
    let p = c.from.result - c.first_place.result in
    let place = placed v group c.args.block c.part_of-part.result c.block_size-size.result c.from.result c.first_place.result c.block_size-size.ensures.view c.requires.group c.requires.own c.block_size-size.ensures.value
    c.part_of-part.ensures c.from.ensures c.first_place.ensures in
    two_are g.V.View.seen c.args.draft.now c.put_bits.new.draft c.put_header.new.draft group c.args.block k p c.args.state c.in-Some.header place (both g c) at

pub returns-in_err-put_header-clause-others : goal.returns-in_err-put_header-clause-others
returns-in_err-put_header-clause-others g c =
    let v = seen_in g.V.View.seen c.args.draft.now in
    let group = c.args.group.now in
    let k = c.part_of-part.result in
    let p = c.from.result - c.first_place.result in
    let place = placed v group c.args.block c.part_of-part.result c.block_size-size.result c.from.result c.first_place.result c.block_size-size.ensures.view c.requires.group c.requires.own c.block_size-size.ensures.value
    c.part_of-part.ensures c.from.ensures c.first_place.ensures in
    keeps_same c.args.draft.now c.put_bits.new.draft c.put_header.new.draft group
    (keeps_first g.V.View.seen c.args.draft.now c.put_bits.new.draft group c.args.block k p c.args.state place (answer_at _ _ _ c.in-Is-2.is c.in_ok-bits.ensures.there) c.in_ok-put_bits.ensures.put)
    c.in_err-put_header.ensures.err

pub returns-clause-others : goal.returns-clause-others
returns-clause-others g c =
    let v = seen_in g.V.View.seen c.args.draft.now in
    let group = c.args.group.now in
    let k = c.part_of-part.result in
    let p = c.from.result - c.first_place.result in
    let place = placed v group c.args.block c.part_of-part.result c.block_size-size.result c.from.result c.first_place.result c.block_size-size.ensures.view c.requires.group c.requires.own c.block_size-size.ensures.value
    c.part_of-part.ensures c.from.ensures c.first_place.ensures in
    keeps_both g.V.View.seen c.args.draft.now c.put_bits.new.draft c.put_header.new.draft group c.args.block k p c.args.state c.in-Some.header place (both g c)

pub returns-clause-sees : goal.returns-clause-sees
returns-clause-sees g c =
    let v = seen_in g.V.View.seen c.args.draft.now in
    let group = c.args.group.now in
    let k = c.part_of-part.result in
    let p = c.from.result - c.first_place.result in
    let place = placed v group c.args.block c.part_of-part.result c.block_size-size.result c.from.result c.first_place.result c.block_size-size.ensures.view c.requires.group c.requires.own c.block_size-size.ensures.value
    c.part_of-part.ensures c.from.ensures c.first_place.ensures in
    seen_still g.V.View.seen c.args.draft.now c.put_bits.new.draft c.put_header.new.draft group c.args.block k p c.args.state c.in-Some.header place (both g c)
