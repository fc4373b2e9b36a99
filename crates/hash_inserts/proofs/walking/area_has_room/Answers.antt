use Rattle.std.proofs.Common.{◌∙◌, refl, sym, ap}
use Rattle.std.specs.Prelude.{◌||◌}
use Rattle.std.specs.List.{list_any}
use Rattle.gfs2_layout.specs.Area.{slot_at, slots_of}
use Rattle.gfs2_layout.specs.Putting.{has_room, least_length}
use Rattle.hash_inserts.proofs.walking.area_has_room.Goals as goal

pub loop-record-init : goal.loop-record-init
loop-record-init c = record { area = c.requires; same = refl }

pub returns-then-has_room : goal.returns-then-has_room
returns-then-has_room c =
    let rest = c.loop-record.rest.now in
    let first = c.in-Some.ensures in
    let test = has_room (least_length c.args.len) in
    sym (c.loop-record.invariant.same ∙ ap (list_any test) first.slots ∙ ap (λ b. b || list_any test (slots_of c.in-Some.behind.now)) (ap (λ n. has_room n (slot_at rest)) (sym c.least_length-needed.ensures) ∙ sym (c.has_room.ensures (slot_at rest) first.shown.head_is) ∙ c.if-has_room.true))

pub loop-record-preserved : goal.loop-record-preserved
loop-record-preserved c =
    let rest = c.loop-record.rest.now in
    let first = c.in-Some.ensures in
    let test = has_room (least_length c.args.len) in
    record {
      area = first.later;
      same = c.loop-record.invariant.same ∙ ap (list_any test) first.slots ∙ ap (λ b. b || list_any test (slots_of c.in-Some.behind.now)) (ap (λ n. has_room n (slot_at rest)) (sym c.least_length-needed.ensures) ∙ sym (c.has_room.ensures (slot_at rest) first.shown.head_is) ∙ c.if-has_room.false);
    }

pub returns : goal.returns
returns c = sym (c.loop-record.invariant.same ∙ ap (list_any (has_room (least_length c.args.len))) c.in_default.ensures)
