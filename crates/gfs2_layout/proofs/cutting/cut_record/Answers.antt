use Rattle.std.proofs.Common.{◌≤◌, ◌+◌, ◌∙◌, List, ℕ, length, ap, subst, sym}
use Rattle.gfs2_layout.specs.Bytes.{u16_at}
use Rattle.gfs2_layout.specs.Area.{IsArea, slots_of}
use Rattle.gfs2_layout.proofs.PutHere.{end_part, end_put}
use Rattle.gfs2_layout.proofs.Cut.{cut_first, from_is_area, next_fits, cut_later}
use Rattle.gfs2_layout.proofs.cutting.cut_record.Goals as goal

pub join_next-requires-clause-area : goal.join_next-requires-clause-area
join_next-requires-clause-area c =
    subst IsArea (sym (end_part c.last_place-before.result c.args.area.now)) (from_is_area c.args.area.now c.args.at c.last_place-before.result c.requires.area c.requires.record c.last_place-before.ensures)

pub join_next-requires-clause-next : goal.join_next-requires-clause-next
join_next-requires-clause-next c =
    subst (λ (b : List ℕ). u16_at 20 b + 1 ≤ length b) (sym (end_part c.last_place-before.result c.args.area.now))
    (next_fits c.args.area.now c.args.at c.last_place-before.result c.requires.area c.requires.record c.last_place-before.ensures)

pub returns-then-at-eq0-clause-slots : goal.returns-then-at-eq0-clause-slots
returns-then-at-eq0-clause-slots c = cut_first c.args.area.now c.empty_here.new.bytes c.args.at c.if-at-eq0.true c.empty_here.ensures.slots

pub returns-else-at-eq0-clause-slots : goal.returns-else-at-eq0-clause-slots
returns-else-at-eq0-clause-slots c =
    let area = c.args.area.now in
    let before = c.last_place-before.result in
    ap slots_of (end_put before area c.join_next.new.bytes)
    ∙ (cut_later area c.args.at before c.requires.area c.requires.record c.last_place-before.ensures c.join_next.new.bytes _ (end_part before area) c.join_next.ensures.slots c.join_next.ensures.area).0

pub returns-else-at-eq0-clause-area : goal.returns-else-at-eq0-clause-area
returns-else-at-eq0-clause-area c =
    let area = c.args.area.now in
    let before = c.last_place-before.result in
    subst IsArea (sym (end_put before area c.join_next.new.bytes))
    (cut_later area c.args.at before c.requires.area c.requires.record c.last_place-before.ensures c.join_next.new.bytes _ (end_part before area) c.join_next.ensures.slots c.join_next.ensures.area).1
