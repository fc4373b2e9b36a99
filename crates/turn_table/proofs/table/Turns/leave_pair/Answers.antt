use Rattle.std.proofs.Common.{◌≢◌, ◌<◌, sym, ap, ◌∙◌, subst}
use Rattle.turn_table.specs.Notes.{noted, AllBelow}
use Rattle.turn_table.proofs.Noting.{noted_below}
use Rattle.turn_table.proofs.Leaving.{empty_slot, tied_slots, tied_again, turn_again, slot_again, may_leave_second, may_leave_first, leaves_both, settles_both, seen_after_both}
use Rattle.turn_table.proofs.table.Turns.leave_pair.Goals as goal

pub put_back-requires-clause-part : goal.put_back-requires-clause-part
put_back-requires-clause-part g c =
    let turn = ap (λ k. noted k c.seat.inside.place.me.0.turns) c.into_parts-a.ensures.0 ∙ (ap (λ s. noted c.args.first.part s.turns) c.seat.view_is ∙ c.requires.held.0) in
    let table = ap (λ s. s.table) c.seat.view_is ∙ (c.requires.table ∙ sym c.self.view_is) in
    subst (λ z. c.into_parts-a.result.0 < z.words) table (noted_below _ _ _ _ c.seat.invariant.2 turn)

pub put_back-requires-clause-tied : goal.put_back-requires-clause-tied
put_back-requires-clause-tied g c = tied_slots c.seat.inside.place.me c.seat.invariant.0

pub put_back-requires-clause-slot : goal.put_back-requires-clause-slot
put_back-requires-clause-slot g c =
    let turn = ap (λ k. noted k c.seat.inside.place.me.0.turns) c.into_parts-a.ensures.0 ∙ (ap (λ s. noted c.args.first.part s.turns) c.seat.view_is ∙ c.requires.held.0) in
    empty_slot c.seat.inside.place.me _ _ c.seat.invariant.0 turn

pub put_back-requires-2-clause-part : goal.put_back-requires-2-clause-part
put_back-requires-2-clause-part g c =
    let turn = ap (λ k. noted k c.seat.inside.place.me.0.turns) c.into_parts-b.ensures.0 ∙ (ap (λ s. noted c.args.second.part s.turns) c.seat.view_is ∙ c.requires.held.1) in
    let table = ap (λ s. s.table) c.seat.view_is ∙ (c.requires.table ∙ sym c.self.view_is) in
    subst (λ z. c.into_parts-b.result.0 < z.words) table (noted_below _ _ _ _ c.seat.invariant.2 turn)

pub put_back-requires-2-clause-tied : goal.put_back-requires-2-clause-tied
put_back-requires-2-clause-tied g c =
    let turn_a = ap (λ k. noted k c.seat.inside.place.me.0.turns) c.into_parts-a.ensures.0 ∙ (ap (λ s. noted c.args.first.part s.turns) c.seat.view_is ∙ c.requires.held.0) in
    let first = c.put_back.ensures.slot _ turn_a in
    let two : c.into_parts-a.result.0 ≢ c.into_parts-b.result.0 = λ e. c.requires.held.2 (sym c.into_parts-a.ensures.0 ∙ (e ∙ c.into_parts-b.ensures.0)) in
    tied_again c.seat.inside.place.me c.put_back.new.place.me _ _ _ first _ two c.seat.invariant.0

pub put_back-requires-2-clause-slot : goal.put_back-requires-2-clause-slot
put_back-requires-2-clause-slot g c =
    let turn_a = ap (λ k. noted k c.seat.inside.place.me.0.turns) c.into_parts-a.ensures.0 ∙ (ap (λ s. noted c.args.first.part s.turns) c.seat.view_is ∙ c.requires.held.0) in
    let first = c.put_back.ensures.slot _ turn_a in
    let two : c.into_parts-a.result.0 ≢ c.into_parts-b.result.0 = λ e. c.requires.held.2 (sym c.into_parts-a.ensures.0 ∙ (e ∙ c.into_parts-b.ensures.0)) in
    let turn_b = ap (λ k. noted k c.seat.inside.place.me.0.turns) c.into_parts-b.ensures.0 ∙ (ap (λ s. noted c.args.second.part s.turns) c.seat.view_is ∙ c.requires.held.1) in
    slot_again c.seat.inside.place.me c.put_back.new.place.me _ _ _ first _ two (empty_slot c.seat.inside.place.me _ _ c.seat.invariant.0 turn_b)

pub give_second-requires-clause-part : goal.give_second-requires-clause-part
give_second-requires-clause-part g c =
    let turn = ap (λ k. noted k c.seat.inside.place.me.0.turns) c.into_parts-b.ensures.0 ∙ (ap (λ s. noted c.args.second.part s.turns) c.seat.view_is ∙ c.requires.held.1) in
    let table = ap (λ s. s.table) c.seat.view_is ∙ (c.requires.table ∙ sym c.self.view_is) in
    subst (λ z. c.into_parts-b.result.0 < z.words) table (noted_below _ _ _ _ c.seat.invariant.2 turn)

pub give_second-requires-clause-change : goal.give_second-requires-clause-change
give_second-requires-clause-change g c =
    let turn_a = ap (λ k. noted k c.seat.inside.place.me.0.turns) c.into_parts-a.ensures.0 ∙ (ap (λ s. noted c.args.first.part s.turns) c.seat.view_is ∙ c.requires.held.0) in
    let first = c.put_back.ensures.slot _ turn_a in
    let two : c.into_parts-a.result.0 ≢ c.into_parts-b.result.0 = λ e. c.requires.held.2 (sym c.into_parts-a.ensures.0 ∙ (e ∙ c.into_parts-b.ensures.0)) in
    let turn_b = ap (λ k. noted k c.seat.inside.place.me.0.turns) c.into_parts-b.ensures.0 ∙ (ap (λ s. noted c.args.second.part s.turns) c.seat.view_is ∙ c.requires.held.1) in
    let second = c.put_back-2.ensures.slot _ (turn_again c.seat.inside.place.me c.put_back.new.place.me _ _ _ first _ two _ turn_b) in
    let r = g.R.TurnRule in
    let may = subst (λ x. r.paired c.args.first.opening c.args.second.opening x c.into_parts-b.result.1) (sym c.into_parts-a.ensures.1)
    (subst (r.paired c.args.first.opening c.args.second.opening c.args.first.value) (sym c.into_parts-b.ensures.1) c.requires.change) in
    may_leave_second c.seat.inside.place.me c.put_back.new.place.me _ _ _ first _ two c.put_back-2.new.place.me _ _ second r.paired may

pub give_alone-requires-clause-part : goal.give_alone-requires-clause-part
give_alone-requires-clause-part g c =
    let turn = ap (λ k. noted k c.seat.inside.place.me.0.turns) c.into_parts-a.ensures.0 ∙ (ap (λ s. noted c.args.first.part s.turns) c.seat.view_is ∙ c.requires.held.0) in
    let table = ap (λ s. s.table) c.seat.view_is ∙ (c.requires.table ∙ sym c.self.view_is) in
    subst (λ z. c.into_parts-a.result.0 < z.words) table (noted_below _ _ _ _ c.seat.invariant.2 turn)

pub give_alone-requires-clause-change : goal.give_alone-requires-clause-change
give_alone-requires-clause-change g c =
    let turn_a = ap (λ k. noted k c.seat.inside.place.me.0.turns) c.into_parts-a.ensures.0 ∙ (ap (λ s. noted c.args.first.part s.turns) c.seat.view_is ∙ c.requires.held.0) in
    let first = c.put_back.ensures.slot _ turn_a in
    let two : c.into_parts-a.result.0 ≢ c.into_parts-b.result.0 = λ e. c.requires.held.2 (sym c.into_parts-a.ensures.0 ∙ (e ∙ c.into_parts-b.ensures.0)) in
    let turn_b = ap (λ k. noted k c.seat.inside.place.me.0.turns) c.into_parts-b.ensures.0 ∙ (ap (λ s. noted c.args.second.part s.turns) c.seat.view_is ∙ c.requires.held.1) in
    let second = c.put_back-2.ensures.slot _ (turn_again c.seat.inside.place.me c.put_back.new.place.me _ _ _ first _ two _ turn_b) in
    let r = g.R.TurnRule in
    may_leave_first c.seat.inside.place.me c.put_back.new.place.me _ _ _ first _ two c.put_back-2.new.place.me _ _ second c.give_second.new.place.me c.give_second.ensures.given r.alone r.unchanged_alone

pub wake-requires : goal.wake-requires
wake-requires g c =
    let turn = ap (λ k. noted k c.seat.inside.place.me.0.turns) c.into_parts-b.ensures.0 ∙ (ap (λ s. noted c.args.second.part s.turns) c.seat.view_is ∙ c.requires.held.1) in
    let table = ap (λ s. s.table) c.seat.view_is ∙ c.requires.table in
    record { part = subst (λ z. c.into_parts-b.result.0 < z.words) table (noted_below _ _ _ _ c.seat.invariant.2 turn) }

pub wake-requires-2 : goal.wake-requires-2
wake-requires-2 g c =
    let turn = ap (λ k. noted k c.seat.inside.place.me.0.turns) c.into_parts-a.ensures.0 ∙ (ap (λ s. noted c.args.first.part s.turns) c.seat.view_is ∙ c.requires.held.0) in
    let table = ap (λ s. s.table) c.seat.view_is ∙ c.requires.table in
    record { part = subst (λ z. c.into_parts-a.result.0 < z.words) table (noted_below _ _ _ _ c.seat.invariant.2 turn) }

pub invariant_of-seat : goal.invariant_of-seat
invariant_of-seat g c =
    let turn_a = ap (λ k. noted k c.seat.inside.place.me.0.turns) c.into_parts-a.ensures.0 ∙ (ap (λ s. noted c.args.first.part s.turns) c.seat.view_is ∙ c.requires.held.0) in
    let first = c.put_back.ensures.slot _ turn_a in
    let two : c.into_parts-a.result.0 ≢ c.into_parts-b.result.0 = λ e. c.requires.held.2 (sym c.into_parts-a.ensures.0 ∙ (e ∙ c.into_parts-b.ensures.0)) in
    let turn_b = ap (λ k. noted k c.seat.inside.place.me.0.turns) c.into_parts-b.ensures.0 ∙ (ap (λ s. noted c.args.second.part s.turns) c.seat.view_is ∙ c.requires.held.1) in
    let second = c.put_back-2.ensures.slot _ (turn_again c.seat.inside.place.me c.put_back.new.place.me _ _ _ first _ two _ turn_b) in
    let after = leaves_both c.seat.inside.place.me c.put_back.new.place.me _ _ _ first _ two c.put_back-2.new.place.me _ _ second c.give_second.new.place.me c.give_second.ensures.given c.give_alone.new.place.me c.give_alone.ensures.given in
    let settled = settles_both c.seat.inside.place.table_id.words c.seat.inside.place.me _ _ _ _ _ after c.seat.invariant in
    let same = c.give_alone.ensures.board.0 ∙ (c.give_second.ensures.board.0 ∙ (c.put_back-2.ensures.board.0 ∙ c.put_back.ensures.board.0)) in
    (settled.0, settled.1, subst (λ z. AllBelow z.words c.give_alone.new.place.me.0.turns) (sym same) settled.2)

pub returns : goal.returns
returns g c =
    let turn_a = ap (λ k. noted k c.seat.inside.place.me.0.turns) c.into_parts-a.ensures.0 ∙ (ap (λ s. noted c.args.first.part s.turns) c.seat.view_is ∙ c.requires.held.0) in
    let first = c.put_back.ensures.slot _ turn_a in
    let two : c.into_parts-a.result.0 ≢ c.into_parts-b.result.0 = λ e. c.requires.held.2 (sym c.into_parts-a.ensures.0 ∙ (e ∙ c.into_parts-b.ensures.0)) in
    let turn_b = ap (λ k. noted k c.seat.inside.place.me.0.turns) c.into_parts-b.ensures.0 ∙ (ap (λ s. noted c.args.second.part s.turns) c.seat.view_is ∙ c.requires.held.1) in
    let second = c.put_back-2.ensures.slot _ (turn_again c.seat.inside.place.me c.put_back.new.place.me _ _ _ first _ two _ turn_b) in
    let after = leaves_both c.seat.inside.place.me c.put_back.new.place.me _ _ _ first _ two c.put_back-2.new.place.me _ _ second c.give_second.new.place.me c.give_second.ensures.given c.give_alone.new.place.me c.give_alone.ensures.given in
    let same = c.give_alone.ensures.board.0 ∙ (c.give_second.ensures.board.0 ∙ (c.put_back-2.ensures.board.0 ∙ c.put_back.ensures.board.0)) in
    record {
      seat = seen_after_both c.seat.inside.place.table_id c.give_alone.new.place.table_id c.args.seat.now c.seat.inside.place.me c.give_alone.new.place.me _ _ _ _ _ _ _ _ _
          same c.seat.view_is after c.into_parts-a.ensures.0 c.into_parts-b.ensures.0 c.into_parts-a.ensures.1 c.into_parts-b.ensures.1;
    }
