use Rattle.std.proofs.Common.{◌<◌, sym, ap, ◌∙◌, subst}
use Rattle.turn_table.specs.Notes.{noted, AllBelow}
use Rattle.turn_table.proofs.Noting.{noted_below}
use Rattle.turn_table.proofs.Leaving.{empty_slot, tied_slots, may_leave, leaves, settles}
use Rattle.turn_table.proofs.table.Turns.leave.Goals as goal

pub put_back-requires-clause-part : goal.put_back-requires-clause-part
put_back-requires-clause-part g c =
    let turn = ap (λ k. noted k c.seat.inside.place.me.0.turns) c.into_parts-part.ensures.0 ∙ (ap (λ s. noted c.args.held.part s.turns) c.seat.view_is ∙ c.requires.held) in
    let table = ap (λ s. s.table) c.seat.view_is ∙ (c.requires.table ∙ sym c.self.view_is) in
    subst (λ z. c.into_parts-part.result.0 < z.words) table (noted_below _ _ _ _ c.seat.invariant.2 turn)

pub put_back-requires-clause-tied : goal.put_back-requires-clause-tied
put_back-requires-clause-tied g c = tied_slots c.seat.inside.place.me c.seat.invariant.0

pub put_back-requires-clause-slot : goal.put_back-requires-clause-slot
put_back-requires-clause-slot g c =
    let turn = ap (λ k. noted k c.seat.inside.place.me.0.turns) c.into_parts-part.ensures.0 ∙ (ap (λ s. noted c.args.held.part s.turns) c.seat.view_is ∙ c.requires.held) in
    empty_slot c.seat.inside.place.me _ _ c.seat.invariant.0 turn

pub give_alone-requires-clause-part : goal.give_alone-requires-clause-part
give_alone-requires-clause-part g c =
    let turn = ap (λ k. noted k c.seat.inside.place.me.0.turns) c.into_parts-part.ensures.0 ∙ (ap (λ s. noted c.args.held.part s.turns) c.seat.view_is ∙ c.requires.held) in
    let table = ap (λ s. s.table) c.seat.view_is ∙ (c.requires.table ∙ sym c.self.view_is) in
    subst (λ z. c.into_parts-part.result.0 < z.words) table (noted_below _ _ _ _ c.seat.invariant.2 turn)

pub give_alone-requires-clause-change : goal.give_alone-requires-clause-change
give_alone-requires-clause-change g c =
    let turn = ap (λ k. noted k c.seat.inside.place.me.0.turns) c.into_parts-part.ensures.0 ∙ (ap (λ s. noted c.args.held.part s.turns) c.seat.view_is ∙ c.requires.held) in
    let may = subst (g.R.TurnRule.alone c.args.held.opening) (sym c.into_parts-part.ensures.1) c.requires.change in
    may_leave g.R.TurnRule.alone c.seat.inside.place.me c.put_back.new.place.me _ _ _ (c.put_back.ensures.slot _ turn) may

pub wake-requires : goal.wake-requires
wake-requires g c =
    let turn = ap (λ k. noted k c.seat.inside.place.me.0.turns) c.into_parts-part.ensures.0 ∙ (ap (λ s. noted c.args.held.part s.turns) c.seat.view_is ∙ c.requires.held) in
    let table = ap (λ s. s.table) c.seat.view_is ∙ c.requires.table in
    record { part = subst (λ z. c.into_parts-part.result.0 < z.words) table (noted_below _ _ _ _ c.seat.invariant.2 turn) }

pub invariant_of-seat : goal.invariant_of-seat
invariant_of-seat g c =
    let turn = ap (λ k. noted k c.seat.inside.place.me.0.turns) c.into_parts-part.ensures.0 ∙ (ap (λ s. noted c.args.held.part s.turns) c.seat.view_is ∙ c.requires.held) in
    let after = leaves c.seat.inside.place.me c.put_back.new.place.me c.give_alone.new.place.me _ _ _ (c.put_back.ensures.slot _ turn) c.give_alone.ensures.given in
    let settled = settles c.seat.inside.place.table_id.words c.seat.inside.place.me c.give_alone.new.place.me _ _ after c.seat.invariant in
    (settled.0, settled.1, subst (λ z. AllBelow z.words c.give_alone.new.place.me.0.turns) (sym (c.give_alone.ensures.board.0 ∙ c.put_back.ensures.board.0)) settled.2)
