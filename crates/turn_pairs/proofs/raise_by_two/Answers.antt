use Rattle.std.proofs.Common.{◌≡◌, ℕ, ◌+◌, Some, slice_get, Contains, sym, ap, subst}
use Rattle.std.proofs.lemmas.List.Elements.{Contains-append_left}
use Rattle.turn_table.specs.Sitting.{HasSeen}
use Rattle.turn_pairs.proofs.Apart.{reached_ends}
use Rattle.turn_pairs.proofs.raise_by_two.Goals as goal

-- the seat keeps what it saw when it is split, when its thread works, and when the other seat joins it
pub returns-clause-risen : goal.returns-clause-risen
returns-clause-risen g c = λ p x y seen at.
    let split = subst (λ notes. Contains notes (p, x)) (sym (ap (λ s. s.seen) c.seat-other.ensures.from)) seen in
    let worked = c.join-chair.ensures.first.1 p x split in
    let joined = Contains-append_left c.join-chair.result.0.seen c.join-chair.result.1.seen (p, x) worked in
    c.close.ensures.grown p x y (subst (λ notes. Contains notes (p, x)) (sym (ap (λ s. s.seen) c.join.ensures.into)) joined) at

-- the seat of the first thread has seen how far the numbers came
pub returns-clause-reached : goal.returns-clause-reached
returns-clause-reached g c = λ x high low seen at_high at_low.
    let split = subst (λ notes. Contains notes (1, x)) (sym (ap (λ s. s.seen) c.seat-other.ensures.from)) seen in
    let worked = c.join-chair.ensures.first.2 x split in
    let grown = λ (p y z : ℕ) (has : HasSeen c.join-chair.result.0 p y) (at : slice_get c.close.result.items p ≡ Some z).
    c.close.ensures.grown p y z (subst (λ notes. Contains notes (p, y)) (sym (ap (λ s. s.seen) c.join.ensures.into)) (Contains-append_left c.join-chair.result.0.seen c.join-chair.result.1.seen (p, y) has)) at in
    reached_ends (x + c.args.times) high low c.join-chair.result.0 worked (λ y has. grown 0 y high has at_high) (λ y has. grown 1 y low has at_low)
