use Rattle.std.proofs.Common.{◌≡◌, ℕ, ◌+◌, ◌≤◌, [], ◌∷◌, Contains, sym, ap, ◌∙◌, subst, arith}
use Rattle.std.proofs.lemmas.List.Elements.{Contains-append_right}
use Rattle.turn_table.specs.Notes.{noted}
use Rattle.turn_pairs.proofs.Apart.{apart_found, second_behind}
use Rattle.turn_pairs.proofs.raise_pair.Goals as goal

pub raise-requires : goal.raise-requires
raise-requires g c =
    let legal = c.enter-second.ensures.legal in
    let first : ℕ = c.enter-first.result.value in
    let second : ℕ = c.enter-second.result.value in
    let one : c.enter-first.new.seat.turns ≡ (0, first) ∷ [] = ap (λ s. s.turns) c.enter-first.ensures.seat ∙ ap (λ ts. (0, first) ∷ ts) c.requires.idle in
    let two : c.enter-second.new.seat.turns ≡ (1, second) ∷ (0, first) ∷ [] = ap (λ s. s.turns) c.enter-second.ensures.seat ∙ ap (λ ts. (1, second) ∷ ts) one in
    let found : first ≡ second + g.G.Gap.gap = apart_found g.G.Gap.gap legal.0 first second legal.2 (legal.3 0 first (ap (noted 0) two)) (legal.3 1 second (ap (noted 1) two)) in
    omega arith

pub returns-clause-kept : goal.returns-clause-kept
returns-clause-kept g c = λ p x seen.
    let one : c.enter-first.new.seat.seen ≡ (0, c.enter-first.result.value) ∷ c.args.chair.now.seen = ap (λ s. s.seen) c.enter-first.ensures.seat in
    let two : c.enter-second.new.seat.seen ≡ (1, c.enter-second.result.value) ∷ c.enter-first.new.seat.seen = ap (λ s. s.seen) c.enter-second.ensures.seat in
    let four : c.leave_pair.new.seat.seen ≡ (c.raise.new.first.part, c.raise.new.first.value) ∷ (c.raise.new.second.part, c.raise.new.second.value) ∷ c.enter-second.new.seat.seen =
    ap (λ s. s.seen) c.leave_pair.ensures.seat in
    let all : c.leave_pair.new.seat.seen
    ≡ (c.raise.new.first.part, c.raise.new.first.value) ∷ (c.raise.new.second.part, c.raise.new.second.value) ∷ (1, c.enter-second.result.value) ∷ (0, c.enter-first.result.value) ∷ c.args.chair.now.seen = cc in
    subst (λ notes. Contains notes (p, x)) (sym all)
    (Contains-append_right ((c.raise.new.first.part, c.raise.new.first.value) ∷ (c.raise.new.second.part, c.raise.new.second.value) ∷ (1, c.enter-second.result.value) ∷ (0, c.enter-first.result.value) ∷ [])
    c.args.chair.now.seen (p, x) seen)

pub returns-clause-reached : goal.returns-clause-reached
returns-clause-reached g c = λ x seen.
    let one : c.enter-first.new.seat.seen ≡ (0, c.enter-first.result.value) ∷ c.args.chair.now.seen = ap (λ s. s.seen) c.enter-first.ensures.seat in
    let grown : x ≤ c.enter-second.result.value =
    c.enter-second.ensures.grown x (subst (λ notes. Contains notes (1, x)) (sym one) (Contains-append_right ((0, c.enter-first.result.value) ∷ []) c.args.chair.now.seen (1, x) seen)) in
    let part_0 : c.raise.new.first.part ≡ 0 = c.raise.ensures.first.0 ∙ c.enter-first.ensures.held.0 in
    let part_1 : c.raise.new.second.part ≡ 1 = c.raise.ensures.second.0 ∙ c.enter-second.ensures.held.0 in
    second_behind x c.enter-first.result.value c.enter-second.result.value c.raise.new.first.value c.raise.new.second.value c.raise.new.first.part c.raise.new.second.part c.leave_pair.new.seat c.enter-second.new.seat.seen
    part_0 part_1 (ap (λ s. s.seen) c.leave_pair.ensures.seat) grown c.raise.ensures.risen c.raise.ensures.full
