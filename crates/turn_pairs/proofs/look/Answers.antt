use Rattle.std.proofs.Common.{◌≡◌, ℕ, ◌+◌, [], ◌∷◌, sym, ap, ◌∙◌}
use Rattle.turn_table.specs.Notes.{noted}
use Rattle.turn_pairs.proofs.Apart.{apart_found}
use Rattle.turn_pairs.proofs.look.Goals as goal

pub returns-clause-apart : goal.returns-clause-apart
returns-clause-apart g c =
    let legal = c.enter-second.ensures.legal in
    let first : ℕ = c.enter-first.result.value in
    let second : ℕ = c.enter-second.result.value in
    let one : c.enter-first.new.seat.turns ≡ (0, first) ∷ [] = ap (λ s. s.turns) c.enter-first.ensures.seat ∙ ap (λ ts. (0, first) ∷ ts) c.requires.idle in
    let two : c.enter-second.new.seat.turns ≡ (1, second) ∷ (0, first) ∷ [] = ap (λ s. s.turns) c.enter-second.ensures.seat ∙ ap (λ ts. (1, second) ∷ ts) one in
    let found = apart_found g.G.Gap.gap legal.0 first second legal.2 (legal.3 0 first (ap (noted 0) two)) (legal.3 1 second (ap (noted 1) two)) in
    c.value.ensures ∙ (found ∙ ap (λ n. n + g.G.Gap.gap) (sym c.value-2.ensures))
