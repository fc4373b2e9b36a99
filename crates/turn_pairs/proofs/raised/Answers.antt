use Rattle.std.proofs.Common.{◌≡◌, ℕ, ◌≤◌, ◌+◌, [], ◌∷◌, ◌++◌, slice_get, get_or, Contains, refl, sym, ap, ◌∙◌, subst, arith}
use Rattle.std.specs.List.{enumerate_from}
use Rattle.turn_pairs.specs.Pairs.{HaveReached}
use Rattle.turn_pairs.proofs.raised.Goals as goal

pub returns-clause-risen : goal.returns-clause-risen
returns-clause-risen g c =
    let numbers : c.push_reserved-2.new.self.items ≡ c.args.high ∷ c.args.low ∷ [] =
    c.push_reserved-2.ensures.items ∙ ap (λ xs. xs ++ c.args.low ∷ []) (c.push_reserved.ensures.items ∙ ap (λ xs. xs ++ c.args.high ∷ []) c.in-Ok.ensures.items) in
    let notes : c.in-Ok-new.chair.seen ≡ (0, c.args.high) ∷ (1, c.args.low) ∷ [] = ap (λ s. s.seen) c.in-Ok-new.ensures.seat ∙ ap (enumerate_from 0) numbers in
    let first : Contains ((0, c.args.high) ∷ (1, c.args.low) ∷ []) (0, c.args.high) = (0, omega arith, refl) in
    let second : Contains ((0, c.args.high) ∷ (1, c.args.low) ∷ []) (1, c.args.low) = (1, omega arith, refl) in
    let apart = c.raise_by_two-ends.ensures.apart in
    let low : ℕ = apart.0 in
    let high = c.raise_by_two-ends.ensures.risen 0 c.args.high (low + g.G.Gap.gap) (subst (λ seen. Contains seen (0, c.args.high)) (sym notes) first) (ap (λ xs. slice_get xs 0) apart.1) in
    let lower = c.raise_by_two-ends.ensures.risen 1 c.args.low low (subst (λ seen. Contains seen (1, c.args.low)) (sym notes) second) (ap (λ xs. slice_get xs 1) apart.1) in (
      subst (λ n. c.args.high ≤ n) (sym (c.index.ensures ∙ ap (λ xs. get_or xs 0 c.index.result.now) apart.1)) high,
      subst (λ n. c.args.low ≤ n) (sym (c.index-2.ensures ∙ ap (λ xs. get_or xs 1 c.index-2.result.now) apart.1)) lower,
    )

pub returns-clause-reached : goal.returns-clause-reached
returns-clause-reached g c =
    let numbers : c.push_reserved-2.new.self.items ≡ c.args.high ∷ c.args.low ∷ [] =
    c.push_reserved-2.ensures.items ∙ ap (λ xs. xs ++ c.args.low ∷ []) (c.push_reserved.ensures.items ∙ ap (λ xs. xs ++ c.args.high ∷ []) c.in-Ok.ensures.items) in
    let notes : c.in-Ok-new.chair.seen ≡ (0, c.args.high) ∷ (1, c.args.low) ∷ [] = ap (λ s. s.seen) c.in-Ok-new.ensures.seat ∙ ap (enumerate_from 0) numbers in
    let second : Contains ((0, c.args.high) ∷ (1, c.args.low) ∷ []) (1, c.args.low) = (1, omega arith, refl) in
    let apart = c.raise_by_two-ends.ensures.apart in
    let low : ℕ = apart.0 in
    let ends = c.raise_by_two-ends.ensures.reached c.args.low (low + g.G.Gap.gap) low (subst (λ seen. Contains seen (1, c.args.low)) (sym notes) second) (ap (λ xs. slice_get xs 0) apart.1) (ap (λ xs. slice_get xs 1) apart.1) in
    subst (λ high. HaveReached (c.args.low + c.args.times) high c.index-2.result.now) (sym (c.index.ensures ∙ ap (λ xs. get_or xs 0 c.index.result.now) apart.1))
    (subst (λ n. HaveReached (c.args.low + c.args.times) (low + g.G.Gap.gap) n) (sym (c.index-2.ensures ∙ ap (λ xs. get_or xs 1 c.index-2.result.now) apart.1)) ends)
