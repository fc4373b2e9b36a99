-- An order of frames and the place of each in it: what is left of it where the frame n, which is out, changes places with the last that is out.
use Rattle.std.proofs.Common.{◌≡◌, ◌≢◌, ℕ, ◌-◌, ◌<◌, ◌≤◌, ltb, ◌⊎◌, inl, inr, sym, ap, subst, ◌∙◌, arith}
use Rattle.std.proofs.lemmas.Bool.{cases_eq, lt-ltb, le-ltb, cases_lt}

module _ (count : ℕ) (o pl : ℕ → ℕ) where
  abbrev pub Stands : Type 0
  Stands = (i : ℕ) → i < count → (o i < count) × (pl (o i) ≡ i)

-- o and pl undo one another below count; so do o' and pl', which are o and pl after the swap
module _ (count out n : ℕ) (o pl o' pl' : ℕ → ℕ) (stands : Stands count o pl) (has_place : Stands count pl o)
    (within : n < count) (is_out : pl n < out) (some_out : out ≤ count)
    (o-at : o' (pl n) ≡ o (out - 1)) (o-last : o' (out - 1) ≡ o (pl n)) (o-other : (k : ℕ) → k ≢ pl n → k ≢ out - 1 → o' k ≡ o k)
    (pl-own : pl' n ≡ pl (o (out - 1))) (pl-moved : pl' (o (out - 1)) ≡ pl n) (pl-other : (k : ℕ) → k ≢ n → k ≢ o (out - 1) → pl' k ≡ pl k) where
  last-within : out - 1 < count
  last-within = omega arith

  last-place : pl (o (out - 1)) ≡ out - 1
  last-place = (stands (out - 1) last-within).1

  own-order : o (pl n) ≡ n
  own-order = (has_place n within).1

  below : (a b : ℕ) → a ≡ b → b < count → a < count
  below a b e h = subst (λ k. k < count) (sym e) h

  pub stands_after : Stands count o' pl'
  stands_after i h = by (cases_eq i (pl n)) (cases_eq i (out - 1))
    where
      by : (i ≡ pl n) ⊎ (i ≡ pl n → ⊥) → (i ≡ out - 1) ⊎ (i ≡ out - 1 → ⊥) → (o' i < count) × (pl' (o' i) ≡ i)
      by (inl e) h' = subst (λ k. (o' k < count) × (pl' (o' k) ≡ k)) (sym e) (below _ _ o-at (stands (out - 1) last-within).0, ap pl' o-at ∙ pl-moved)
      by (inr ne) (inl e) = subst (λ k. (o' k < count) × (pl' (o' k) ≡ k)) (sym e)
          (below _ _ (o-last ∙ own-order) within, ap pl' (o-last ∙ own-order) ∙ pl-own ∙ last-place)
      by (inr ne) (inr ne') =
          let same = o-other i ne ne' in
          let own = stands i h in
          (below _ _ same own.0, ap pl' same ∙ pl-other (o i) (λ e. ne (sym own.1 ∙ ap pl e)) (λ e. ne' (sym own.1 ∙ ap pl e ∙ last-place)) ∙ own.1)

  pub has_place_after : Stands count pl' o'
  has_place_after q h = by (cases_eq q n) (cases_eq q (o (out - 1)))
    where
      by : (q ≡ n) ⊎ (q ≡ n → ⊥) → (q ≡ o (out - 1)) ⊎ (q ≡ o (out - 1) → ⊥) → (pl' q < count) × (o' (pl' q) ≡ q)
      by (inl e) h' = subst (λ k. (pl' k < count) × (o' (pl' k) ≡ k)) (sym e)
          (below _ _ (pl-own ∙ last-place) last-within, ap o' (pl-own ∙ last-place) ∙ o-last ∙ own-order)
      by (inr ne) (inl e) = subst (λ k. (pl' k < count) × (o' (pl' k) ≡ k)) (sym e) (below _ _ pl-moved (has_place n within).0, ap o' pl-moved ∙ o-at)
      by (inr ne) (inr ne') =
          let same = pl-other q ne ne' in
          let own = has_place q h in
          (below _ _ same own.0, ap o' same ∙ o-other (pl q) (λ e. ne (sym own.1 ∙ ap o e ∙ own-order)) (λ e. ne' (sym own.1 ∙ ap o e)) ∙ own.1)

  -- the frame n is out no more
  pub own_in : ltb (pl' n) (out - 1) ≡ ltb 0 0
  own_in = ap (λ k. ltb k (out - 1)) (pl-own ∙ last-place) ∙ le-ltb (out - 1) (out - 1) (omega arith)

  both_below : (a b c d : ℕ) → (a < b → c < d) → (c < d → a < b) → ltb a b ≡ ltb c d
  both_below a b c d f g = by (cases_lt a b) (cases_lt c d)
    where
      by : (a < b) ⊎ (b ≤ a) → (c < d) ⊎ (d ≤ c) → ltb a b ≡ ltb c d
      by (inl h) h' = lt-ltb a b h ∙ sym (lt-ltb c d (f h))
      by (inr h) (inl h') = absurd (omega (arith, g h'))
      by (inr h) (inr h') = le-ltb a b h ∙ sym (le-ltb c d h')

  -- and every other as before
  pub others_stay : (q : ℕ) → q < count → q ≢ n → ltb (pl' q) (out - 1) ≡ ltb (pl q) out
  others_stay q h ne = by (cases_eq q (o (out - 1)))
    where
      by : (q ≡ o (out - 1)) ⊎ (q ≡ o (out - 1) → ⊥) → ltb (pl' q) (out - 1) ≡ ltb (pl q) out
      by (inl e) =
          let apart : pl n ≢ out - 1 = λ k. ne (e ∙ ap o (sym k) ∙ own-order) in
          subst (λ k. ltb (pl' k) (out - 1) ≡ ltb (pl k) out) (sym e)
          (ap (λ k. ltb k (out - 1)) pl-moved ∙ lt-ltb (pl n) (out - 1) (omega arith) ∙ sym (ap (λ k. ltb k out) last-place ∙ lt-ltb (out - 1) out (omega arith)))
      by (inr ne') =
          let apart : pl q ≢ out - 1 = λ k. ne' (sym (has_place q h).1 ∙ ap o k) in
          ap (λ k. ltb k (out - 1)) (pl-other q ne ne') ∙ both_below (pl q) (out - 1) (pl q) out (λ h. omega arith) (λ h. omega arith)
