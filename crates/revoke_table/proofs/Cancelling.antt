-- Which entries a list of revokes cancels.
use Rattle.std.proofs.Common.{◌≡◌, ℕ, Bool, true, false, cond, ◌||◌, ◌&&◌, List, [], ◌∷◌, Option, None, Some, ltb, eqb, max, refl, sym, ap, ◌∙◌, inl, inr, ◌⊎◌, subst, arith}
use Rattle.std.proofs.lemmas.Bool.{ne_eqb}
use Rattle.std.proofs.lemmas.Bool.Decides.{eqb_tells, nat_tests}
use Rattle.std.specs.Prelude.{unwrap_or}
use Rattle.std.specs.Option.{option_map_or}
use Rattle.std.specs.List.{list_any}
use Rattle.std.specs.Ordering.{nat_cmp}
use Rattle.std.specs.Cmp.{nat_cmp_total, unsigned_tied}
use Rattle.std.specs.FinMap.{get, get-empty, get-insert}
use Rattle.revoke_table.specs.Revokes.{Greatest, with_revoke, is_cancelled, all_revoked}

below_max : (s r g : ℕ) → ltb s (max r g) ≡ (ltb s r || ltb s g)
below_max s r g = grind (arith, nat_tests)

below_greatest : (s r : ℕ) (o : Option ℕ) → ltb s (max r (unwrap_or o 0)) ≡ (ltb s r || option_map_or (λ g. ltb s g) o false)
below_greatest s r None = grind (arith, nat_tests)
below_greatest s r (Some g) = below_max s r g

one_more : (t : Bool) (s r : ℕ) (o : Option ℕ) → option_map_or (λ g. ltb s g) (cond t (Some (max r (unwrap_or o 0))) o) false
    ≡ ((t && ltb s r) || option_map_or (λ g. ltb s g) o false)
one_more true s r o = below_greatest s r o
one_more false s r o = refl

module _ (table : Greatest) (sequence s : ℕ) where
  looked : (block b : ℕ) → is_cancelled (with_revoke table block sequence) b s
      ≡ option_map_or (λ g. ltb s g) (cond (eqb b block) (Some (max sequence (unwrap_or (get table block) 0))) (get table b)) false
  looked block b = ap (λ o. option_map_or (λ g. ltb s g) o false) (get-insert nat_cmp_total table block _ b
      ∙ ap (λ t. cond t (Some (max sequence (unwrap_or (get table block) 0))) (get table b)) (unsigned_tied b block))

  at_block : (block b : ℕ) → is_cancelled (with_revoke table block sequence) b s ≡ ((eqb block b && ltb s sequence) || is_cancelled table b s)
  at_block block b = by (eqb_tells block b)
    where
      by : ((eqb block b ≡ true) × (block ≡ b)) ⊎ ((eqb block b ≡ false) × (block ≡ b → ⊥))
          → is_cancelled (with_revoke table block sequence) b s ≡ ((eqb block b && ltb s sequence) || is_cancelled table b s)
      by (inl h) = subst (λ k. is_cancelled (with_revoke table k sequence) b s ≡ ((eqb k b && ltb s sequence) || is_cancelled table b s)) (sym h.1)
          (looked b b ∙ one_more (eqb b b) s sequence (get table b))
      by (inr h) = looked block b
          ∙ ap (λ t. option_map_or (λ g. ltb s g) (cond t (Some (max sequence (unwrap_or (get table block) 0))) (get table b)) false) (ne_eqb b block (λ e. h.1 (sym e)))
          ∙ sym (ap (λ t. (t && ltb s sequence) || is_cancelled table b s) h.0)

pub later_cancel : (rs : List (ℕ × ℕ)) (b s : ℕ) → is_cancelled (all_revoked rs) b s ≡ list_any (λ r. (eqb r.0 b) && ltb s r.1) rs
later_cancel [] b s = ap (λ o. option_map_or (λ g. ltb s g) o false) (get-empty nat_cmp b)
later_cancel (r ∷ rs) b s = at_block (all_revoked rs) r.1 s r.0 b ∙ ap (λ c. (eqb r.0 b && ltb s r.1) || c) (later_cancel rs b s)
