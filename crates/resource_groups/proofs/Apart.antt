-- A block is a data block of one group alone.
use Rattle.std.proofs.Common.{◌≡◌, ℕ, zero, suc, ◌+◌, ◌<◌, ◌≤◌, List, [], ◌∷◌, length, get_or, take, sym, ap, ◌∙◌, subst, inl, inr, arith, length-take}
use Rattle.std.specs.List.{All}
use Rattle.std.proofs.lemmas.Bool.{cases_lt}
use Rattle.std.proofs.lemmas.List.{get_or-take, get_or_default}
use Rattle.glock_names.specs.Views.{Seen, IsView, Rise, HasGroup, end_of}
use Rattle.glock_names.specs.declared.views.Group.{Group}
use Rattle.resource_groups.specs.Shown.{IsHeaderOf, IsDataOf}
use Rattle.resource_groups.proofs.Fits.{fit_at, fit_of}

-- a later group lies at or above the end of this one
above : (size least : ℕ) (gs : List Group) (k : ℕ) (g : Group) → Rise size least gs → k < length gs → get_or gs k g ≡ g → least ≤ g.addr
above size least [] k g rise low is = absurd (omega (arith, low))
above size least (h ∷ gs) zero g rise low is = subst (λ x. least ≤ x.addr) is rise.1
above size least (h ∷ gs) (suc k) g rise low is =
    let later = above size (end_of h) gs k g rise.2 (omega (arith, low)) is in
    omega (arith, later, rise.1, rise.0.first)

same_group : (size least : ℕ) (gs : List Group) (j k b : ℕ) (g h : Group) → Rise size least gs → j < length gs → get_or gs j g ≡ g → k < length gs → get_or gs k h ≡ h → IsDataOf g b → IsDataOf h b → g ≡ h
same_group size least [] j k b g h rise low is low_h is_h of_g of_h = absurd (omega (arith, low))
same_group size least (x ∷ gs) zero zero b g h rise low is low_h is_h of_g of_h = sym is ∙ is_h
same_group size least (x ∷ gs) zero (suc k) b g h rise low is low_h is_h of_g of_h =
    let later = above size (end_of x) gs k h rise.2 (omega (arith, low_h)) is_h in
    let fit = fit_at size (end_of x) gs k h rise.2 (omega (arith, low_h)) is_h in
    let end = ap end_of is in
    absurd (omega (arith, later, fit.first, of_g.high, of_h.low, end))
same_group size least (x ∷ gs) (suc j) zero b g h rise low is low_h is_h of_g of_h =
    let later = above size (end_of x) gs j g rise.2 (omega (arith, low)) is in
    let fit = fit_at size (end_of x) gs j g rise.2 (omega (arith, low)) is in
    let end = ap end_of is_h in
    absurd (omega (arith, later, fit.first, of_h.high, of_g.low, end))
same_group size least (x ∷ gs) (suc j) (suc k) b g h rise low is low_h is_h of_g of_h = same_group size (end_of x) gs j k b g h rise.2 (omega (arith, low)) is (omega (arith, low_h)) is_h of_g of_h

pub one_group : (v : Seen) (b : ℕ) (g h : Group) → IsView v → HasGroup v g → IsDataOf g b → HasGroup v h → IsDataOf h b → g ≡ h
one_group v b g h view has_g of_g has_h of_h = same_group v.size 0 v.groups has_g.0 has_h.0 b g h view.groups.rise has_g.1 has_g.2 has_h.1 has_h.2 of_g of_h

-- ---- the blocks from a group's header to its last data block

pub record IsWithin (g : Group) (b : ℕ) : Type 0 where
  pub low : g.addr ≤ b
  pub high : b < end_of g

within_same : (size least : ℕ) (gs : List Group) (j k b : ℕ) (g h : Group) → Rise size least gs → j < length gs → get_or gs j g ≡ g → k < length gs → get_or gs k h ≡ h → IsWithin g b → IsWithin h b → g ≡ h
within_same size least [] j k b g h rise low is low_h is_h of_g of_h = absurd (omega (arith, low))
within_same size least (x ∷ gs) zero zero b g h rise low is low_h is_h of_g of_h = sym is ∙ is_h
within_same size least (x ∷ gs) zero (suc k) b g h rise low is low_h is_h of_g of_h =
    let later = above size (end_of x) gs k h rise.2 (omega (arith, low_h)) is_h in
    let end = ap end_of is in
    absurd (omega (arith, later, of_g.high, of_h.low, end))
within_same size least (x ∷ gs) (suc j) zero b g h rise low is low_h is_h of_g of_h =
    let later = above size (end_of x) gs j g rise.2 (omega (arith, low)) is in
    let end = ap end_of is_h in
    absurd (omega (arith, later, of_h.high, of_g.low, end))
within_same size least (x ∷ gs) (suc j) (suc k) b g h rise low is low_h is_h of_g of_h = within_same size (end_of x) gs j k b g h rise.2 (omega (arith, low)) is (omega (arith, low_h)) is_h of_g of_h

module _ (v : Seen) (view : IsView v) (g h : Group) (has_g : HasGroup v g) (has_h : HasGroup v h) where
  same_within : (b : ℕ) → IsWithin g b → IsWithin h b → g ≡ h
  same_within b of_g of_h = within_same v.size 0 v.groups has_g.0 has_h.0 b g h view.groups.rise has_g.1 has_g.2 has_h.1 has_h.2 of_g of_h

  header_within : (x : Group) → HasGroup v x → (b : ℕ) → IsHeaderOf x b → IsWithin x b
  header_within x has b own = let fit = fit_of v x view has in record { low = own.low; high = omega (arith, own.high, fit.first) }

  data_within : (x : Group) → HasGroup v x → (b : ℕ) → IsDataOf x b → IsWithin x b
  data_within x has b own = let fit = fit_of v x view has in record { low = omega (arith, own.low, fit.first); high = own.high }

  -- a header or bitmap block is one of one group alone, and no data block
  pub one_header : (b : ℕ) → IsHeaderOf g b → IsHeaderOf h b → g ≡ h
  one_header b own other = same_within b (header_within g has_g b own) (header_within h has_h b other)

  pub no_header_data : (b : ℕ) → IsHeaderOf g b → IsDataOf h b → ⊥
  no_header_data b own other =
      let same = same_within b (header_within g has_g b own) (data_within h has_h b other) in
      let there : IsDataOf g b = subst (λ x. IsDataOf x b) (sym same) other in
      let fit = fit_of v g view has_g in
      omega (arith, own.high, there.low, fit.first)

-- where no group has the block among its data blocks, none was to be found
pub none_has : (groups : List Group) (n b k : ℕ) (g : Group) → length groups ≤ n → All (λ h. ¬ (IsDataOf h b)) (take n groups) → k < length groups → get_or groups k g ≡ g → IsDataOf g b → ⊥
none_has groups n b k g past none low is own =
    none k g (omega (arith, length-take n groups, low, past)) (subst (λ h. IsDataOf h b) (sym (get_or-take n groups k g (omega (arith, low, past)) ∙ is)) own)

pub none_more : (groups : List Group) (n b : ℕ) (e : Group) → n < length groups → ¬ (IsDataOf (get_or groups n e) b) → All (λ h. ¬ (IsDataOf h b)) (take n groups) → All (λ h. ¬ (IsDataOf h b)) (take (n + 1) groups)
none_more groups n b e low not none k d within own =
    let long : length (take (n + 1) groups) ≡ n + 1 = length-take (n + 1) groups ∙ omega (arith, low) in
    let at : get_or (take (n + 1) groups) k d ≡ get_or groups k d = get_or-take (n + 1) groups k d (omega (arith, within, long)) in
    elim (cases_lt k n) [
      | inl early ↦ none k d (omega (arith, early, length-take n groups, low)) (subst (λ h. IsDataOf h b) (at ∙ sym (get_or-take n groups k d early)) own)
      | inr late ↦
          let last : k ≡ n = omega (arith, late, within, long) in
          not (subst (λ h. IsDataOf h b) (at ∙ ap (λ i. get_or groups i d) last ∙ get_or_default groups n d e low) own)
    ]
