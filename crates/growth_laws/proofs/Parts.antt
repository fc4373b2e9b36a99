-- Parts that are the same tell the same.
use Rattle.std.proofs.Common.{◌≡◌, ◌≢◌, ℕ, Option, Some, None, sym, ap, subst, ◌∙◌}
use Rattle.gfs2_layout.specs.Holding.{Part, Itself, Pointed, Holding, part_at}
use Rattle.gfs2_layout.specs.Inode.{IsPointed}

from_in : Option Part → ℕ
from_in (Some (Pointed from k level first)) = from
from_in _ = 0

pointer_in : Option Part → ℕ
pointer_in (Some (Pointed from k level first)) = k
pointer_in _ = 0

level_in : Option Part → ℕ
level_in (Some (Pointed from k level first)) = level
level_in _ = 0

first_in : Option Part → ℕ
first_in (Some (Pointed from k level first)) = first
first_in _ = 0

module _ {a j l s a' j' l' s' : ℕ} (same : Some (Pointed a j l s) ≡ Some (Pointed a' j' l' s')) where
  pub same_from : a ≡ a'
  unfolding from_in
  same_from = ap from_in same

  pub same_pointer : j ≡ j'
  unfolding pointer_in
  same_pointer = ap pointer_in same

  pub same_level : l ≡ l'
  unfolding level_in
  same_level = ap level_in same

  pub same_first : s ≡ s'
  unfolding first_in
  same_first = ap first_in same

pub not_itself : (a j l s : ℕ) → Some Itself ≡ Some (Pointed a j l s) → ⊥
not_itself a j l s e = cc

-- a block with a part isn't block 0
pub some_part : (h : Holding) (x : ℕ) (p : Part) → part_at h 0 ≡ None → part_at h x ≡ Some p → x ≢ 0
some_part h x p nobody part none = let both : Some p ≡ None = sym part ∙ ap (part_at h) none ∙ nobody in absurd (cc)

-- a pointer in other words
pub pointed_at : (h : Holding) {x a j l s x' a' j' l' s' : ℕ} → x ≡ x' → a ≡ a' → j ≡ j' → l ≡ l' → s ≡ s' → IsPointed h x' a' j' l' s' → IsPointed h x a j l s
pointed_at h {x} {a} {j} {l} {s} {x'} {a'} {j'} {l'} {s'} xe ae je le se pointed =
    subst (λ n. IsPointed h n a j l s) (sym xe) (subst (λ n. IsPointed h x' n j l s) (sym ae) (subst (λ n. IsPointed h x' a' n l s) (sym je)
    (subst (λ n. IsPointed h x' a' j' n s) (sym le) (subst (IsPointed h x' a' j' l') (sym se) pointed))))
