-- What a draft saw it sees on.
use Rattle.std.proofs.Common.{◌≡◌, ℕ, inl, inr, Bool, List, sym, ap, subst, ◌∙◌}
use Rattle.std.proofs.lemmas.Bool.{cases_eq}
use Rattle.std.specs.Cmp.{nat_cmp_total}
use Rattle.std.specs.Ordering.{nat_cmp}
use Rattle.std.specs.FinMap.{FinMap, get, insert, nat_cmp-IsAntisymmetric}
use Rattle.finite_maps.proofs.Keys.{inserted_at, inserted_apart}
use Rattle.drafts.specs.Fates.{Drafted, block_with, seen_in, seen_with}
use Rattle.drafts.specs.declared.fate.Fate.{Fate}
use Rattle.drafts.specs.declared.fate.Fate.TheVariants.{Put}
use Rattle.glock_names.specs.Views.{Seen, HasBlock}
use Rattle.glock_names.specs.declared.LockName.{LockName}

pub still_there : (v : Seen) (m : FinMap nat_cmp Fate) (x y : ℕ) (lock : LockName) (plain : Bool) (bytes : List ℕ) → HasBlock (seen_with v m) x → HasBlock (seen_with v (insert m y (Put lock plain bytes))) x
still_there v m x y lock plain bytes has = elim (cases_eq x y) [
  | inl same ↦
      (bytes, ap (λ f. block_with f (v.block_at x)) (ap (get (insert m y (Put lock plain bytes))) same ∙ inserted_at nat_cmp_total nat_cmp-IsAntisymmetric m y (Put lock plain bytes)))
  | inr other ↦ (has.0, ap (λ f. block_with f (v.block_at x)) (inserted_apart nat_cmp_total nat_cmp-IsAntisymmetric m y (Put lock plain bytes) x other) ∙ has.1)
]

module _ {V : Type 0} (seen : V → Seen) (old now : Drafted V) (x : ℕ) (has : HasBlock (seen_in seen old) x) where
  pub kept_by_one : (y : ℕ) (lock : LockName) (plain : Bool) (bytes : List ℕ) → now ≡ record old { fates = insert old.fates y (Put lock plain bytes) } → HasBlock (seen_in seen now) x
  kept_by_one y lock plain bytes is = subst (λ (d : Drafted V). HasBlock (seen_in seen d) x) (sym is) (still_there (seen old.view) old.fates x y lock plain bytes has)

  pub kept_by_two : (y z : ℕ) (lock lock' : LockName) (plain plain' : Bool) (bytes bytes' : List ℕ)
      → now ≡ record old { fates = insert (insert old.fates y (Put lock plain bytes)) z (Put lock' plain' bytes') } → HasBlock (seen_in seen now) x
  kept_by_two y z lock lock' plain plain' bytes bytes' is =
      subst (λ (d : Drafted V). HasBlock (seen_in seen d) x) (sym is)
      (still_there (seen old.view) (insert old.fates y (Put lock plain bytes)) x z lock' plain' bytes' (still_there (seen old.view) old.fates x y lock plain bytes has))
