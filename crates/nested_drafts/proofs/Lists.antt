-- Lists that are gone over, and blocks that are put one after another.
use Rattle.std.proofs.Common.{◌≡◌, ℕ, zero, suc, ◌+◌, ◌<◌, ◌≤◌, inl, inr, false, List, [], ◌∷◌, ◌++◌, length, get_or, take, refl, sym, ap, ◌∙◌, subst, arith}
use Rattle.std.specs.Prelude.{Contains}
use Rattle.std.proofs.lemmas.List.{take_all}
use Rattle.std.proofs.lemmas.List.Elements.{Contains-append_cases}
use Rattle.std.specs.FinMap.{FinMap, insert}
use Rattle.std.specs.Ordering.{nat_cmp}
use Rattle.drafts.specs.Fates.{Drafted}
use Rattle.drafts.specs.declared.change.Written.{Written}
use Rattle.drafts.specs.declared.fate.Fate.{Fate}
use Rattle.drafts.specs.declared.fate.Fate.TheVariants.{Put}
use Rattle.glock_names.specs.declared.LockName.{LockName}
use Rattle.nested_drafts.specs.Nested.{with_blocks}

take_more : {X : Type 0} (xs : List X) (n : ℕ) (e : X) → n < length xs → take (n + 1) xs ≡ take n xs ++ get_or xs n e ∷ []
take_more [] n e low = absurd (omega (arith, low))
take_more (x ∷ xs) zero e low = refl
take_more (x ∷ xs) (suc n) e low =
    let next : suc n + 1 ≡ suc (n + 1) = omega arith in
    ap (λ m. take m (x ∷ xs)) next ∙ ap (λ ys. x ∷ ys) (take_more xs n e (omega (arith, low)))

pub each_next : {X : Type 0} (xs : List X) (n : ℕ) (e : X) (P : X → Type 0) → n < length xs → ((x : X) → Contains (take n xs) x → P x) → P (get_or xs n e) → (x : X) → Contains (take (n + 1) xs) x → P x
each_next {X} xs n e P low before here x has =
    elim (Contains-append_cases (take n xs) (get_or xs n e ∷ []) x (subst (λ ys. Contains ys x) (take_more xs n e low) has)) [
      | inl early ↦ before x early
      | inr last ↦ subst P (only last) here
    ]
  where
    only : Contains (get_or xs n e ∷ []) x → get_or xs n e ≡ x
    only (zero, low', is) = is
    only (suc m, low', is) = absurd (omega (arith, low'))

pub each_all : {X : Type 0} (xs : List X) (n : ℕ) (P : X → Type 0) → length xs ≤ n → ((x : X) → Contains (take n xs) x → P x) → (x : X) → Contains xs x → P x
each_all xs n P past each x has = each x (subst (λ ys. Contains ys x) (sym (take_all n xs past)) has)

-- one block more is put
put_last : (lock : LockName) (ws : List Written) (w : Written) (fates : FinMap nat_cmp Fate) → with_blocks lock (ws ++ w ∷ []) fates ≡ insert (with_blocks lock ws fates) w.block (Put lock false w.bytes)
put_last lock [] w fates = refl
put_last lock (v ∷ ws) w fates = put_last lock ws w (insert fates v.block (Put lock false v.bytes))

pub put_more : (lock : LockName) (ws : List Written) (n : ℕ) (w : Written) (fates : FinMap nat_cmp Fate) → n < length ws
    → with_blocks lock (take (n + 1) ws) fates ≡ insert (with_blocks lock (take n ws) fates) (get_or ws n w).block (Put lock false (get_or ws n w).bytes)
put_more lock ws n w fates low = ap (λ xs. with_blocks lock xs fates) (take_more ws n w low) ∙ put_last lock (take n ws) (get_or ws n w) fates

pub put_one : {V : Type 0} (old mid new : Drafted V) (lock lock' : LockName) (ws : List Written) (n : ℕ) (w : Written) (bytes : List ℕ) → n < length ws → mid ≡ record old { fates = with_blocks lock (take n ws) old.fates }
    → w ≡ get_or ws n w → bytes ≡ w.bytes → lock' ≡ lock → new ≡ record mid { fates = insert mid.fates w.block (Put lock' false bytes) } → new ≡ record old { fates = with_blocks lock (take (n + 1) ws) old.fates }
put_one {V} old mid new lock lock' ws n w bytes low so_far item whole same put =
    put ∙ ap (λ (d : Drafted V). record d { fates = insert d.fates w.block (Put lock' false bytes) }) so_far
    ∙ ap (λ l. record old { fates = insert (with_blocks lock (take n ws) old.fates) w.block (Put l false bytes) }) same
    ∙ ap (λ (xs : List ℕ). record old { fates = insert (with_blocks lock (take n ws) old.fates) w.block (Put lock false xs) }) whole
    ∙ ap (λ (v : Written). record old { fates = insert (with_blocks lock (take n ws) old.fates) v.block (Put lock false v.bytes) }) item
    ∙ ap (λ fates. record old { fates = fates }) (sym (put_more lock ws n w old.fates low))
