-- The tree of what becomes of blocks, seen as a finite map.
use Rattle.std.proofs.Common.{◌≡◌, ℕ, inl, inr, Bool, true, false, cond, T, Bor, List, [], ◌∷◌, ◌++◌, length, Option, None, Some, refl, sym, ap, ◌∙◌, subst}
use Rattle.std.specs.Prelude.{◌&&◌, IfSome, IfNone}
use Rattle.std.specs.declared.cmp.Ordering.TheVariants.{Less}
use Rattle.std.specs.Ordering.{nat_cmp, eq_by_cmp, is_eq}
use Rattle.std.specs.Cmp.{nat_cmp_total}
use Rattle.std.specs.List.{AllByRecursion}
use Rattle.std.specs.List.Sorted.{IsStrictlySortedBy}
use Rattle.std.specs.Map.{lookup, keys_of}
use Rattle.std.specs.FinMap.{FinMap, get, insert, entries, from_entries, from_sorted, is_sorted, find, get-empty, get-entries, get-from_entries, entries-from_sorted, same_map, nat_cmp-IsAntisymmetric}
use Rattle.std.specs.FinMap.Entries.{below_all}
use Rattle.std.proofs.lemmas.Bool.{cases_eq}
use Rattle.finite_maps.proofs.Seen.{get-seen, seen_insert}
use Rattle.finite_maps.proofs.Keys.{inserted_at, inserted_apart}
use Rattle.glock_names.specs.declared.LockName.{LockName}
use Rattle.drafts.specs.declared.fate.Fate.{Fate}
use Rattle.drafts.specs.declared.fate.Fate.TheVariants.{Put, Freed}
use Rattle.drafts.specs.Fates.{AreWhole, blocks_in, locks_in, freed_in}

module _ {V : Type 0} where
  pub get_fates : (es : List (ℕ × V)) (q : ℕ) → get (from_entries {R = nat_cmp} es) q ≡ lookup (λ x. is_eq (nat_cmp q x)) es
  get_fates = get-seen nat_cmp_total nat_cmp-IsAntisymmetric (eq_by_cmp nat_cmp) (λ a b. refl)

  pub fates_insert : (es fs : List (ℕ × V)) (k : ℕ) (v : V) → ((q : ℕ) → lookup (λ x. is_eq (nat_cmp q x)) fs ≡ cond (is_eq (nat_cmp k q)) (Some v) (lookup (λ x. is_eq (nat_cmp q x)) es))
      → from_entries {R = nat_cmp} fs ≡ insert (from_entries es) k v
  fates_insert = seen_insert nat_cmp_total nat_cmp-IsAntisymmetric (eq_by_cmp nat_cmp) (λ a b. refl)

  -- a list whose keys rise is the list of its map's entries
  below : (k : ℕ) (es : List (ℕ × V)) → AllByRecursion (λ y. nat_cmp k y ≡ Less) (keys_of es) → T (below_all nat_cmp k es)
  below k [] all = tt
  below k (e ∷ es) all = rw all.0 (below k es all.1)

  rises : (es : List (ℕ × V)) → IsStrictlySortedBy nat_cmp (keys_of es) → T (is_sorted nat_cmp es)
  unfolding IsStrictlySortedBy
  rises [] is = tt
  rises (e ∷ es) is = both_true _ _ (below e.0 es is.0) (rises es is.1)
    where
      both_true : (a b : Bool) → T a → T b → T (a && b)
      both_true true b x y = y
      both_true false b x y = absurd x

  pub entries_again : (es : List (ℕ × V)) → IsStrictlySortedBy nat_cmp (keys_of es) → entries (from_entries {R = nat_cmp} es) ≡ es
  entries_again es is =
      let rise = rises es is in
      let same : from_entries {R = nat_cmp} es ≡ from_sorted es = same_map nat_cmp_total nat_cmp-IsAntisymmetric _ _
      (λ q. get-from_entries nat_cmp_total es q ∙ ap (find nat_cmp q) (sym (entries-from_sorted nat_cmp es rise)) ∙ sym (get-entries (from_sorted es) q)) in
      ap entries same ∙ entries-from_sorted nat_cmp es rise

-- ---- what is written is whole

pub whole_empty : (size : ℕ) (es : List (ℕ × Fate)) → es ≡ [] → AreWhole size (from_entries {R = nat_cmp} es)
whole_empty size es none b lock plain bytes e = absurd (no (sym (get-empty nat_cmp b) ∙ ap (λ l. get (from_entries {R = nat_cmp} l) b) (sym none) ∙ e))
  where
    no : {f : Fate} → ◌≡◌ {A = Option Fate} None (Some f) → ⊥
    no e = cc

pub whole_insert : (size : ℕ) (fates : FinMap nat_cmp Fate) (k : ℕ) (fate : Fate) → AreWhole size fates
    → ((lock : LockName) (plain : Bool) (bytes : List ℕ) → fate ≡ Put lock plain bytes → length bytes ≡ size) → AreWhole size (insert fates k fate)
whole_insert size fates k fate whole new b lock plain bytes e = elim (cases_eq b k) [
  | inl same ↦ new lock plain bytes (inside (sym (inserted_at nat_cmp_total nat_cmp-IsAntisymmetric fates k fate) ∙ ap (get (insert fates k fate)) (sym same) ∙ e))
  | inr apart ↦ whole b lock plain bytes (sym (inserted_apart nat_cmp_total nat_cmp-IsAntisymmetric fates k fate b apart) ∙ e)
]
  where
    inside : {f g : Fate} → Some f ≡ Some g → f ≡ g
    inside e = cc

pub rises_empty : (es : List (ℕ × Fate)) → es ≡ [] → IsStrictlySortedBy nat_cmp (keys_of es)
unfolding IsStrictlySortedBy
rises_empty es none = subst (λ l. IsStrictlySortedBy nat_cmp (keys_of l)) (sym none) tt

pub put_parts : (lock lock' : LockName) (plain plain' : Bool) (bytes bytes' : List ℕ) → Put lock plain bytes ≡ Put lock' plain' bytes' → bytes ≡ bytes'
put_parts lock lock' plain plain' bytes bytes' e = cc

-- ---- the change, block by block

pub blocks_append : (b : ℕ) (fate : Fate) (fates : List (ℕ × Fate)) → blocks_in ((b, fate) ∷ fates) ≡ blocks_in ((b, fate) ∷ []) ++ blocks_in fates
blocks_append b (Put lock plain bytes) fates = refl
blocks_append b Freed fates = refl

pub locks_append : (b : ℕ) (fate : Fate) (fates : List (ℕ × Fate)) → locks_in ((b, fate) ∷ fates) ≡ locks_in ((b, fate) ∷ []) ++ locks_in fates
locks_append b (Put lock plain bytes) fates = refl
locks_append b Freed fates = refl

pub freed_append : (b : ℕ) (fate : Fate) (fates : List (ℕ × Fate)) → freed_in ((b, fate) ∷ fates) ≡ freed_in ((b, fate) ∷ []) ++ freed_in fates
freed_append b (Put lock plain bytes) fates = refl
freed_append b Freed fates = refl

-- ---- what a look answers, of bytes that are the same

pub some_so : {X : Type 0} (o : Option (Bor X)) {seen : Option X} (told : Option X) → told ≡ seen → IfSome o (λ x. seen ≡ Some x.now) → IfSome o (λ x. told ≡ Some x.now)
some_so None told e h = h
some_so (Some x) told e h = e ∙ h

pub none_so : {X : Type 0} (o : Option (Bor X)) {seen : Option X} (told : Option X) → told ≡ seen → IfNone o (seen ≡ None) → IfNone o (told ≡ None)
none_so None told e h = e ∙ h
none_so (Some x) told e h = h
