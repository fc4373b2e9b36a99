-- What becomes of a block in a draft, by what became of it in one over it.
use Rattle.std.proofs.Common.{◌≡◌, ◌≢◌, ◌⊎◌, ℕ, zero, suc, ◌<◌, inl, inr, Bool, true, false, cond, T, List, [], ◌∷◌, Option, None, Some, refl, sym, ap, ap₂, ◌∙◌, subst, arith}
use Rattle.std.specs.Prelude.{◌&&◌, Contains}
use Rattle.std.specs.Cmp.{nat_cmp_total, ranks}
use Rattle.std.specs.FinMap.{FinMap, entries, entries_sorted, find, get, get-entries, insert, is_sorted, nat_cmp-IsAntisymmetric}
use Rattle.std.specs.FinMap.Entries.{below_all}
use Rattle.std.specs.Ordering.{is_lt, nat_cmp, MatchOrdering}
use Rattle.std.specs.declared.cmp.Ordering.{Ordering}
use Rattle.std.specs.declared.cmp.Ordering.TheVariants.{Less, Equal, Greater}
use Rattle.std.proofs.lemmas.Bool.{cases_eq}
use Rattle.finite_maps.proofs.Keys.{inserted_at, inserted_apart, tied, untied}
use Rattle.drafts.specs.Fates.{block_with, blocks_in, seen_with}
use Rattle.drafts.specs.declared.change.Written.{Written}
use Rattle.drafts.specs.declared.fate.Fate.{Fate}
use Rattle.drafts.specs.declared.fate.Fate.TheVariants.{Put, Freed}
use Rattle.glock_names.specs.Views.{Seen}
use Rattle.glock_names.specs.declared.LockName.{LockName}
use Rattle.nested_drafts.specs.Nested.{fate_over, with_blocks}

both_of : (a b : Bool) → T (a && b) → T a × T b
both_of true b h = (tt, h)
both_of false b h = absurd h

above : (k x : ℕ) → T (is_lt (nat_cmp k x)) → k < x
above k x h = by (nat_cmp k x) (ranks k x) h
  where
    by : (r : Ordering) → MatchOrdering r (k < x) (k ≡ x) (x < k) → T (is_lt r) → k < x
    by Less m t = m
    by Equal m t = absurd t
    by Greater m t = absurd t

find_above : (k : ℕ) (es : List (ℕ × Fate)) → T (below_all nat_cmp k es) → find nat_cmp k es ≡ None
find_above k [] h = refl
find_above k (e ∷ es) h =
    let hs = both_of (is_lt (nat_cmp k e.0)) (below_all nat_cmp k es) h in
    let less = above k e.0 hs.0 in
    ap (λ t. cond t (Some e.1) (find nat_cmp k es)) (untied nat_cmp-IsAntisymmetric k e.0 (λ s. absurd (omega (arith, s, less)))) ∙ find_above k es hs.1

found_here : (x : ℕ) (f : Fate) (es : List (ℕ × Fate)) (b : ℕ) → b ≡ x → find nat_cmp b ((x, f) ∷ es) ≡ Some f
found_here x f es b same = ap (λ z. find nat_cmp z ((x, f) ∷ es)) same ∙ ap (λ t. cond t (Some f) (find nat_cmp x es)) (tied nat_cmp_total x)

found_later : (x : ℕ) (f : Fate) (es : List (ℕ × Fate)) (b : ℕ) → b ≢ x → find nat_cmp b ((x, f) ∷ es) ≡ find nat_cmp b es
found_later x f es b other = ap (λ t. cond t (Some f) (find nat_cmp b es)) (untied nat_cmp-IsAntisymmetric b x other)

put_found : (lock : LockName) (es : List (ℕ × Fate)) (fates : FinMap nat_cmp Fate) (b : ℕ) → T (is_sorted nat_cmp es) → get (with_blocks lock (blocks_in es) fates) b ≡ fate_over lock (find nat_cmp b es) (get fates b)
put_found lock [] fates b sorted = refl
put_found lock ((x, Put l plain bytes) ∷ es) fates b sorted =
    let parts = both_of (below_all nat_cmp x es) (is_sorted nat_cmp es) sorted in
    let rest = put_found lock es (insert fates x (Put lock false bytes)) b parts.1 in
    elim (cases_eq b x) [
      | inl same ↦ rest ∙ ap₂ (λ o q. fate_over lock o q) (ap (λ z. find nat_cmp z es) same ∙ find_above x es parts.0) (ap (get (insert fates x (Put lock false bytes))) same ∙ inserted_at nat_cmp_total nat_cmp-IsAntisymmetric fates x (Put lock false bytes))
          ∙ sym (ap (λ o. fate_over lock o (get fates b)) (found_here x (Put l plain bytes) es b same))
      | inr other ↦ rest ∙ ap (fate_over lock (find nat_cmp b es)) (inserted_apart nat_cmp_total nat_cmp-IsAntisymmetric fates x (Put lock false bytes) b other) ∙ sym (ap (λ o. fate_over lock o (get fates b)) (found_later x (Put l plain bytes) es b other))
    ]
put_found lock ((x, Freed) ∷ es) fates b sorted =
    let parts = both_of (below_all nat_cmp x es) (is_sorted nat_cmp es) sorted in
    let rest = put_found lock es fates b parts.1 in
    elim (cases_eq b x) [
      | inl same ↦ rest ∙ ap (λ o. fate_over lock o (get fates b)) (ap (λ z. find nat_cmp z es) same ∙ find_above x es parts.0) ∙ sym (ap (λ o. fate_over lock o (get fates b)) (found_here x Freed es b same))
      | inr other ↦ rest ∙ sym (ap (λ o. fate_over lock o (get fates b)) (found_later x Freed es b other))
    ]

pub fates_put : (lock : LockName) (there fates : FinMap nat_cmp Fate) (b : ℕ) → get (with_blocks lock (blocks_in (entries there)) fates) b ≡ fate_over lock (get there b) (get fates b)
fates_put lock there fates b = put_found lock (entries there) fates b (entries_sorted there) ∙ ap (λ o. fate_over lock o (get fates b)) (sym (get-entries there b))

-- a block that isn't among those that are put keeps its fate
pub kept_or_put : (lock : LockName) (ws : List Written) (fates : FinMap nat_cmp Fate) (b : ℕ) → (get (with_blocks lock ws fates) b ≡ get fates b) ⊎ ((w : Written) × Contains ws w × (w.block ≡ b))
kept_or_put lock [] fates b = inl refl
kept_or_put lock (w ∷ ws) fates b = elim (kept_or_put lock ws (insert fates w.block (Put lock false w.bytes)) b) [
  | inl kept ↦ elim (cases_eq b w.block) [
    | inl same ↦ inr (w, (zero, omega arith, refl), sym same)
    | inr other ↦ inl (kept ∙ inserted_apart nat_cmp_total nat_cmp-IsAntisymmetric fates w.block (Put lock false w.bytes) b other)
  ]
  | inr later ↦ inr (later.0, (suc later.1.0, omega (arith, later.1.1), later.1.2), later.2)
]

-- a block that is told was put
told : (es : List (ℕ × Fate)) → T (is_sorted nat_cmp es) → (w : Written) → Contains (blocks_in es) w → (lock : LockName) × (plain : Bool) × (find nat_cmp w.block es ≡ Some (Put lock plain w.bytes))
told [] sorted w has = absurd (omega (arith, has.1))
told ((x, Put l plain bytes) ∷ es) sorted w (zero, low, is) =
    (l, plain, subst (λ (v : Written). find nat_cmp v.block ((x, Put l plain bytes) ∷ es) ≡ Some (Put l plain v.bytes)) is (found_here x (Put l plain bytes) es x refl))
told ((x, Put l plain bytes) ∷ es) sorted w (suc n, low, is) =
    let parts = both_of (below_all nat_cmp x es) (is_sorted nat_cmp es) sorted in
    let rest = told es parts.1 w (n, omega (arith, low), is) in
    (rest.0, rest.1, onward x (Put l plain bytes) es w.block _ parts.0 rest.2)
  where
    onward : (x : ℕ) (f : Fate) (es : List (ℕ × Fate)) (b : ℕ) (g : Fate) → T (below_all nat_cmp x es) → find nat_cmp b es ≡ Some g → find nat_cmp b ((x, f) ∷ es) ≡ Some g
    onward x f es b g below at = elim (cases_eq b x) [
      | inl same ↦ let never : None ≡ Some g = sym (find_above x es below) ∙ ap (λ z. find nat_cmp z es) (sym same) ∙ at in absurd (cc)
      | inr other ↦ found_later x f es b other ∙ at
    ]
told ((x, Freed) ∷ es) sorted w has =
    let parts = both_of (below_all nat_cmp x es) (is_sorted nat_cmp es) sorted in
    let rest = told es parts.1 w has in
    (rest.0, rest.1, onward x Freed es w.block _ parts.0 rest.2)
  where
    onward : (x : ℕ) (f : Fate) (es : List (ℕ × Fate)) (b : ℕ) (g : Fate) → T (below_all nat_cmp x es) → find nat_cmp b es ≡ Some g → find nat_cmp b ((x, f) ∷ es) ≡ Some g
    onward x f es b g below at = elim (cases_eq b x) [
      | inl same ↦ let never : None ≡ Some g = sym (find_above x es below) ∙ ap (λ z. find nat_cmp z es) (sym same) ∙ at in absurd (cc)
      | inr other ↦ found_later x f es b other ∙ at
    ]

pub told_put : (fates : FinMap nat_cmp Fate) (w : Written) → Contains (blocks_in (entries fates)) w → (lock : LockName) × (plain : Bool) × (get fates w.block ≡ Some (Put lock plain w.bytes))
told_put fates w has =
    let is = told (entries fates) (entries_sorted fates) w has in
    (is.0, is.1, get-entries fates w.block ∙ is.2)

-- so it is seen alike
seen_over : (lock : LockName) (above below : Option Fate) (was : Option (List ℕ)) → block_with (fate_over lock above below) was ≡ block_with above (block_with below was)
seen_over lock (Some (Put l plain bytes)) below was = refl
seen_over lock (Some Freed) below was = refl
seen_over lock None below was = refl

pub seen_alike : (v : Seen) (below above : FinMap nat_cmp Fate) (lock : LockName) (b : ℕ) → (seen_with v (with_blocks lock (blocks_in (entries above)) below)).block_at b ≡ (seen_with (seen_with v below) above).block_at b
seen_alike v below above lock b = ap (λ f. block_with f (v.block_at b)) (fates_put lock above below b) ∙ seen_over lock (get above b) (get below b) (v.block_at b)
