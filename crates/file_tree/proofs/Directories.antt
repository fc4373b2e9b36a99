-- Directories whose names rise are the maps that they are; names that are set and taken out one after the other.
use Rattle.std.proofs.Common.{◌≡◌, ◌≢◌, ℕ, ◌⊎◌, inl, inr, List, Some, None, refl, sym, ap, subst, ◌∙◌}
use Rattle.std.proofs.lemmas.Bool.{cases_Bool, both_ways}
use Rattle.std.proofs.lemmas.Slice.Eq.{bytes_eq-Decides}
use Rattle.std.specs.Cmp.Lexicographic.{nat_list_cmp_total}
use Rattle.std.specs.Ordering.{ordering_reverse}
use Rattle.std.specs.Str.{bytes_eq}
use Rattle.std.specs.declared.cmp.Ordering.{Ordering}
use Rattle.std.specs.declared.cmp.Ordering.TheVariants.{Less, Equal, Greater}
use Rattle.file_tree.specs.Tree.{Tree, Entries, none, entry, name_order, if_equal, look, set, without, IsBelowFirst}
use Rattle.file_tree.specs.Held.{NamesRise}
use Rattle.file_tree.proofs.MapLaws.{same_order, order_self, look_self, look_eq, look_other}
use Rattle.file_tree.proofs.Places.{below_rest, below_all, rises_set}

pub same_or_not : (n m : List ℕ) → (n ≡ m) ⊎ (n ≢ m)
same_or_not n m = elim (cases_Bool (bytes_eq n m)) [
  | inl e ↦ inl ((bytes_eq-Decides n m).0 e)
  | inr e ↦ inr (λ q. both_ways _ e ((bytes_eq-Decides n m).1 q))
]

-- ---- a name that is set

set_at_same : (o : Ordering) (n k : List ℕ) (t v : Tree) (es : Entries) → name_order n k ≡ o → look (set es n t) n ≡ Some t → look (set (entry k v es) n t) n ≡ Some t
set_at_same Less n k t v es is more = rw is (look_self n _ _)
set_at_same Equal n k t v es is more = rw is (look_self n _ _)
set_at_same Greater n k t v es is more = rw is (rw is more)

pub look-set_same : (es : Entries) (n : List ℕ) (t : Tree) → look (set es n t) n ≡ Some t
look-set_same none n t = look_self n _ _
look-set_same (entry k v es) n t = set_at_same (name_order n k) n k t v es refl (look-set_same es n t)

set_at_other : (o : Ordering) (n k m : List ℕ) (t v : Tree) (es : Entries) → m ≢ n → name_order n k ≡ o → look (set es n t) m ≡ look es m
    → look (set (entry k v es) n t) m ≡ look (entry k v es) m
set_at_other Less n k m t v es d is more = rw is (look_other m n _ _ d)
set_at_other Equal n k m t v es d is more =
    rw is (look_other m n (Some t) (look es m) d ∙ sym (look_other m k (Some v) (look es m) (λ q. d (q ∙ sym (same_order n k is)))))
set_at_other Greater n k m t v es d is more = rw is (ap (λ z. if_equal (name_order m k) (Some v) z) more)

pub look-set_other : (es : Entries) (n m : List ℕ) (t : Tree) → m ≢ n → look (set es n t) m ≡ look es m
look-set_other none n m t d = look_other m n _ _ d
look-set_other (entry k v es) n m t d = set_at_other (name_order n k) n k m t v es d refl (look-set_other es n m t d)

-- and set again
pub set_again : (es : Entries) (n : List ℕ) (t u : Tree) → set (set es n t) n u ≡ set es n u
set_again none n t u = rw (order_self n) refl
set_again (entry k v es) n t u = by_place (name_order n k) refl (set_again es n t u)
  where
    by_place : (o : Ordering) → name_order n k ≡ o → set (set es n t) n u ≡ set es n u → set (set (entry k v es) n t) n u ≡ set (entry k v es) n u
    by_place Less is more = rw is (rw (order_self n) refl)
    by_place Equal is more = rw is (rw (order_self n) refl)
    by_place Greater is more = rw is (rw is (ap (entry k v) more))

-- ---- a name that is taken out

without_same : (es : Entries) (n k : List ℕ) (v : Tree) → n ≡ k → without (entry k v es) n ≡ es
without_same es n k v e = look_eq n k es (entry k v (without es n)) e

without_other : (es : Entries) (n k : List ℕ) (v : Tree) → n ≢ k → without (entry k v es) n ≡ entry k v (without es n)
without_other es n k v d = look_other n k es (entry k v (without es n)) d

pub look-without_other : (es : Entries) (n m : List ℕ) → m ≢ n → look (without es n) m ≡ look es m
look-without_other none n m d = refl
look-without_other (entry k v es) n m d = elim (same_or_not n k) [
  | inl e ↦ ap (λ z. look z m) (without_same es n k v e) ∙ sym (look_other m k (Some v) (look es m) (λ q. d (q ∙ sym e)))
  | inr different ↦ ap (λ z. look z m) (without_other es n k v different) ∙ ap (λ z. if_equal (name_order m k) (Some v) z) (look-without_other es n m d)
]

pub look-without_same : (es : Entries) (n : List ℕ) → NamesRise es → look (without es n) n ≡ None
look-without_same none n rise = refl
look-without_same (entry k v es) n rise = elim (same_or_not n k) [
  | inl e ↦ ap (λ z. look z n) (without_same es n k v e) ∙ below_all es n (subst (λ z. IsBelowFirst z es) (sym e) rise.0) rise.1
  | inr d ↦ ap (λ z. look z n) (without_other es n k v d) ∙ look_other n k (Some v) (look (without es n) n) d ∙ look-without_same es n rise.1
]

below_without : (es : Entries) (m n : List ℕ) → NamesRise es → IsBelowFirst m es → IsBelowFirst m (without es n)
below_without none m n rise low = tt
below_without (entry k v es) m n rise low = elim (same_or_not n k) [
  | inl e ↦ subst (IsBelowFirst m) (sym (without_same es n k v e)) (below_rest es k m rise.0 low)
  | inr d ↦ subst (IsBelowFirst m) (sym (without_other es n k v d)) low
]

pub rises_without : (es : Entries) (n : List ℕ) → NamesRise es → NamesRise (without es n)
rises_without none n rise = tt
rises_without (entry k v es) n rise = elim (same_or_not n k) [
  | inl e ↦ subst NamesRise (sym (without_same es n k v e)) rise.1
  | inr d ↦ subst NamesRise (sym (without_other es n k v d)) (below_without es k n rise.1 rise.0, rises_without es n rise.1)
]

-- ---- directories with the same names for the same trees are the same

order_cases : (n m : List ℕ) → (name_order n m ≡ Less) ⊎ ((n ≡ m) ⊎ (name_order m n ≡ Less))
order_cases n m = each (name_order n m) refl
  where
    each : (o : Ordering) → name_order n m ≡ o → (name_order n m ≡ Less) ⊎ ((n ≡ m) ⊎ (name_order m n ≡ Less))
    each Less e = inl e
    each Equal e = inr (inl (same_order n m e))
    each Greater e = inr (inr (nat_list_cmp_total.antisymm m n ∙ ap ordering_reverse e))

some_none : (t : Tree) → Some t ≡ None → ⊥
some_none t e = cc

pub same_entries : (es fs : Entries) → NamesRise es → NamesRise fs → ((n : List ℕ) → look es n ≡ look fs n) → es ≡ fs
same_entries none none rise rise' same = refl
same_entries none (entry m u fs) rise rise' same = absurd (some_none u (sym (look_self m (Some u) (look fs m)) ∙ sym (same m)))
same_entries (entry n t es) none rise rise' same = absurd (some_none t (sym (look_self n (Some t) (look es n)) ∙ same n))
same_entries (entry n t es) (entry m u fs) rise rise' same = elim (order_cases n m) [
  | inl less ↦ absurd (some_none t (sym (look_self n (Some t) (look es n)) ∙ same n ∙ below_all (entry m u fs) n less rise'))
  | inr (inr more) ↦ absurd (some_none u (sym (look_self m (Some u) (look fs m)) ∙ sym (same m) ∙ below_all (entry n t es) m more rise))
  | inr (inl e) ↦ joined e (inside (sym (look_self n (Some t) (look es n)) ∙ same n ∙ look_eq n m (Some u) (look fs n) e))
      (same_entries es fs rise.1 rise'.1 (λ k. rest e k (same_or_not k n)))
]
  where
    joined : n ≡ m → t ≡ u → es ≡ fs → entry n t es ≡ entry m u fs
    joined e f g = λ i. entry (e i) (f i) (g i)

    inside : Some t ≡ Some u → t ≡ u
    inside e = cc

    rest : n ≡ m → (k : List ℕ) → (k ≡ n) ⊎ (k ≢ n) → look es k ≡ look fs k
    rest e k (inl here) = below_all es k (subst (λ z. IsBelowFirst z es) (sym here) rise.0) rise.1 ∙ sym (below_all fs k (subst (λ z. IsBelowFirst z fs) (sym (here ∙ e)) rise'.0) rise'.1)
    rest e k (inr d) = sym (look_other k n (Some t) (look es k) d) ∙ same k ∙ look_other k m (Some u) (look fs k) (λ z. d (z ∙ sym e))

-- ---- one name set, another changed, and the first set again

-- another name taken out
pub set_past_without : (es : Entries) (n m : List ℕ) (x z : Tree) → NamesRise es → m ≢ n → set (without (set es m x) n) m z ≡ set (without es n) m z
set_past_without es n m x z rise d = same_entries _ _ (rises_set _ m z (rises_without _ n (rises_set es m x rise))) (rises_set _ m z (rises_without es n rise)) each
  where
    each : (k : List ℕ) → look (set (without (set es m x) n) m z) k ≡ look (set (without es n) m z) k
    each k = elim (same_or_not k m) [
      | inl e ↦ subst (λ j. look (set (without (set es m x) n) m z) j ≡ look (set (without es n) m z) j) (sym e) (look-set_same _ m z ∙ sym (look-set_same _ m z))
      | inr other ↦ look-set_other _ m k z other ∙ below k other (same_or_not k n) ∙ sym (look-set_other _ m k z other)
    ]
      where
        below : (k : List ℕ) → k ≢ m → (k ≡ n) ⊎ (k ≢ n) → look (without (set es m x) n) k ≡ look (without es n) k
        below k other (inl e) = subst (λ j. look (without (set es m x) n) j ≡ look (without es n) j) (sym e) (look-without_same _ n (rises_set es m x rise) ∙ sym (look-without_same es n rise))
        below k other (inr apart) = look-without_other _ n k apart ∙ look-set_other es m k x other ∙ sym (look-without_other es n k apart)

-- another name set
pub set_past_set : (es : Entries) (n m : List ℕ) (x y z : Tree) → NamesRise es → m ≢ n → set (set (set es m x) n y) m z ≡ set (set es n y) m z
set_past_set es n m x y z rise d = same_entries _ _ (rises_set _ m z (rises_set _ n y (rises_set es m x rise))) (rises_set _ m z (rises_set es n y rise)) each
  where
    each : (k : List ℕ) → look (set (set (set es m x) n y) m z) k ≡ look (set (set es n y) m z) k
    each k = elim (same_or_not k m) [
      | inl e ↦ subst (λ j. look (set (set (set es m x) n y) m z) j ≡ look (set (set es n y) m z) j) (sym e) (look-set_same _ m z ∙ sym (look-set_same _ m z))
      | inr other ↦ look-set_other _ m k z other ∙ below k other (same_or_not k n) ∙ sym (look-set_other _ m k z other)
    ]
      where
        below : (k : List ℕ) → k ≢ m → (k ≡ n) ⊎ (k ≢ n) → look (set (set es m x) n y) k ≡ look (set es n y) k
        below k other (inl e) = subst (λ j. look (set (set es m x) n y) j ≡ look (set es n y) j) (sym e) (look-set_same _ n y ∙ sym (look-set_same es n y))
        below k other (inr apart) = look-set_other _ n k y apart ∙ look-set_other es m k x other ∙ sym (look-set_other es n k y apart)
