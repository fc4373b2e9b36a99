-- A tree is what stands at its paths.
use Rattle.std.proofs.Common.{◌≡◌, ◌≢◌, ℕ, ◌⊎◌, inl, inr, List, [], ◌∷◌, Option, None, Some, refl, sym, ap, ◌∙◌, subst, false, true}
use Rattle.std.proofs.lemmas.Bool.{cases_Bool, both_ways}
use Rattle.std.proofs.lemmas.Slice.Eq.{bytes_eq-Decides}
use Rattle.std.proofs.lemmas.Map.Text.{is_eq-slice_cmp}
use Rattle.std.specs.Str.{bytes_eq}
use Rattle.std.specs.Ordering.{is_eq, ordering_reverse}
use Rattle.std.specs.Option.{option_and_then}
use Rattle.std.specs.declared.cmp.Ordering.{Ordering}
use Rattle.std.specs.declared.cmp.Ordering.TheVariants.{Less, Equal, Greater}
use Rattle.std.specs.Cmp.Lexicographic.{nat_list_cmp_total}
use Rattle.file_tree.specs.Tree.{Tree, Entries, file, dir, none, entry, look, name_order, if_equal, IsBelowFirst, IsTree, AreEntries}
use Rattle.image_model.specs.Flat.{Path, Thing, AFile, ADir, thing_in, tree_at, thing_at}
use Rattle.file_tree.proofs.MapLaws.{same_order as same_from_order}

pub same_or_not : (n m : List ℕ) → (n ≡ m) ⊎ (n ≢ m)
same_or_not n m = elim (cases_Bool (bytes_eq n m)) [
  | inl e ↦ inl ((bytes_eq-Decides n m).0 e)
  | inr e ↦ inr (λ q. both_ways _ e ((bytes_eq-Decides n m).1 q))
]

is_equal : (r : Ordering) → is_eq r ≡ true → r ≡ Equal
is_equal Less e = cc
is_equal Equal e = refl
is_equal Greater e = cc

not_equal : {A : Type 0} (r : Ordering) (a b : A) → is_eq r ≡ false → if_equal r a b ≡ b
not_equal Less a b e = refl
not_equal Equal a b e = cc
not_equal Greater a b e = refl

order_self : (n : List ℕ) → name_order n n ≡ Equal
order_self n = is_equal _ (is_eq-slice_cmp n n ∙ (bytes_eq-Decides n n).1 refl)

unequal_test : (n m : List ℕ) → n ≢ m → bytes_eq n m ≡ false
unequal_test n m d = elim (cases_Bool (bytes_eq n m)) [ inl e ↦ absurd (d ((bytes_eq-Decides n m).0 e)) | inr e ↦ e ]

pub look_self : {A : Type 0} (n : List ℕ) (a b : A) → if_equal (name_order n n) a b ≡ a
look_self n a b = rw (order_self n)

pub look_other : {A : Type 0} (n m : List ℕ) (a b : A) → n ≢ m → if_equal (name_order n m) a b ≡ b
look_other n m a b d = not_equal _ a b (is_eq-slice_cmp n m ∙ unequal_test n m d)

order_trans : (n m k : List ℕ) → name_order n m ≡ Less → name_order m k ≡ Less → name_order n k ≡ Less
order_trans n m k = nat_list_cmp_total.trans n m k

less_other : {A : Type 0} (n m : List ℕ) (a b : A) → name_order n m ≡ Less → if_equal (name_order n m) a b ≡ b
less_other n m a b e = rw e

-- a name below the first isn't there
pub below_all : (es : Entries) (n : List ℕ) → IsBelowFirst n es → AreEntries es → look es n ≡ None
below_all none n low are = refl
below_all (entry m t es) n low are = less_other n m (Some t) (look es n) low ∙ below_all es n (below_rest es m n are.1 low) are.3
  where
    below_rest : (es : Entries) (m n : List ℕ) → IsBelowFirst m es → name_order n m ≡ Less → IsBelowFirst n es
    below_rest none m n low less = tt
    below_rest (entry k u fs) m n low less = order_trans n m k less low

pub look_eq : {A : Type 0} (n m : List ℕ) (a b : A) → n ≡ m → if_equal (name_order n m) a b ≡ a
look_eq n m a b e = ap (λ z. if_equal (name_order z m) a b) e ∙ look_self m a b

-- what stands at a path below a tree that may be there
abbrev pub below : Option Tree → Path → Option Thing
below o r = option_and_then (λ t. thing_at t r) o

under_name : (es : Entries) (n : List ℕ) (r : Path) → thing_at (dir es) (n ∷ r) ≡ below (look es n) r
under_name es n r = each (look es n)
  where
    each : (o : Option Tree) → option_and_then (λ u. Some (thing_in u)) (option_and_then (λ u. tree_at u r) o) ≡ below o r
    each None = refl
    each (Some t) = refl

some_thing : (t : Tree) → thing_at t [] ≡ None → ⊥
some_thing t e = cc

order_cases : (n m : List ℕ) → (name_order n m ≡ Less) ⊎ ((n ≡ m) ⊎ (name_order m n ≡ Less))
order_cases n m = each (name_order n m) refl
  where
    each : (o : Ordering) → name_order n m ≡ o → (name_order n m ≡ Less) ⊎ ((n ≡ m) ⊎ (name_order m n ≡ Less))
    each Less e = inl e
    each Equal e = inr (inl (same_from_order n m e))
    each Greater e = inr (inr (nat_list_cmp_total.antisymm m n ∙ ap ordering_reverse e))

mutual
  pub same_trees : (t u : Tree) → IsTree t → IsTree u → ((q : Path) → thing_at t q ≡ thing_at u q) → t ≡ u
  same_trees (file a) (file b) is is' same = ap file (bytes_same (same []))
    where
      bytes_same : Some (AFile a) ≡ Some (AFile b) → a ≡ b
      bytes_same e = cc
  same_trees (file a) (dir fs) is is' same = absurd (differ (same []))
    where
      differ : ◌≡◌ {A = Option Thing} (Some (AFile a)) (Some ADir) → ⊥
      differ e = cc
  same_trees (dir es) (file b) is is' same = absurd (differ (same []))
    where
      differ : ◌≡◌ {A = Option Thing} (Some ADir) (Some (AFile b)) → ⊥
      differ e = cc
  same_trees (dir es) (dir fs) is is' same = ap dir (same_entries es fs is is' (λ n r. sym (under_name es n r) ∙ same (n ∷ r) ∙ under_name fs n r))

  pub same_entries : (es fs : Entries) → AreEntries es → AreEntries fs → ((n : List ℕ) (r : Path) → below (look es n) r ≡ below (look fs n) r) → es ≡ fs
  same_entries none none are are' same = refl
  same_entries none (entry m u fs) are are' same = absurd (some_thing u (ap (λ o. below o []) (sym (look_self m (Some u) (look fs m))) ∙ sym (same m [])))
  same_entries (entry n t es) none are are' same = absurd (some_thing t (ap (λ o. below o []) (sym (look_self n (Some t) (look es n))) ∙ same n []))
  same_entries (entry n t es) (entry m u fs) are are' same = elim (order_cases n m) [
    | inl less ↦ absurd (some_thing t (ap (λ o. below o []) (sym (look_self n (Some t) (look es n))) ∙ same n [] ∙ ap (λ o. below o []) (below_all (entry m u fs) n less are')))
    | inr (inr more) ↦ absurd (some_thing u (ap (λ o. below o []) (sym (look_self m (Some u) (look fs m))) ∙ sym (same m []) ∙ ap (λ o. below o []) (below_all (entry n t es) m more are)))
    | inr (inl e) ↦ joined e
        (same_trees t u are.2 are'.2 (λ q. ap (λ o. below o q) (sym (look_self n (Some t) (look es n))) ∙ same n q ∙ ap (λ o. below o q) (look_eq n m (Some u) (look fs n) e)))
        (same_entries es fs are.3 are'.3 (λ k r. rest e k r (same_or_not k n)))
  ]
    where
      joined : n ≡ m → t ≡ u → es ≡ fs → entry n t es ≡ entry m u fs
      joined e f g = λ i. entry (e i) (f i) (g i)

      rest : n ≡ m → (k : List ℕ) (r : Path) → (k ≡ n) ⊎ (k ≢ n) → below (look es k) r ≡ below (look fs k) r
      rest e k r (inl here) = ap (λ o. below o r) (below_all es k (subst (λ z. IsBelowFirst z es) (sym here) are.1) are.3 ∙ sym (below_all fs k (subst (λ z. IsBelowFirst z fs) (sym (here ∙ e)) are'.1) are'.3))
      rest e k r (inr d) = ap (λ o. below o r) (sym (look_other k n (Some t) (look es k) d)) ∙ same k r ∙ ap (λ o. below o r) (look_other k m (Some u) (look fs k) (λ z. d (z ∙ sym e)))
