-- What stands at each path of a tree with another tree put in, or with a name taken out.
use Rattle.std.proofs.Common.{◌≡◌, ◌≢◌, ℕ, inl, inr, List, [], ◌∷◌, ◌++◌, Option, None, Some, refl, sym, ap, ◌∙◌, subst, false, ◌⊎◌}
use Rattle.std.specs.Option.{option_and_then}
use Rattle.std.specs.declared.cmp.Ordering.{Ordering}
use Rattle.std.specs.declared.cmp.Ordering.TheVariants.{Less, Equal, Greater}
use Rattle.file_tree.specs.Tree.{Tree, Entries, file, dir, none, entry, look, set, without, name_order, if_equal, by_order, IsBelowFirst, IsTree, AreEntries}
use Rattle.file_tree.specs.Apply.{put_at, remove_at, entries_of, child_of}
use Rattle.std.specs.Prelude.{◌&&◌}
use Rattle.std.specs.Str.{bytes_eq}
use Rattle.std.proofs.lemmas.Bool.{cases_Bool, true≢false}
use Rattle.std.proofs.lemmas.Slice.Eq.{bytes_eq-Decides}
use Rattle.file_tree.specs.Names.{IsName, leads_to}
use Rattle.file_tree.proofs.MapLaws.{same_order}
use Rattle.file_tree.proofs.Places.{well_formed_set}
use Rattle.image_model.specs.Flat.{Path, Thing, ADir, thing_in, child_in, tree_at, thing_at}
use Rattle.std.specs.Cmp.Lexicographic.{nat_list_cmp_total}
use Rattle.image_model.proofs.Trees.{same_or_not, look_self, look_other, look_eq, below_all}
use Rattle.image_changes.specs.Flats.{in_directory}

-- ---- a directory with a name put in

put_same : (r : Ordering) (n k : List ℕ) (t u : Tree) (es : Entries) → name_order n k ≡ r → look (set es n t) n ≡ Some t
    → look (by_order r (entry n t (entry k u es)) (entry n t es) (entry k u (set es n t))) n ≡ Some t
put_same Less n k t u es e more = look_self n _ _
put_same Equal n k t u es e more = look_self n _ _
put_same Greater n k t u es e more = rw e more

pub look-set_same : (es : Entries) (n : List ℕ) (t : Tree) → look (set es n t) n ≡ Some t
look-set_same none n t = look_self n _ _
look-set_same (entry k u es) n t = put_same (name_order n k) n k t u es refl (look-set_same es n t)

put_other : (r : Ordering) (n k m : List ℕ) (t u : Tree) (es : Entries) → m ≢ n → name_order n k ≡ r → look (set es n t) m ≡ look es m
    → look (by_order r (entry n t (entry k u es)) (entry n t es) (entry k u (set es n t))) m ≡ look (entry k u es) m
put_other Less n k m t u es d e more = look_other m n _ _ d
put_other Equal n k m t u es d e more =
    let same : n ≡ k = same_order n k e in
    look_other m n (Some t) (look es m) d ∙ sym (look_other m k (Some u) (look es m) (λ q. d (q ∙ sym same)))
put_other Greater n k m t u es d e more = ap (λ z. if_equal (name_order m k) (Some u) z) more

pub look-set_other : (es : Entries) (n m : List ℕ) (t : Tree) → m ≢ n → look (set es n t) m ≡ look es m
look-set_other none n m t d = look_other m n _ _ d
look-set_other (entry k u es) n m t d = put_other (name_order n k) n k m t u es d refl (look-set_other es n m t d)

-- ---- and with a name taken out

pub look-without_same : (es : Entries) (n : List ℕ) → AreEntries es → look (without es n) n ≡ None
look-without_same none n are = refl
look-without_same (entry m t es) n are = elim (same_or_not n m) [
  | inl e ↦ ap (λ z. look z n) (look_eq n m es (entry m t (without es n)) e) ∙ below_all es n (subst (λ z. IsBelowFirst z es) (sym e) are.1) are.3
  | inr d ↦ ap (λ z. look z n) (look_other n m es (entry m t (without es n)) d) ∙ look_other n m (Some t) (look (without es n) n) d ∙ look-without_same es n are.3
]

pub look-without_other : (es : Entries) (n m : List ℕ) → m ≢ n → look (without es n) m ≡ look es m
look-without_other none n m d = refl
look-without_other (entry k t es) n m d = elim (same_or_not n k) [
  | inl e ↦ ap (λ z. look z m) (look_eq n k es (entry k t (without es n)) e) ∙ sym (look_other m k (Some t) (look es m) (λ q. d (q ∙ sym e)))
  | inr different ↦ ap (λ z. look z m) (look_other n k es (entry k t (without es n)) different) ∙ ap (λ z. if_equal (name_order m k) (Some t) z) (look-without_other es n m d)
]

pub child_is_tree : (es : Entries) (n : List ℕ) (t : Tree) → AreEntries es → look es n ≡ Some t → IsTree t
child_is_tree none n t are e = cc
child_is_tree (entry m u es) n t are e = elim (same_or_not n m) [
  | inl same ↦ subst IsTree (inside (sym (look_eq n m (Some u) (look es n) same) ∙ e)) are.2
  | inr d ↦ child_is_tree es n t are.3 (sym (look_other n m (Some u) (look es n) d) ∙ e)
]
  where
    inside : {x y : Tree} → Some x ≡ Some y → x ≡ y
    inside e = cc

-- a name that is there is a name
pub child_is_named : (es : Entries) (n : List ℕ) (t : Tree) → AreEntries es → look es n ≡ Some t → IsName n
child_is_named none n t are e = cc
child_is_named (entry m u es) n t are e = elim (same_or_not n m) [
  | inl same ↦ subst IsName (sym same) are.0
  | inr d ↦ child_is_named es n t are.3 (sym (look_other n m (Some u) (look es n) d) ∙ e)
]

below_rest : (es : Entries) (m n : List ℕ) → IsBelowFirst m es → name_order n m ≡ Less → IsBelowFirst n es
below_rest none m n low less = tt
below_rest (entry k u fs) m n low less = nat_list_cmp_total.trans n m k less low

below_without : (es : Entries) (m n : List ℕ) → AreEntries es → IsBelowFirst m es → IsBelowFirst m (without es n)
below_without none m n are low = tt
below_without (entry k u es) m n are low = elim (same_or_not n k) [
  | inl e ↦ subst (IsBelowFirst m) (sym (look_eq n k es (entry k u (without es n)) e)) (below_rest es k m are.1 low)
  | inr d ↦ subst (IsBelowFirst m) (sym (look_other n k es (entry k u (without es n)) d)) low
]

well_formed_without : (es : Entries) (n : List ℕ) → AreEntries es → AreEntries (without es n)
well_formed_without none n are = tt
well_formed_without (entry k u es) n are = elim (same_or_not n k) [
  | inl e ↦ subst AreEntries (sym (look_eq n k es (entry k u (without es n)) e)) are.3
  | inr d ↦ subst AreEntries (sym (look_other n k es (entry k u (without es n)) d)) (are.0, below_without es k n are.3 are.1, are.2, well_formed_without es n are.3)
]

-- ---- paths

-- the second path doesn't go through the first
abbrev pub IsBeside : Path → Path → Type 0
IsBeside [] q = ⊥
IsBeside (n ∷ p) [] = Unit {0}
IsBeside (n ∷ p) (m ∷ q) = (m ≢ n) ⊎ ((m ≡ n) × IsBeside p q)

pub beside_path : (p q : Path) → leads_to p q ≡ false → IsBeside p q
beside_path [] q e = absurd (true≢false e)
beside_path (n ∷ p) [] e = tt
beside_path (n ∷ p) (m ∷ q) e = elim (cases_Bool (bytes_eq n m)) [
  | inr non ↦ inl (λ same. true≢false (sym ((bytes_eq-Decides n m).1 (sym same)) ∙ non))
  | inl so ↦ inr (sym ((bytes_eq-Decides n m).0 so), beside_path p q (ap (λ b. b && leads_to p q) (sym so) ∙ e))
]

pub leads_beside : (p q : Path) → IsBeside p q → leads_to p q ≡ false
leads_beside [] q h = absurd h
leads_beside (n ∷ p) [] h = refl
leads_beside (n ∷ p) (m ∷ q) (inl d) = elim (cases_Bool (bytes_eq n m)) [
  | inl so ↦ absurd (d (sym ((bytes_eq-Decides n m).0 so)))
  | inr non ↦ ap (λ b. b && leads_to p q) non
]
leads_beside (n ∷ p) (m ∷ q) (inr h) = ap (λ b. b && leads_to p q) ((bytes_eq-Decides n m).1 (sym h.0)) ∙ leads_beside p q h.1

-- each name of the path but the last leads on to a directory, and the tree itself is one
abbrev pub Along : Tree → Path → Type 0
Along t [] = Unit {0}
Along t (n ∷ []) = thing_in t ≡ ADir
Along t (n ∷ m ∷ ns) = (u : Tree) × (thing_in t ≡ ADir) × (child_in t n ≡ Some u) × Along u (m ∷ ns)

-- where something stands at a path, the way to it is open
record Opens (t : Tree) (n : List ℕ) (path : Path) (x : Thing) : Type 0 where
  below : Tree
  dir_is : thing_in t ≡ ADir
  child_is : child_in t n ≡ Some below
  there : thing_at below path ≡ Some x

opens : (t : Tree) (n : List ℕ) (path : Path) (x : Thing) → thing_at t (n ∷ path) ≡ Some x → Opens t n path x
opens (file bytes) n path x e = cc
opens (dir es) n path x e = each (look es n) refl e
  where
    each : (o : Option Tree) → look es n ≡ o → option_and_then (λ u. Some (thing_in u)) (option_and_then (λ u. tree_at u path) o) ≡ Some x → Opens (dir es) n path x
    each None f g = cc
    each (Some u) f g = record { below = u; dir_is = refl; child_is = f; there = g }

pub along_into : (t : Tree) (path : Path) (n : List ℕ) → thing_at t path ≡ Some ADir → Along t (in_directory path n)
along_into t [] n e = inside e
  where
    inside : Some (thing_in t) ≡ Some ADir → thing_in t ≡ ADir
    inside e = cc
along_into t (m ∷ []) n e = let o = opens t m [] ADir e in (o.below, o.dir_is, o.child_is, along_into o.below [] n o.there)
along_into t (m ∷ k ∷ path) n e = let o = opens t m (k ∷ path) ADir e in (o.below, o.dir_is, o.child_is, along_into o.below (k ∷ path) n o.there)

pub along_to : (t : Tree) (path : Path) (x : Thing) → thing_at t path ≡ Some x → Along t path
along_to t [] x e = tt
along_to t (n ∷ []) x e = (opens t n [] x e).dir_is
along_to t (n ∷ m ∷ path) x e = let o = opens t n (m ∷ path) x e in (o.below, o.dir_is, o.child_is, along_to o.below (m ∷ path) x o.there)

pub not_beside_self : (p : Path) → IsBeside p p → ⊥
not_beside_self [] h = h
not_beside_self (n ∷ p) (inl d) = d refl
not_beside_self (n ∷ p) (inr h) = not_beside_self p h.1

pub not_beside_under : (p r : Path) → IsBeside p (p ++ r) → ⊥
not_beside_under [] r h = h
not_beside_under (n ∷ p) r (inl d) = d refl
not_beside_under (n ∷ p) r (inr h) = not_beside_under p r h.1

pub beside_above : (p r : Path) (n : List ℕ) → IsBeside (p ++ n ∷ r) p
beside_above [] r n = tt
beside_above (m ∷ p) r n = inr (refl, beside_above p r n)

pub beside_shorter : (p q r : Path) → IsBeside p (q ++ r) → IsBeside p q
beside_shorter [] q r h = h
beside_shorter (n ∷ p) [] r h = tt
beside_shorter (n ∷ p) (m ∷ q) r (inl d) = inl d
beside_shorter (n ∷ p) (m ∷ q) r (inr h) = inr (h.0, beside_shorter p q r h.1)

pub data Split (p q : Path) : Type 0 where
  under : (r : Path) → q ≡ p ++ r → Split p q
  out : IsBeside p q → Split p q

split_more : (n m : List ℕ) (p q : Path) → m ≡ n → Split p q → Split (n ∷ p) (m ∷ q)
split_more n m p q e (under r h) = under r (λ i. e i ∷ h i)
split_more n m p q e (out h) = out (inr (e, h))

pub split : (p q : Path) → Split p q
split [] q = under q refl
split (n ∷ p) [] = out tt
split (n ∷ p) (m ∷ q) = elim (same_or_not m n) [ inl e ↦ split_more n m p q e (split p q) | inr d ↦ out (inl d) ]

-- ---- what stands there, with another tree put in

pub put_under : (p r : Path) (u t : Tree) → thing_at (put_at p u t) (p ++ r) ≡ thing_at u r
put_under [] r u t = refl
put_under (n ∷ p) r u t = rw (look-set_same (entries_of t) n (put_at p u (child_of (look (entries_of t) n)))) (put_under p r u (child_of (look (entries_of t) n)))

file_no_dir : (bytes : List ℕ) → thing_in (file bytes) ≡ ADir → ⊥
file_no_dir bytes e = cc

pub put_beside : (p q : Path) (u t : Tree) → Along t p → IsBeside p q → thing_at (put_at p u t) q ≡ thing_at t q
put_beside [] q u t way h = absurd h
put_beside (n ∷ []) [] u (dir es) way h = refl
put_beside (n ∷ []) q u (file bytes) way h = absurd (file_no_dir bytes way)
put_beside (n ∷ []) (m ∷ q) u (dir es) way (inl d) = rw (look-set_other es n m u d)
put_beside (n ∷ []) (m ∷ q) u (dir es) way (inr h) = absurd h.1
put_beside (n ∷ k ∷ p) [] u (dir es) way h = refl
put_beside (n ∷ k ∷ p) q u (file bytes) way h = absurd (file_no_dir bytes way.1)
put_beside (n ∷ k ∷ p) (m ∷ q) u (dir es) way (inl d) = rw (look-set_other es n m (put_at (k ∷ p) u (child_of (look es n))) d)
put_beside (n ∷ k ∷ p) (m ∷ q) u (dir es) way (inr h) =
    let below = put_beside (k ∷ p) q u way.0 way.3 h.1 in
    rw (h.0, look-set_same es n (put_at (k ∷ p) u (child_of (look es n))), way.2) below

pub remove_under : (n : List ℕ) (p r : Path) (t : Tree) → IsTree t → Along t (n ∷ p) → thing_at (remove_at (n ∷ p) t) ((n ∷ p) ++ r) ≡ None
remove_under n [] r (dir es) is way = rw (look-without_same es n is)
remove_under n [] r (file bytes) is way = absurd (file_no_dir bytes way)
remove_under n (m ∷ p) r (dir es) is way =
    let below = remove_under m p r way.0 (child_is_tree es n way.0 is way.2) way.3 in
    rw (look-set_same es n (remove_at (m ∷ p) (child_of (look es n))), way.2) below
remove_under n (m ∷ p) r (file bytes) is way = absurd (file_no_dir bytes way.1)

pub remove_beside : (n : List ℕ) (p q : Path) (t : Tree) → Along t (n ∷ p) → IsBeside (n ∷ p) q → thing_at (remove_at (n ∷ p) t) q ≡ thing_at t q
remove_beside n [] [] (dir es) way h = refl
remove_beside n [] q (file bytes) way h = absurd (file_no_dir bytes way)
remove_beside n [] (m ∷ q) (dir es) way (inl d) = rw (look-without_other es n m d)
remove_beside n [] (m ∷ q) (dir es) way (inr h) = absurd h.1
remove_beside n (k ∷ p) [] (dir es) way h = refl
remove_beside n (k ∷ p) (m ∷ q) (dir es) way (inl d) = rw (look-set_other es n m (remove_at (k ∷ p) (child_of (look es n))) d)
remove_beside n (k ∷ p) (m ∷ q) (dir es) way (inr h) =
    let below = remove_beside k p q way.0 way.3 h.1 in
    rw (h.0, look-set_same es n (remove_at (k ∷ p) (child_of (look es n))), way.2) below
remove_beside n (k ∷ p) q (file bytes) way h = absurd (file_no_dir bytes way.1)

-- ---- the trees stay well formed

-- each name of the path leads somewhere but the last, which is a name
pub put_is_tree : (p : Path) (u t : Tree) → IsTree t → IsTree u → Along t p → ((q : Path) (n : List ℕ) → p ≡ in_directory q n → IsName n) → IsTree (put_at p u t)
put_is_tree [] u t is is' way last = is'
put_is_tree (n ∷ []) u (dir es) is is' way last = well_formed_set es n u is (last [] n refl) is'
put_is_tree (n ∷ []) u (file bytes) is is' way last = absurd (file_no_dir bytes way)
put_is_tree (n ∷ m ∷ p) u (file bytes) is is' way last = absurd (file_no_dir bytes way.1)
put_is_tree (n ∷ m ∷ p) u (dir es) is is' way last =
    let below = put_is_tree (m ∷ p) u way.0 (child_is_tree es n way.0 is way.2) is' way.3 (λ q k e. last (n ∷ q) k (ap (λ z. n ∷ z) e)) in
    well_formed_set es n (put_at (m ∷ p) u (child_of (look es n))) is (child_is_named es n way.0 is way.2) (rw way.2 below)

pub remove_is_tree : (p : Path) (t : Tree) → IsTree t → Along t p → IsTree (remove_at p t)
remove_is_tree [] t is way = is
remove_is_tree (n ∷ []) (dir es) is way = well_formed_without es n is
remove_is_tree (n ∷ []) (file bytes) is way = absurd (file_no_dir bytes way)
remove_is_tree (n ∷ m ∷ p) (file bytes) is way = absurd (file_no_dir bytes way.1)
remove_is_tree (n ∷ m ∷ p) (dir es) is way =
    let below = remove_is_tree (m ∷ p) way.0 (child_is_tree es n way.0 is way.2) way.3 in
    well_formed_set es n (remove_at (m ∷ p) (child_of (look es n))) is (child_is_named es n way.0 is way.2) (rw way.2 below)
