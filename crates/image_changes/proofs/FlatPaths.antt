-- Each inode has one path, and what a change of one inode or of one name does to what is read.
use Rattle.std.proofs.Common.{◌≡◌, ℕ, inl, inr, List, [], ◌∷◌, ◌++◌, Option, None, Some, refl, sym, ap, ◌∙◌, subst, append_assoc, append-nil}
use Rattle.std.proofs.lemmas.Bool.{cases_eq}
use Rattle.std.specs.Option.{option_and_then}
use Rattle.file_tree.specs.Tree.{Tree, file, dir, look, IsTree}
use Rattle.file_tree.specs.Names.{IsName}
use Rattle.file_tree.specs.Apply.{put_at, remove_at}
use Rattle.image_model.specs.Flat.{Path, Thing, AFile, ADir, thing_in, tree_at, thing_at, Node, Flat, follow, thing_from, ReadsAs}
use Rattle.image_model.specs.Owners.{Up}
use Rattle.image_model.proofs.Held.{none_some, some_same}
use Rattle.image_model.proofs.Trees.{same_or_not}
use Rattle.image_changes.specs.Flats.{IsNamed, SameBut, LeadsElsewhere, in_directory, Unreached, FileRewritten, NameGone, NameLeads}
use Rattle.image_changes.proofs.TreePaths.{IsBeside, beside_path, child_is_tree, child_is_named, Along, along_into, along_to, not_beside_self, not_beside_under, beside_above, under, out, split, put_under, put_beside, remove_under, remove_beside, put_is_tree, remove_is_tree}

-- ---- an inode has one path

-- the names from an inode up to the top
abbrev Climbs : (ℕ → Option Up) → ℕ → Path → ℕ → Type 0
Climbs up top [] x = x ≡ top
Climbs up top (n ∷ ns) x = (a : ℕ) × (up x ≡ Some (record { parent = a; name = n })) × Climbs up top ns a

one_climb : (up : ℕ → Option Up) (top top' : ℕ) → up top ≡ None → up top' ≡ None → (r r' : Path) (x : ℕ) → Climbs up top r x → Climbs up top' r' x → (r ≡ r') × (top ≡ top')
one_climb up top top' e e' [] [] x h h' = (refl, sym h ∙ h')
one_climb up top top' e e' [] (n ∷ r') x h h' = absurd (none_some (sym (ap up h ∙ e) ∙ h'.1))
one_climb up top top' e e' (n ∷ r) [] x h h' = absurd (none_some (sym (ap up h' ∙ e') ∙ h.1))
one_climb up top top' e e' (n ∷ r) (m ∷ r') x h h' =
    let same = some_same (sym h.1 ∙ h'.1) in
    let below = one_climb up top top' e e' r r' h.0 h.2 (subst (Climbs up top' r') (sym (ap (λ (u : Up). u.parent) same)) h'.2) in
    (λ i. (same i).name ∷ below.0 i, below.1)

pub after_some : {X Y : Type 0} (g : X → Option Y) (o : Option X) (y : Y) → option_and_then g o ≡ Some y → (x : X) × (o ≡ Some x) × (g x ≡ Some y)
after_some g None y e = cc
after_some g (Some x) y e = (x, refl, e)

pub after_same : {X Y : Type 0} (g h : X → Option Y) (o : Option X) → ((x : X) → o ≡ Some x → g x ≡ h x) → option_and_then g o ≡ option_and_then h o
after_same g h None e = refl
after_same g h (Some x) e = e x refl

-- the names of a path from the last to the first, before others
abbrev onto : Path → Path → Path
onto [] acc = acc
onto (n ∷ p) acc = onto p (n ∷ acc)

followed_up : (f : Flat) (up : ℕ → Option Up) (top : ℕ) → IsNamed f up top → (p acc : Path) (a x : ℕ) → follow f a p ≡ Some x → Climbs up top acc a → Climbs up top (onto p acc) x
followed_up f up top named [] acc a x e h = subst (Climbs up top acc) (some_same e) h
followed_up f up top named (n ∷ p) acc a x e h =
    let s = after_some (λ b. follow f b p) ((f a).child n) x e in
    followed_up f up top named p (n ∷ acc) s.0 x s.2 (a, named.once a s.0 n s.1, h)

onto_back : (p acc : Path) → onto (onto p acc) [] ≡ onto acc p
onto_back [] acc = refl
onto_back (n ∷ p) acc = onto_back p (n ∷ acc)

-- an inode is found at one path only
pub one_path : (f : Flat) (up : ℕ → Option Up) (top : ℕ) → IsNamed f up top → (p q : Path) (x : ℕ) → follow f top p ≡ Some x → follow f top q ≡ Some x → p ≡ q
one_path f up top named p q x e e' =
    let climb = followed_up f up top named p [] top x e refl in
    let climb' = followed_up f up top named q [] top x e' refl in
    let same = (one_climb up top top named.unnamed named.unnamed (onto p []) (onto q []) x climb climb').0 in
    sym (onto_back p []) ∙ ap (λ z. onto z []) same ∙ onto_back q []

-- and not from two tops
pub one_top : (f : Flat) (up : ℕ → Option Up) (top top' : ℕ) → IsNamed f up top → IsNamed f up top' → (p q : Path) (x : ℕ) → follow f top p ≡ Some x → follow f top' q ≡ Some x → top ≡ top'
one_top f up top top' named named' p q x e e' =
    (one_climb up top top' named.unnamed named'.unnamed (onto p []) (onto q []) x (followed_up f up top named p [] top x e refl) (followed_up f up top' named' q [] top' x e' refl)).1

pub follow-append : (f : Flat) (p r : Path) (x a : ℕ) → follow f x p ≡ Some a → follow f x (p ++ r) ≡ follow f a r
follow-append f [] r x a e = ap (λ z. follow f z r) (some_same e)
follow-append f (n ∷ p) r x a e =
    let s = after_some (λ b. follow f b p) ((f x).child n) a e in
    rw s.1 (follow-append f p r s.0 a s.2)

-- what stands at a path, by what it leads to
pub thing_there : (f : Flat) (top a : ℕ) (p : Path) → follow f top p ≡ Some a → thing_from f top p ≡ Some (f a).thing
thing_there f top a p e = rw e refl

-- where no inode of a path's way is other, it leads where it led
pub follow_kept : (f f' : Flat) (r s : Path) (top x : ℕ) → follow f top s ≡ Some x → ((q : Path) (y : ℕ) → follow f top q ≡ Some y → (f' y).child ≡ (f y).child) → follow f' x r ≡ follow f x r
follow_kept f f' [] s top x at same = refl
follow_kept f f' (n ∷ r) s top x at same =
    ap (λ (c : List ℕ → Option ℕ). option_and_then (λ b. follow f' b r) (c n)) (same s x at)
    ∙ after_same _ _ ((f x).child n) (λ b e. follow_kept f f' r (s ++ n ∷ []) top b (follow-append f s (n ∷ []) top x at ∙ rw e refl) same)

-- ---- an inode to which no path leads

pub unreached : Unreached
unreached f f' top each = (same, λ t reads. record { tree = reads.tree; same = λ q. things q ∙ reads.same q })
  where
    reached : (q : Path) (y : ℕ) → follow f top q ≡ Some y → f' y ≡ f y
    reached q y at = elim (each y) [ inl e ↦ e | inr far ↦ absurd (far q at) ]

    same : (q : Path) → follow f' top q ≡ follow f top q
    same q = follow_kept f f' q [] top top refl (λ s y at. ap (λ (n : Node). n.child) (reached s y at))

    things : (q : Path) → thing_from f' top q ≡ thing_from f top q
    things q = ap (option_and_then (λ b. Some (f' b).thing)) (same q) ∙ after_same _ _ (follow f top q) (λ b at. ap (λ (n : Node). Some n.thing) (reached q b at))

-- ---- an inode changes its thing alone

module _ (f f' : Flat) (a : ℕ) (others : SameBut a f f') (leads : (f' a).child ≡ (f a).child) where
  children_same : (x : ℕ) → (f' x).child ≡ (f x).child
  children_same x = elim (cases_eq x a) [ inl e ↦ rw e leads | inr d ↦ ap (λ (z : Node). z.child) (others x d) ]

  follow_same : (q : Path) (x : ℕ) → follow f' x q ≡ follow f x q
  follow_same [] x = refl
  follow_same (n ∷ q) x = rw (children_same x) (after_same _ _ ((f x).child n) (λ b e. follow_same q b))

  thing_same : (top : ℕ) (q : Path) → (follow f top q ≡ Some a → ⊥) → thing_from f' top q ≡ thing_from f top q
  thing_same top q away = rw (follow_same q top) (after_same _ _ (follow f top q) (λ x e. ap (λ (z : Node). Some z.thing) (others x (λ same. away (e ∙ ap Some same)))))

-- what is below a file's path is nothing
below_file : (t : Tree) (p : Path) (bytes : List ℕ) (n : List ℕ) (r : Path) → thing_at t p ≡ Some (AFile bytes) → thing_at t (p ++ n ∷ r) ≡ None
below_file (file b) [] bytes n r e = refl
below_file (dir es) [] bytes n r e = absurd (differ e)
  where
    differ : ◌≡◌ {A = Option Thing} (Some ADir) (Some (AFile bytes)) → ⊥
    differ e = cc
below_file (file b) (m ∷ p) bytes n r e = refl
below_file (dir es) (m ∷ p) bytes n r e = each (look es m) (λ u f. below_file u p bytes n r f) e
  where
    each : (o : Option Tree) → ((u : Tree) → thing_at u p ≡ Some (AFile bytes) → thing_at u (p ++ n ∷ r) ≡ None) → option_and_then (λ u. Some (thing_in u)) (option_and_then (λ u. tree_at u p) o) ≡ Some (AFile bytes)
        → option_and_then (λ u. Some (thing_in u)) (option_and_then (λ u. tree_at u (p ++ n ∷ r)) o) ≡ None
    each None more e = refl
    each (Some u) more e = more u e

-- a name that leads to something is a name
name_there : (t : Tree) (q : Path) (n : List ℕ) (x : Thing) → IsTree t → thing_at t (in_directory q n) ≡ Some x → IsName n
name_there (file b) [] n x is e = cc
name_there (file b) (m ∷ q) n x is e = cc
name_there (dir es) [] n x is e = here (look es n) refl e
  where
    here : (o : Option Tree) → look es n ≡ o → option_and_then (λ u. Some (thing_in u)) (option_and_then (λ u. Some u) o) ≡ Some x → IsName n
    here None f e = cc
    here (Some u) f e = child_is_named es n u is f
name_there (dir es) (m ∷ q) n x is e = more (look es m) refl (λ u is' f. name_there u q n x is' f) e
  where
    more : (o : Option Tree) → look es m ≡ o → ((u : Tree) → IsTree u → thing_at u (in_directory q n) ≡ Some x → IsName n)
        → option_and_then (λ u. Some (thing_in u)) (option_and_then (λ u. tree_at u (in_directory q n)) o) ≡ Some x → IsName n
    more None f on e = cc
    more (Some u) f on e = on u (child_is_tree es m u is f) e

pub file_rewritten : FileRewritten
file_rewritten f f' up top a path bytes named at others leads old was now = (λ x q. follow_same f f' a others leads q x, reads')
  where
    reads' : (t : Tree) → ReadsAs f top t → ReadsAs f' top (put_at path (file bytes) t)
    reads' t reads = record { tree = put_is_tree path (file bytes) t reads.tree tt way (λ q n e. name_there t q n (AFile old) reads.tree (ap (thing_at t) (sym e) ∙ there)); same = same }
      where
        there : thing_at t path ≡ Some (AFile old)
        there = sym (reads.same path) ∙ thing_there f top a path at ∙ ap Some was

        way : Along t path
        way = along_to t path (AFile old) there

        here : (r : Path) → thing_from f' top (path ++ r) ≡ thing_at (file bytes) r
        here [] = rw (follow_same f f' a others leads (path ++ []) top, append-nil path, at) (ap Some now)
        here (n ∷ r) =
            ap (option_and_then (λ b. Some (f' b).thing)) (follow_same f f' a others leads (path ++ n ∷ r) top)
            ∙ nothing (follow f top (path ++ n ∷ r)) (reads.same (path ++ n ∷ r) ∙ below_file t path old n r there)
          where
            nothing : (o : Option ℕ) → option_and_then (λ b. Some (f b).thing) o ≡ None → option_and_then (λ b. Some (f' b).thing) o ≡ None
            nothing None e = refl
            nothing (Some x) e = cc

        same : (q : Path) → thing_from f' top q ≡ thing_at (put_at path (file bytes) t) q
        same q = elim (split path q) [
          | under r e ↦ rw e (here r ∙ sym (put_under path r (file bytes) t))
          | out h ↦ thing_same f f' a others leads top q (λ e. not_beside_self path (subst (IsBeside path) (one_path f up top named q path a e at) h)) ∙ reads.same q
              ∙ sym (put_beside path q (file bytes) t way h)
        ]

-- ---- a name leads elsewhere

module _ (f f' : Flat) (a : ℕ) (n : List ℕ) (differs : LeadsElsewhere f f' a n) (up : ℕ → Option Up) (top : ℕ) (named : IsNamed f up top) (p : Path) (at : follow f top p ≡ Some a) where
  -- a path that doesn't go through the name leads where it led
  follow_beside : (q s : Path) (x : ℕ) → follow f top s ≡ Some x → IsBeside (in_directory p n) (s ++ q) → follow f' x q ≡ follow f x q
  follow_beside [] s x e away = refl
  follow_beside (m ∷ q) s x e away =
      ap (option_and_then (λ b. follow f' b q)) child
      ∙ after_same _ _ ((f x).child m) (λ b c. follow_beside q (s ++ m ∷ []) b (follow-append f s (m ∷ []) top x e ∙ rw c refl) (subst (IsBeside (in_directory p n)) (sym (append_assoc s (m ∷ []) q)) away))
    where
      child : (f' x).child m ≡ (f x).child m
      child = elim (cases_eq x a) [
        | inr other ↦ differs.others x m (inl other)
        | inl here ↦ elim (same_or_not m n) [
          | inr different ↦ differs.others x m (inr different)
          | inl same ↦
              let path : s ≡ p = one_path f up top named s p x e (at ∙ ap Some (sym here)) in
              let all : s ++ m ∷ q ≡ in_directory p n ++ q = (λ i. path i ++ same i ∷ q) ∙ sym (append_assoc p (n ∷ []) q) in
              absurd (not_beside_under (in_directory p n) q (subst (IsBeside (in_directory p n)) all away))
        ]
      ]

  pub beside_same : (q : Path) → IsBeside (in_directory p n) q → follow f' top q ≡ follow f top q
  beside_same q away = follow_beside q [] top refl away

  thing_beside : (q : Path) → IsBeside (in_directory p n) q → thing_from f' top q ≡ thing_from f top q
  thing_beside q away = ap (option_and_then (λ b. Some (f' b).thing)) (beside_same q away) ∙ after_same _ _ (follow f top q) (λ b e. ap Some (differs.things b))

  still_there : follow f' top p ≡ Some a
  still_there = beside_same p (beside_above p [] n) ∙ at

  through : (r : Path) → follow f' top (in_directory p n ++ r) ≡ option_and_then (λ b. follow f' b r) ((f' a).child n)
  through r = ap (follow f' top) (append_assoc p (n ∷ []) r) ∙ follow-append f' p (n ∷ r) top a still_there

  directory_there : (t : Tree) → (f a).thing ≡ ADir → ReadsAs f top t → thing_at t p ≡ Some ADir
  directory_there t is reads = sym (reads.same p) ∙ thing_there f top a p at ∙ ap Some is

nonempty : (p : Path) (n : List ℕ) → (m : List ℕ) × ((q : Path) × (in_directory p n ≡ m ∷ q))
nonempty [] n = (n, ([], refl))
nonempty (k ∷ p) n = (k, (in_directory p n, refl))

pub name_gone : NameGone
name_gone f f' up top a p n named at differs is gone = (λ q away. beside_same f f' a n differs up top named p at q (beside_path (in_directory p n) q away), reads')
  where
    reads' : (t : Tree) → ReadsAs f top t → ReadsAs f' top (remove_at (in_directory p n) t)
    reads' t reads = record { tree = remove_is_tree (in_directory p n) t reads.tree way; same = same }
      where
        way : Along t (in_directory p n)
        way = along_into t p n (directory_there f f' a n differs up top named p at t is reads)

        whole : (m : List ℕ) × ((q : Path) × (in_directory p n ≡ m ∷ q))
        whole = nonempty p n

        removed_under : (r : Path) → thing_at (remove_at (in_directory p n) t) (in_directory p n ++ r) ≡ None
        removed_under r = subst (λ z. thing_at (remove_at z t) (z ++ r) ≡ None) (sym whole.1.1) (remove_under whole.0 whole.1.0 r t reads.tree (subst (Along t) whole.1.1 way))

        removed_beside : (q : Path) → IsBeside (in_directory p n) q → thing_at (remove_at (in_directory p n) t) q ≡ thing_at t q
        removed_beside q h = subst (λ z. thing_at (remove_at z t) q ≡ thing_at t q) (sym whole.1.1)
            (remove_beside whole.0 whole.1.0 q t (subst (Along t) whole.1.1 way) (subst (λ z. IsBeside z q) whole.1.1 h))

        same : (q : Path) → thing_from f' top q ≡ thing_at (remove_at (in_directory p n) t) q
        same q = elim (split (in_directory p n) q) [
          | under r e ↦ rw e (ap (option_and_then (λ b. Some (f' b).thing)) (through f f' a n differs up top named p at r ∙ ap (option_and_then (λ b. follow f' b r)) gone)
              ∙ sym (removed_under r))
          | out h ↦ thing_beside f f' a n differs up top named p at q h ∙ reads.same q ∙ sym (removed_beside q h)
        ]

pub last_name : (p q : Path) (n m : List ℕ) → in_directory p n ≡ in_directory q m → n ≡ m
last_name [] [] n m e = cc
last_name [] (k ∷ []) n m e = cc
last_name [] (k ∷ l ∷ q) n m e = cc
last_name (j ∷ []) [] n m e = cc
last_name (j ∷ i ∷ p) [] n m e = cc
last_name (j ∷ p) (k ∷ q) n m e = last_name p q n m (inside e)
  where
    inside : {x y : List ℕ} {xs ys : Path} → x ∷ xs ≡ y ∷ ys → xs ≡ ys
    inside e = cc

pub name_leads : NameLeads
name_leads f f' up top a p n b u named at differs is name leads subtree apart = (λ q away. beside_same f f' a n differs up top named p at q (beside_path (in_directory p n) q away), there, reads')
  where
    -- below the inode nothing changes
    kept : (q : Path) (y : ℕ) → follow f b q ≡ Some y → (f' y).child ≡ (f y).child
    kept q y e = λ i m. differs.others y m (inl (λ same. apart q (e ∙ ap Some same))) i

    below_same : (q : Path) → follow f' b q ≡ follow f b q
    below_same q = follow_kept f f' q [] b b refl kept

    there : (q : Path) → follow f' top (in_directory p n ++ q) ≡ follow f b q
    there q = through f f' a n differs up top named p at q ∙ ap (option_and_then (λ b. follow f' b q)) leads ∙ below_same q

    below_reads : (q : Path) → thing_from f' b q ≡ thing_at u q
    below_reads q = ap (option_and_then (λ b. Some (f' b).thing)) (below_same q) ∙ after_same _ _ (follow f b q) (λ x e. ap Some (differs.things x)) ∙ subtree.same q

    reads' : (t : Tree) → ReadsAs f top t → ReadsAs f' top (put_at (in_directory p n) u t)
    reads' t reads = record { tree = put_is_tree (in_directory p n) u t reads.tree subtree.tree way (λ q m e. subst IsName (last_name p q n m e) name); same = same }
      where
        way : Along t (in_directory p n)
        way = along_into t p n (directory_there f f' a n differs up top named p at t is reads)

        same : (q : Path) → thing_from f' top q ≡ thing_at (put_at (in_directory p n) u t) q
        same q = elim (split (in_directory p n) q) [
          | under r e ↦ rw e (ap (option_and_then (λ b. Some (f' b).thing)) (through f f' a n differs up top named p at r ∙ ap (option_and_then (λ b. follow f' b r)) leads)
              ∙ below_reads r ∙ sym (put_under (in_directory p n) r u t))
          | out h ↦ thing_beside f f' a n differs up top named p at q h ∙ reads.same q ∙ sym (put_beside (in_directory p n) q u t way h)
        ]
