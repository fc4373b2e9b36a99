-- Trees that are put together, from the last place on.
use Rattle.std.proofs.Common.{◌≡◌, ◌≢◌, ℕ, zero, suc, ◌+◌, ◌<◌, ◌≤◌, ◌==◌, Bool, true, false, inl, inr, List, [], ◌∷◌, length, Option, None, Some, refl, sym, ap, subst, ◌∙◌, arith}
use Rattle.std.proofs.lemmas.Bool.{cases_Bool, cases_eq, cond-true, cond-false, eqb-true, eq-eqb, both_ways}
use Rattle.std.proofs.lemmas.Slice.Eq.{bytes_eq-Decides}
use Rattle.std.specs.Prelude.{slice_get, if◌then◌else◌, ◌&&◌}
use Rattle.std.specs.Option.{option_and_then, option_map}
use Rattle.std.specs.Str.{bytes_eq}
use Rattle.file_tree.specs.Apply.{entries_of}
use Rattle.file_tree.specs.Names.{IsName}
use Rattle.file_tree.specs.Tree.{Tree, Entries, file, dir, look, set, IsDir, IsTree, AreEntries}
use Rattle.gfs2_layout.specs.Inode.{is_directory_in}
use Rattle.image_reader.specs.Assembled.{place_among, thing_found, flat_found, bare_of, tree_in, AreBare, Lacks, IsMovedUp}
use Rattle.image_model.specs.Claims.{every}
use Rattle.image_model.specs.Flat.{Path, ADir, thing_in, child_in, tree_at, thing_at, Flat, follow, thing_from, ReadsAs}
use Rattle.image_reader.specs.Found.{inode_at, IsEntryAt, IsTreeOf}
use Rattle.image_model.specs.Nodes.{thing_of}
use Rattle.image_reader.specs.Reading.{held, image_at}
use Rattle.image_reader.specs.declared.blocks.Blocks.{Blocks}
use Rattle.image_reader.specs.declared.directory.Found.{Found}
use Rattle.image_reader.specs.declared.inode.Inode.{Inode}
use Rattle.image_reader.proofs.Above.{named_by_directory}
use Rattle.image_reader.proofs.Listed.{got_low, got_one}

some_same : {X : Type 0} (x y : X) → Some x ≡ Some y → x ≡ y
some_same x y e = cc

-- ---- where a name leads

-- the entry with index i, which has this name in the directory at place p
pub record IsChildAt (fs : List Found) (p : ℕ) (name : List ℕ) (i : ℕ) : Type 0 where
  pub entry : Found
  pub there : slice_get fs i ≡ Some entry
  pub up : entry.up ≡ p
  pub named : entry.name ≡ name

abbrev matches : Found → ℕ → List ℕ → Bool
matches f p name = f.up == p && bytes_eq f.name name

both : (a b : Bool) → (a && b) ≡ true → (a ≡ true) × (b ≡ true)
both true b e = (refl, e)
both false b e = absurd (both_ways false refl e)

matched : (f : Found) (p : ℕ) (name : List ℕ) → matches f p name ≡ true → (f.up ≡ p) × (f.name ≡ name)
matched f p name e =
    let parts = both (f.up == p) (bytes_eq f.name name) e in
    (eqb-true f.up p parts.0, (bytes_eq-Decides f.name name).0 parts.1)

to_match : (f : Found) (p : ℕ) (name : List ℕ) → f.up ≡ p → f.name ≡ name → matches f p name ≡ true
to_match f p name up named = rw (eq-eqb f.up p up) ((bytes_eq-Decides f.name name).1 named)

-- what is answered is the place of such an entry
pub place_is : (fs : List Found) (first p : ℕ) (name : List ℕ) (q : ℕ) → place_among fs first p name ≡ Some q → (i : ℕ) × (q ≡ first + i) × IsChildAt fs p name i
place_is [] first p name q e = cc
place_is (f ∷ fs) first p name q e = elim (cases_Bool (matches f p name)) [
  | inl is ↦ (0, omega (arith, some_same first q (sym (cond-true _ _ _ is) ∙ e)), record { entry = f; there = refl; up = (matched f p name is).0; named = (matched f p name is).1 })
  | inr other ↦
      let more = place_is fs (suc first) p name q (sym (cond-false _ _ _ other) ∙ e) in
      (suc more.0, omega (arith, more.1), record { entry = more.2.entry; there = more.2.there; up = more.2.up; named = more.2.named })
]

-- where there is such an entry, some place is answered
pub place_some : (fs : List Found) (first p : ℕ) (name : List ℕ) (i : ℕ) → IsChildAt fs p name i → (q : ℕ) × (place_among fs first p name ≡ Some q)
place_some [] first p name i is = cc
place_some (f ∷ fs) first p name zero is =
    let same = some_same f is.entry is.there in
    (first, cond-true _ _ _ (to_match f p name (ap (λ (g : Found). g.up) same ∙ is.up) (ap (λ (g : Found). g.name) same ∙ is.named)))
place_some (f ∷ fs) first p name (suc i) is = elim (cases_Bool (matches f p name)) [
  | inl here ↦ (first, cond-true _ _ _ here)
  | inr other ↦
      let more = place_some fs (suc first) p name i (record { entry = is.entry; there = is.there; up = is.up; named = is.named }) in
      (more.0, cond-false _ _ _ other ∙ more.1)
]

module _ (image : Blocks) (top : Inode) (found : List Found) (is : IsTreeOf image top found) where
  abbrev flat : Flat
  flat = flat_found top found

  pub child_place : (p : ℕ) (name : List ℕ) (q : ℕ) → (flat p).child name ≡ Some q → (i : ℕ) × (q ≡ suc i) × IsChildAt found p name i
  child_place p name q e = let at = place_is found 1 p name q e in (at.0, omega (arith, at.1), at.2)

  -- each entry is at its place
  pub place_child : (p : ℕ) (name : List ℕ) (i : ℕ) → IsChildAt found p name i → (flat p).child name ≡ Some (suc i)
  place_child p name i at =
      let some = place_some found 1 p name i at in
      let there = child_place p name some.0 some.1 in
      let same : there.0 ≡ i = is.once there.0 i there.2.entry at.entry there.2.there at.there (there.2.up ∙ sym at.up) (there.2.named ∙ sym at.named) in
      some.1 ∙ ap Some (there.1 ∙ ap suc same)

  -- places rise on the way down
  pub child_above : (p : ℕ) (name : List ℕ) (q : ℕ) → (flat p).child name ≡ Some q → p < q
  child_above p name q e =
      let at = child_place p name q e in
      omega (arith, at.1, at.2.up, (is.named at.0 at.2.entry at.2.there).before)

-- ---- trees that grow

-- a name that is there leads to a place behind k and to the tree that reads from there; one that isn't leads no further than to k
abbrev pub Reads : Flat → ℕ → Option Tree → Option ℕ → Type 0
Reads flat k None None = Unit {0}
Reads flat k None (Some q) = q ≤ k
Reads flat k (Some t) None = ⊥
Reads flat k (Some t) (Some q) = (k < q) × ReadsAs flat q t

-- the tree at place p, when those behind place k are in their directories
pub record IsGrown (flat : Flat) (k p : ℕ) (t : Tree) : Type 0 where
  pub tree : IsTree t
  pub thing : (flat p).thing ≡ thing_in t
  pub child : (name : List ℕ) → Reads flat k (child_in t name) ((flat p).child name)

pub record AreGrown (flat : Flat) (k : ℕ) (trees : List Tree) : Type 0 where
  pub count : length trees ≡ k + 1
  pub each : (p : ℕ) → p ≤ k → IsGrown flat k p (tree_in trees p)

under : (flat : Flat) (k : ℕ) (path : Path) (o : Option Tree) (c : Option ℕ) → Reads flat k o c → ((q : ℕ) → c ≡ Some q → k < q)
    → option_and_then (λ b. Some (flat b).thing) (option_and_then (λ b. follow flat b path) c) ≡ option_and_then (λ u. Some (thing_in u)) (option_and_then (λ u. tree_at u path) o)
under flat k path None None reads high = refl
under flat k path None (Some q) reads high = absurd (omega (arith, reads, high q refl))
under flat k path (Some t) None reads high = absurd reads
under flat k path (Some t) (Some q) reads high = reads.1.same path

-- a tree that has all its names reads whole
pub reads_whole : (flat : Flat) (k p : ℕ) (t : Tree) → ((name : List ℕ) (q : ℕ) → (flat p).child name ≡ Some q → k < q) → IsGrown flat k p t → ReadsAs flat p t
reads_whole flat k p t high is = record { tree = is.tree; same = λ path. same path }
  where
    same : (path : Path) → thing_from flat p path ≡ thing_at t path
    same [] = ap Some is.thing
    same (n ∷ path) = under flat k path (child_in t n) ((flat p).child n) (is.child n) (high n)

one_fewer : (flat : Flat) (j : ℕ) (o : Option Tree) (c : Option ℕ) → Reads flat (suc j) o c → (c ≡ Some (suc j) → ⊥) → Reads flat j o c
one_fewer flat j None None reads other = tt
one_fewer flat j None (Some q) reads other = elim (cases_eq q (suc j)) [ inl e ↦ absurd (other (ap Some e)) | inr d ↦ omega (arith, reads, d) ]
one_fewer flat j (Some t) None reads other = reads
one_fewer flat j (Some t) (Some q) reads other = (omega (arith, reads.0), reads.1)

directory_from : (t : Tree) → thing_in t ≡ ADir → IsDir t
directory_from (file bytes) e = cc
directory_from (dir es) e = tt

absent_from : (flat : Flat) (k : ℕ) (o : Option Tree) (q : ℕ) → Reads flat k o (Some q) → q ≤ k → o ≡ None
absent_from flat k None q reads low = refl
absent_from flat k (Some t) q reads low = absurd (omega (arith, reads.0, low))

child_of_dir : (t : Tree) (name : List ℕ) → IsDir t → child_in t name ≡ look (entries_of t) name
child_of_dir (file bytes) name is = absurd is
child_of_dir (dir es) name is = refl

entries_tree : (t : Tree) → IsDir t → IsTree t → AreEntries (entries_of t)
entries_tree (file bytes) is tree = absurd is
entries_tree (dir es) is tree = tree

dir_thing : (t : Tree) → IsDir t → thing_in t ≡ ADir
dir_thing (file bytes) is = absurd is
dir_thing (dir es) is = refl

abbrev pub NamesStand : Type 0
NamesStand = (es : Entries) (set_name : List ℕ) (tree : Tree) (name : List ℕ) → look (set es set_name tree) name ≡ (if bytes_eq name set_name then Some tree else look es name)

abbrev pub StayWellFormed : Type 0
StayWellFormed = (es : Entries) (name : List ℕ) (tree : Tree) → AreEntries es → IsName name → IsTree tree → AreEntries (set es name tree)

module _ (image : Blocks) (top : Inode) (found : List Found) (is : IsTreeOf image top found) where
  abbrev flat' : Flat
  flat' = flat_found top found

  -- the directory above an entry
  above_thing : (i : ℕ) (f : Found) → IsEntryAt found i f → (flat' f.up).thing ≡ ADir
  above_thing i f at =
      let named = is.named i f at in
      let im = image_at image in
      let dir : is_directory_in (every im f.parent) ≡ true = named_by_directory im f.by f.inode.block.number f.parent f.name named.claimed in
      let of_image : named.above.block.image ≡ image = image_of f.up named.above named.up in
      let same : held named.above ≡ every im f.parent = ap (λ (b : Blocks). every (image_at b) named.above.block.number) of_image ∙ ap (every im) (sym named.parent) in
      ap thing_found named.up ∙ ap thing_of same ∙ cond-true _ _ _ dir
    where
      image_of : (p : ℕ) (inode : Inode) → inode_at top found p ≡ Some inode → inode.block.image ≡ image
      image_of zero inode e = ap (λ (n : Inode). n.block.image) (sym (some_same top inode e)) ∙ is.of_image
      image_of (suc p) inode e = each (slice_get found p) refl e
        where
          each : (o : Option Found) → slice_get found p ≡ o → option_map (λ (g : Found). g.inode) o ≡ Some inode → inode.block.image ≡ image
          each None got e = cc
          each (Some g) got e = ap (λ (n : Inode). n.block.image) (sym (some_same g.inode inode e)) ∙ (is.named p g got).of_image

  module _ (j : ℕ) (f : Found) (at : IsEntryAt found j f) (trees : List Tree) (grown : AreGrown flat' (suc j) trees) where
    low : f.up ≤ j
    low = (is.named j f at).before

    here : IsChildAt found f.up f.name j
    here = record { entry = f; there = at; up = refl; named = refl }

    leads : (flat' f.up).child f.name ≡ Some (suc j)
    leads = place_child image top found is f.up f.name j here

    above_is : IsGrown flat' (suc j) f.up (tree_in trees f.up)
    above_is = grown.each f.up (omega (arith, low))

    above_dir : IsDir (tree_in trees f.up)
    above_dir = directory_from (tree_in trees f.up) (sym above_is.thing ∙ above_thing j f at)

    -- there is room for its tree
    pub lacks : Lacks trees f.up f.name
    lacks = record {
      before = omega (arith, low, grown.count);
      directory = above_dir;
      absent = sym (child_of_dir (tree_in trees f.up) f.name above_dir)
          ∙ absent_from flat' (suc j) (child_in (tree_in trees f.up) f.name) (suc j) (subst (Reads flat' (suc j) (child_in (tree_in trees f.up) f.name)) leads (above_is.child f.name)) (omega arith);
    }

    whole : ReadsAs flat' (suc j) (tree_in trees (suc j))
    whole = reads_whole flat' (suc j) (suc j) (tree_in trees (suc j)) (child_above image top found is (suc j)) (grown.each (suc j) (omega arith))

    -- no other entry has its place
    only : (p : ℕ) (name : List ℕ) → (flat' p).child name ≡ Some (suc j) → (f.up ≡ p) × (f.name ≡ name)
    only p name e =
        let there = child_place image top found is p name (suc j) e in
        let same : f ≡ there.2.entry = got_one found j there.0 f there.2.entry (omega (arith, there.1)) at there.2.there in
        (ap (λ (g : Found). g.up) same ∙ there.2.up, ap (λ (g : Found). g.name) same ∙ there.2.named)

    module _ (more : List Tree) (moved : IsMovedUp trees more f.up f.name) (stand : NamesStand) (stay : StayWellFormed) where
      count : length more ≡ j + 1
      count = omega (arith, grown.count, moved.count)

      abbrev put : Tree
      put = dir (set (entries_of (tree_in trees f.up)) f.name (tree_in trees (suc j)))

      put_is : tree_in more f.up ≡ put
      put_is = let last : length more ≡ suc j = omega (arith, count) in moved.there ∙ ap (λ n. dir (set (entries_of (tree_in trees f.up)) f.name (tree_in trees n))) last

      put_child : (name : List ℕ) → Reads flat' j (child_in put name) ((flat' f.up).child name)
      put_child name = subst (λ o. Reads flat' j o ((flat' f.up).child name)) (sym (stand (entries_of (tree_in trees f.up)) f.name (tree_in trees (suc j)) name)) (elim (cases_Bool (bytes_eq name f.name)) [
        | inl e ↦
            let same : name ≡ f.name = (bytes_eq-Decides name f.name).0 e in
            let to : (flat' f.up).child name ≡ Some (suc j) = ap (flat' f.up).child same ∙ leads in
            subst (λ o. Reads flat' j o ((flat' f.up).child name)) (sym (cond-true _ _ _ e)) (subst (Reads flat' j (Some (tree_in trees (suc j)))) (sym to) (omega arith, whole))
        | inr d ↦
            let old : Reads flat' (suc j) (look (entries_of (tree_in trees f.up)) name) ((flat' f.up).child name)
            = subst (λ o. Reads flat' (suc j) o ((flat' f.up).child name)) (child_of_dir (tree_in trees f.up) name above_dir) (above_is.child name) in
            subst (λ o. Reads flat' j o ((flat' f.up).child name)) (sym (cond-false _ _ _ d))
            (one_fewer flat' j (look (entries_of (tree_in trees f.up)) name) ((flat' f.up).child name) old (λ e. both_ways _ d ((bytes_eq-Decides name f.name).1 (sym (only f.up name e).1))))
      ])

      put_grown : IsGrown flat' j f.up put
      put_grown = record {
        tree = stay (entries_of (tree_in trees f.up)) f.name (tree_in trees (suc j)) (entries_tree (tree_in trees f.up) above_dir above_is.tree) (is.named j f at).name whole.tree;
        thing = above_is.thing ∙ dir_thing (tree_in trees f.up) above_dir;
        child = put_child;
      }

      other_grown : (p : ℕ) → p ≤ j → p ≢ f.up → IsGrown flat' j p (tree_in trees p)
      other_grown p below other =
          let old = grown.each p (omega (arith, below)) in
          record {
            tree = old.tree;
            thing = old.thing;
            child = λ name. one_fewer flat' j (child_in (tree_in trees p) name) ((flat' p).child name) (old.child name) (λ e. other (sym (only p name e).0));
          }

      pub grown_more : AreGrown flat' j more
      grown_more = record {
        count = count;
        each = λ p below. elim (cases_eq p f.up) [
          | inl e ↦ subst (λ n. IsGrown flat' j n (tree_in more n)) (sym e) (subst (IsGrown flat' j f.up) (sym put_is) put_grown)
          | inr d ↦ subst (IsGrown flat' j p) (sym (moved.others p (omega (arith, below, count)) d)) (other_grown p below d)
        ];
      }

  -- ---- the first and the last

  thing_bare : (inode : Inode) → thing_of (held inode) ≡ thing_in (bare_of (held inode))
  thing_bare inode = elim (cases_Bool (is_directory_in (held inode))) [
    | inl d ↦ cond-true _ _ _ d ∙ ap thing_in (sym (cond-true _ _ _ d))
    | inr n ↦ cond-false _ _ _ n ∙ ap thing_in (sym (cond-false _ _ _ n))
  ]

  tree_bare : (inode : Inode) → IsTree (bare_of (held inode))
  tree_bare inode = elim (cases_Bool (is_directory_in (held inode))) [
    | inl d ↦ subst IsTree (sym (cond-true _ _ _ d)) tt
    | inr n ↦ subst IsTree (sym (cond-false _ _ _ n)) tt
  ]

  no_child : (inode : Inode) (name : List ℕ) → child_in (bare_of (held inode)) name ≡ None
  no_child inode name = elim (cases_Bool (is_directory_in (held inode))) [
    | inl d ↦ ap (λ t. child_in t name) (cond-true _ _ _ d)
    | inr n ↦ ap (λ t. child_in t name) (cond-false _ _ _ n)
  ]

  inode_there : (p : ℕ) → p ≤ length found → (inode : Inode) × (inode_at top found p ≡ Some inode)
  inode_there zero low = (top, refl)
  inode_there (suc p) low = got found p (omega (arith, low))
    where
      got : (fs : List Found) (i : ℕ) → i < length fs → (inode : Inode) × (option_map (λ (g : Found). g.inode) (slice_get fs i) ≡ Some inode)
      got [] i low = absurd (omega arith)
      got (g ∷ fs) zero low = (g.inode, refl)
      got (g ∷ fs) (suc i) low = got fs i (omega arith)

  none_yet : (c : Option ℕ) → ((q : ℕ) → c ≡ Some q → q ≤ length found) → Reads flat' (length found) None c
  none_yet None low = tt
  none_yet (Some q) low = low q refl

  pub grown_bare : (trees : List Tree) → AreBare top found trees → AreGrown flat' (length found) trees
  grown_bare trees bare = record {
    count = omega (arith, bare.count);
    each = λ p low.
        let at = inode_there p low in
        subst (IsGrown flat' (length found) p) (sym (bare.each p at.0 at.1)) (record {
          tree = tree_bare at.0;
          thing = ap thing_found at.1 ∙ thing_bare at.0;
          child = λ name. subst (λ o. Reads flat' (length found) o ((flat' p).child name)) (sym (no_child at.0 name))
              (none_yet ((flat' p).child name) (λ q e.
              let there = child_place image top found is p name q e in
              omega (arith, there.1, got_low found there.0 there.2.entry there.2.there)));
        });
  }

  pub grown_whole : (trees : List Tree) → AreGrown flat' 0 trees → ReadsAs flat' 0 (tree_in trees 0)
  grown_whole trees grown = reads_whole flat' 0 0 (tree_in trees 0) (child_above image top found is 0) (grown.each 0 (omega arith))
