-- A directory loses a name, and the inode that it named is no more: the image stands for the tree without it.
use Rattle.std.proofs.Common.{◌≡◌, ◌≢◌, ℕ, ◌≤◌, ◌⊎◌, inl, inr, true, false, List, [], ◌∷◌, ◌++◌, None, Some, refl, sym, ap, ◌∙◌, subst, append_assoc, Bool}
use Rattle.std.specs.Prelude.{codes, option_and_then}
use Rattle.std.proofs.lemmas.Bool.{cases_Bool, cases_eq, true≢false}
use Rattle.std.proofs.lemmas.List.Sorted.{IsPermutation-sym, Contains-permutation}
use Rattle.file_tree.specs.Tree.{Tree}
use Rattle.file_tree.specs.Names.{leads_to}
use Rattle.file_tree.specs.Apply.{remove_at}
use Rattle.gfs2_layout.specs.Inode.{Head}
use Rattle.gfs2_layout.specs.Records.{Record, is_dots, child_named}
use Rattle.image_model.specs.Flat.{Path, Flat, follow, ReadsAs}
use Rattle.image_model.specs.Image.{Image}
use Rattle.image_model.specs.Owners.{Owners, Named, Up, up_of, parent_of, is_dinode}
use Rattle.image_model.specs.Stands.{Layout, flat_of, heads_of, HasRecord, IsDirectory, IsFound, name_count}
use Rattle.image_model.proofs.Held.{none_some, some_same}
use Rattle.image_model.proofs.Members.{IsIn, contained, is_in}
use Rattle.image_model.proofs.Trees.{same_or_not}
use Rattle.image_changes.specs.Changes.{KeepsNames, SystemStays}
use Rattle.image_changes.specs.Flats.{SameBut, in_directory}
use Rattle.image_changes.specs.Instances.{StandsBy, IsAt, among, dinode_at, records_at, is_directory_at, IsNameRemoved, NameIsRemoved}
use Rattle.image_changes.proofs.TreePaths.{IsBeside, leads_beside, under, out, split, beside_above, not_beside_self}
use Rattle.image_changes.proofs.FlatPaths.{one_path, follow-append, unreached, name_gone}
use Rattle.image_changes.proofs.Bare.{not_dots}
use Rattle.image_changes.proofs.Directories.{same_has, has_stays, go_and_come, child_stays, child_goes, once_less, one_lacks}
use Rattle.image_changes.proofs.Frame.{row_kept, same_dinode, head_same}
use Rattle.image_changes.proofs.Laid.{root_named, child_rows, follow_dinode, laid_after, system_stays, up_row, row_up, row_dinode}
use Rattle.image_changes.proofs.Standing.{has_child_directory, childless, parent_dinode, parent_has, not_own_child, rest_differs}
use Rattle.image_changes.proofs.Nodes.{among_in, not_among, dir_thing, dir_child, dots_child, leading, leading_other, leads_elsewhere, leads_there, no_system, master_stays, untouched_flat, rows_kept}

module _ (im im' : Image) (o o' : Owners) (l : Layout) (written : ℕ → Bool) (p : ℕ) (name : List ℕ) (a : ℕ) (path : Path) (t : Tree)
    (stands : StandsBy im o l t) (at : IsAt im o l path p) (is : IsNameRemoved im im' o o' l written p name a) where
  abbrev ys : List ℕ
  ys = p ∷ (a ∷ [])

  which : (y : ℕ) → IsIn y ys → (y ≡ p) ⊎ (y ≡ a)
  which y (inl e) = inl e
  which y (inr (inl e)) = inr e
  which y (inr (inr h)) = elim h [ ]

  dinode : is_dinode (o p) ≡ true
  dinode = follow_dinode im o l stands.laid path l.root p (ap is_dinode stands.laid.root.0) at

  dinode_a : is_dinode (o a) ≡ true
  dinode_a = row_dinode (o a) p name is.row

  child_was : (flat_of im o p).child name ≡ Some a
  child_was = stands.laid.names a (record { parent = p; name = name }) (row_up (o a) p name is.row)

  plain : is_dots name ≡ false
  plain = (child_rows im o l stands.laid p a name child_was).1

  directory : is_directory_at im o p ≡ true
  directory = has_child_directory im o l stands.laid p a name child_was

  apart : p ≢ a
  apart e = not_own_child im o l stands.laid path name p at (child_was ∙ ap Some (sym e))

  no_child : (m : List ℕ) → (flat_of im o a).child m ≡ None
  no_child = childless im o l stands.laid a dinode_a is.childless

  to_a : IsAt im o l (in_directory path name) a
  to_a = follow-append (flat_of im o) path (name ∷ []) l.root p at ∙ ap (option_and_then (λ b. Some b)) child_was

  whence : (y : ℕ) → IsIn y ys → ((q : Path) × (follow (flat_of im o) l.root q ≡ Some y)) ⊎ (is_dinode (o y) ≡ false)
  whence y h = elim (which y h) [ inl e ↦ inl (path, at ∙ ap Some (sym e)) | inr e ↦ inl (in_directory path name, to_a ∙ ap Some (sym e)) ]

  away : (x : ℕ) → x ≢ p → x ≢ a → IsIn x ys → ⊥
  away x d d' h = elim (which x h) [ inl e ↦ d e | inr e ↦ d' e ]

  not_a : (x : ℕ) → is_dinode (o' x) ≡ true → x ≢ a
  not_a x so e = true≢false (sym so ∙ ap (λ z. is_dinode (o' z)) e ∙ is.gone)

  row_stays : (x : ℕ) → is_dinode (o x) ≡ true → x ≢ a → o' x ≡ o x
  row_stays x so d = elim (cases_eq x p) [
    | inl e ↦ subst (λ z. o' z ≡ o z) (sym e) is.parent_row
    | inr d' ↦ row_kept im im' o o' l (among ys) written is.change x (not_among ys x (away x d' d)) (inl so)
  ]

  stays : (x : ℕ) → is_dinode (o x) ≡ true → x ≢ a → is_dinode (o' x) ≡ true
  stays x so d = ap is_dinode (row_stays x so d) ∙ so

  was : (x : ℕ) → is_dinode (o' x) ≡ true → is_dinode (o x) ≡ true
  was x so = elim (cases_eq x p) [
    | inl e ↦ ap (λ z. is_dinode (o z)) e ∙ dinode
    | inr d' ↦ sym (same_dinode im im' o o' l (among ys) written is.change x (not_among ys x (away x d' (not_a x so)))) ∙ so
  ]

  head_stays : (x : ℕ) → is_dinode (o x) ≡ true → x ≢ a → heads_of im' o' x ≡ heads_of im o x
  head_stays x so d = head_same im im' o o' l (among ys) written is.change x so (stays x so d)

  directory' : is_directory_at im' o' p ≡ true
  directory' = ap (λ (h : Head). h.is_dir) (head_stays p dinode apart) ∙ directory

  others : (x : ℕ) → x ≢ p → x ≢ a → flat_of im' o' x ≡ flat_of im o x
  others x d d' = untouched_flat im im' o o' l ys written stands.laid is.change whence x (away x d d')

  -- ---- the parent's records

  before : IsDirectory (heads_of im o) o p (records_at im o p) (dinode_at im o p)
  before = stands.laid.directories p dinode directory

  once' : (m : List ℕ) → name_count (records_at im' o' p) m ≤ 1
  once' = once_less (records_at im o p) (records_at im' o' p) (is.entry ∷ []) is.exchanged before.once

  above : parent_of p (o p) ≢ a
  above e = let has = parent_has im o l stands.laid p a e apart in none_some (sym (no_child has.0) ∙ has.1)

  parent_directory : IsDirectory (heads_of im' o') o' p (records_at im' o' p) (dinode_at im' o' p)
  parent_directory =
      let lacks = not_dots name plain in
      go_and_come (heads_of im o) (heads_of im' o') o o' p (records_at im o p) (records_at im' o' p) (is.entry ∷ []) [] (dinode_at im o p) (dinode_at im' o' p)
      before is.exchanged is.counted
      (has_stays (heads_of im' o') _ _ (is.entry ∷ []) [] (codes ".") p is.exchanged (one_lacks is.entry (codes ".") (λ e. lacks.0 (sym is.named ∙ sym e)))
      (same_has (heads_of im o) (heads_of im' o') _ (codes ".") p (head_stays p dinode apart) before.dot))
      (subst (λ x. HasRecord (heads_of im' o') (records_at im' o' p) (codes "..") (parent_of p x)) (sym is.parent_row)
      (has_stays (heads_of im' o') _ _ (is.entry ∷ []) [] (codes "..") (parent_of p (o p)) is.exchanged (one_lacks is.entry (codes "..") (λ e. lacks.1 (sym is.named ∙ sym e)))
      (same_has (heads_of im o) (heads_of im' o') _ (codes "..") (parent_of p (o p)) (head_stays (parent_of p (o p)) (parent_dinode im o l stands.laid p dinode) above) before.dots)))
      once'
      (λ r at plain. elim (is_in r [] at) [ ])
      (λ r at plain. agree r plain (is_in r is.exchanged.rest at))
    where
      same_name : (r : Record) → Named p r.name ≡ Named p name → r.name ≡ name
      same_name r e = cc

      agree : (r : Record) → is_dots r.name ≡ false → IsIn r is.exchanged.rest → (o' r.address ≡ o r.address) × (heads_of im' o' r.address ≡ heads_of im o r.address)
      agree r plain at =
          let owner = (before.down r (Contains-permutation _ (records_at im o p) r (IsPermutation-sym _ _ is.exchanged.before) (contained r (is.entry ∷ is.exchanged.rest) (inr at))) plain).owner in
          let other : r.address ≢ a = λ e. rest_differs (records_at im o p) (records_at im' o' p) (is.entry ∷ []) [] is.exchanged before.once r is.entry (inl refl) at
          (same_name r (sym owner ∙ ap o e ∙ is.row) ∙ sym is.named) in
          let so = row_dinode (o r.address) p r.name owner in
          (row_stays r.address so other, head_stays r.address so other)

  child_old : (m : List ℕ) → m ≢ name → (flat_of im' o' p).child m ≡ (flat_of im o p).child m
  child_old m d = elim (cases_Bool (is_dots m)) [
    | inl dots ↦ dots_child im' o' p (stays p dinode apart) directory' m dots ∙ sym (dots_child im o p dinode directory m dots)
    | inr plain ↦ dir_child im' o' p (stays p dinode apart) directory' m plain
        ∙ child_stays (records_at im o p) (records_at im' o' p) (is.entry ∷ []) [] is.exchanged before.once once' m (one_lacks is.entry m (λ e. d (e ∙ is.named))) refl
        ∙ sym (dir_child im o p dinode directory m plain)
  ]

  child_none : (flat_of im' o' p).child name ≡ None
  child_none = dir_child im' o' p (stays p dinode apart) directory' name plain
      ∙ subst (λ m. child_named (records_at im' o' p) m ≡ None) is.named (child_goes (records_at im o p) (records_at im' o' p) (is.entry ∷ []) [] is.exchanged before.once once' is.entry (inl refl) refl)

  -- ---- the flat volumes: first the name is gone, and then the inode, which no path leads to

  abbrev unnamed : Flat
  unnamed = leading (flat_of im o) p name None

  went : ((q : Path) → leads_to (in_directory path name) q ≡ false → follow unnamed l.root q ≡ follow (flat_of im o) l.root q)
      × ((v : Tree) → ReadsAs (flat_of im o) l.root v → ReadsAs unnamed l.root (remove_at (in_directory path name) v))
  went = name_gone (flat_of im o) unnamed (λ b. up_of (o b)) l.root p path name (root_named im o l stands.laid) at (leads_elsewhere (flat_of im o) p name None)
      (dir_thing im o p dinode directory) (leads_there (flat_of im o) p name None)

  gone : ((q : Path) → IsBeside (in_directory path name) q → follow unnamed l.root q ≡ follow (flat_of im o) l.root q)
      × ((v : Tree) → ReadsAs (flat_of im o) l.root v → ReadsAs unnamed l.root (remove_at (in_directory path name) v))
  gone = (λ q h. went.0 q (leads_beside (in_directory path name) q h), went.1)

  not_under : (r : Path) → follow unnamed l.root (in_directory path name ++ r) ≡ None
  not_under r = ap (follow unnamed l.root) (append_assoc path (name ∷ []) r)
      ∙ follow-append unnamed path (name ∷ r) l.root p (gone.0 path (beside_above path [] name) ∙ at)
      ∙ ap (option_and_then (λ b. follow unnamed b r)) (leads_there (flat_of im o) p name None)

  far : (q : Path) → follow unnamed l.root q ≢ Some a
  far q e = elim (split (in_directory path name) q) [
    | under r f ↦ none_some (sym (not_under r) ∙ ap (follow unnamed l.root) (sym f) ∙ e)
    | out h ↦ not_beside_self (in_directory path name) (subst (IsBeside (in_directory path name))
        (one_path (flat_of im o) (λ b. up_of (o b)) l.root (root_named im o l stands.laid) q (in_directory path name) a (sym (gone.0 q h) ∙ e) to_a) h)
  ]

  after_gone : SameBut a unnamed (flat_of im' o')
  after_gone x d = elim (cases_eq x p) [
    | inr d' ↦ others x d' d ∙ sym (leading_other (flat_of im o) p name None x d')
    | inl e ↦ subst (λ z. flat_of im' o' z ≡ unnamed z) (sym e) (λ i. record { thing = thing_same i; child = λ m. child_same m i })
  ]
    where
      thing_same : (flat_of im' o' p).thing ≡ (unnamed p).thing
      thing_same = dir_thing im' o' p (stays p dinode apart) directory' ∙ sym (dir_thing im o p dinode directory) ∙ sym ((leads_elsewhere (flat_of im o) p name None).things p)

      child_same : (m : List ℕ) → (flat_of im' o' p).child m ≡ (unnamed p).child m
      child_same m = elim (same_or_not m name) [
        | inl e ↦ subst (λ k. (flat_of im' o' p).child k ≡ (unnamed p).child k) (sym e) (child_none ∙ sym (leads_there (flat_of im o) p name None))
        | inr d ↦ child_old m d ∙ sym ((leads_elsewhere (flat_of im o) p name None).others p m (inr d))
      ]

  left : ((q : Path) → follow (flat_of im' o') l.root q ≡ follow unnamed l.root q) × ((v : Tree) → ReadsAs unnamed l.root v → ReadsAs (flat_of im' o') l.root v)
  left = unreached unnamed (flat_of im' o') l.root each
    where
      each : (x : ℕ) → (flat_of im' o' x ≡ unnamed x) ⊎ ((q : Path) → follow unnamed l.root q ≢ Some x)
      each x = elim (cases_eq x a) [ inl e ↦ inr (λ q f. far q (f ∙ ap Some e)) | inr d ↦ inl (after_gone x d) ]

  -- ---- what is owed of names

  keeps : KeepsNames im im' o o' l (among ys)
  keeps = record {
    system = no_system im im' o o' l ys written stands.laid is.change whence;
    root = row_stays l.root (ap is_dinode stands.laid.root.0) root_other ∙ stands.laid.root.0;
    rows = rows_kept im im' o o' l ys written stands.laid is.change whence rows;
    directories = λ x here so is_dir. subst (λ z. IsDirectory (heads_of im' o') o' z (records_at im' o' z) (dinode_at im' o' z)) (sym (parent x here so)) parent_directory;
    names = λ x w here e. names x w (which w.parent (among_in ys w.parent here)) e;
    found = λ x so. found x so;
    short = λ x here so not. absurd (true≢false (sym directory' ∙ ap (is_directory_at im' o') (sym (parent x here so)) ∙ not));
  }
    where
      root_other : l.root ≢ a
      root_other e = none_some (ap up_of (sym (stands.laid.root.0)) ∙ ap (λ z. up_of (o z)) e ∙ row_up (o a) p name is.row)

      parent : (x : ℕ) → among ys x ≡ true → is_dinode (o' x) ≡ true → x ≡ p
      parent x here so = elim (which x (among_in ys x here)) [ inl e ↦ e | inr e ↦ absurd (not_a x so e) ]

      parent_is : (q : ℕ) (n : List ℕ) → Named p name ≡ Named q n → q ≡ p
      parent_is q n e = cc

      rows : (y : ℕ) → IsIn y ys → (o' y ≡ o y) ⊎ ((q : ℕ) (n : List ℕ) → (o y ≡ Named q n) ⊎ (o' y ≡ Named q n) → IsIn q ys)
      rows y h = elim (which y h) [
        | inl e ↦ inl (subst (λ z. o' z ≡ o z) (sym e) is.parent_row)
        | inr e ↦ inr (λ q n w. elim w [
          | inl f ↦ inl (parent_is q n (sym is.row ∙ ap o (sym e) ∙ f))
          | inr f ↦ absurd (not_a y (row_dinode (o' y) q n f) e)
        ])
      ]

      names : (x : ℕ) (w : Up) → (w.parent ≡ p) ⊎ (w.parent ≡ a) → up_of (o' x) ≡ Some w → (flat_of im' o' w.parent).child w.name ≡ Some x
      names x w parent e = each parent
        where
          so' : is_dinode (o' x) ≡ true
          so' = row_dinode (o' x) w.parent w.name (up_row (o' x) w e)

          there : (flat_of im o w.parent).child w.name ≡ Some x
          there = stands.laid.names x w (ap up_of (sym (row_stays x (was x so') (not_a x so'))) ∙ e)

          each : (w.parent ≡ p) ⊎ (w.parent ≡ a) → (flat_of im' o' w.parent).child w.name ≡ Some x
          each (inr f) = absurd (none_some (sym (no_child w.name) ∙ subst (λ z. (flat_of im o z).child w.name ≡ Some x) f there))
          each (inl f) =
              let there_p = subst (λ z. (flat_of im o z).child w.name ≡ Some x) f there in
              subst (λ z. (flat_of im' o' z).child w.name ≡ Some x) (sym f)
              (child_old w.name (λ m. not_a x so' (some_same (sym (subst (λ k. (flat_of im o p).child k ≡ Some x) m there_p) ∙ child_was))) ∙ there_p)

      below_a : (r : Path) (x : ℕ) → follow (flat_of im o) a r ≡ Some x → x ≡ a
      below_a [] x e = sym (some_same e)
      below_a (n ∷ r) x e = absurd (none_some (sym (ap (option_and_then (λ b. follow (flat_of im o) b r)) (no_child n)) ∙ e))

      found : (x : ℕ) → is_dinode (o' x) ≡ true → IsFound (flat_of im' o') l x
      found x so = elim (stands.laid.found x (was x so)) [
        | inr way ↦ inr (way.0, master_stays im im' o o' l ys written stands.laid is.change whence way.0 ∙ way.1)
        | inl way ↦ elim (split (in_directory path name) way.0) [
          | under r e ↦ absurd (not_a x so (below_a r x (sym (follow-append (flat_of im o) (in_directory path name) r l.root a to_a) ∙ ap (follow (flat_of im o) l.root) (sym e) ∙ way.1)))
          | out h ↦ inl (way.0, left.0 way.0 ∙ gone.0 way.0 h ∙ way.1)
        ]
      ]

  pub removed_stands : StandsBy im' o' l (remove_at (in_directory path name) t) × SystemStays im im' o o' l
  removed_stands = (
    record {
      laid = laid_after im im' o o' l (among ys) written stands.laid is.change keeps;
      reads = left.1 (remove_at (in_directory path name) t) (gone.1 t stands.reads);
    },
    system_stays im im' o o' l (among ys) written stands.laid is.change keeps,
  )

pub name_is_removed : NameIsRemoved
name_is_removed = removed_stands
