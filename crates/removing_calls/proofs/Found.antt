-- What a removal finds in an image that the view may be of.
use Rattle.std.proofs.Common.{◌≡◌, ◌↔◌, inl, inr, ℕ, true, false, List, [], ◌++◌, Option, None, Some, refl, sym, ap, ◌∙◌, subst}
use Rattle.std.proofs.lemmas.Bool.{cases_Bool, cond-true}
use Rattle.std.specs.Prelude.{Contains, IsSome}
use Rattle.cluster_history.specs.Changes.{is_ok}
use Rattle.file_tree.specs.Apply.{apply}
use Rattle.file_tree.specs.Tree.{Tree}
use Rattle.file_tree.specs.declared.call.Call.{Call}
use Rattle.gfs2_layout.specs.Holding.{Cell, Holding, InChain, Itself, Part, Pointed, cell_part, part_at}
use Rattle.gfs2_layout.specs.Inode.{first_hash, is_hashed_in}
use Rattle.glock_names.specs.Views.{Seen, group_of_entry}
use Rattle.glock_names.specs.declared.LockName.{LockName}
use Rattle.glock_names.specs.declared.State.TheVariants.{Ex}
use Rattle.glock_names.specs.declared.steps.Missing.{Missing}
use Rattle.call_locks.specs.Wants.{wanted}
use Rattle.call_locks.specs.WantLaws.{path_of}
use Rattle.dinode_tree.proofs.Sound.{parts_of_led, led_of_part}
use Rattle.image_model.specs.Flat.{Path, follow}
use Rattle.image_model.specs.Image.{Image}
use Rattle.image_model.specs.Owners.{Owners, holding}
use Rattle.image_model.specs.Stands.{Layout, flat_of}
use Rattle.image_changes.specs.Changes.{inode_of}
use Rattle.image_changes.specs.Does.{IsOf}
use Rattle.image_changes.specs.Instances.{IsAt}
use Rattle.image_changes.proofs.Frame.{dinode_its}
use Rattle.draft_changes.proofs.Rows.{its_cell, its_used, part_its, part_there}
use Rattle.draft_changes.proofs.Views.{groups_are_listed, none_has_the_first}
use Rattle.path_walks.specs.Holds.{Hold, AreHeld, IsAskedFor, IsFirstLack, holds_in}
use Rattle.path_walks.proofs.Images.{is_inode, is_shown, is_sound, shown_inode, sound_directory, unbroken, unbroken_directory}
use Rattle.group_locks.specs.Groups.{GroupsAreHeld, IsFirstGroupLack, holds_of_groups, is_block_of}
use Rattle.group_locks.proofs.Locks.{blocks_of_groups_are_asked_for, first_group_lacks_are_first, groups_break_nothing, held_groups_hold_the_list}
use Rattle.resource_groups.specs.Freeing.{BreaksSome, IsNeededFor}
use Rattle.resource_groups.specs.Putting.{HasDataBlock}
use Rattle.removing_calls.specs.Removing.{Goes, IsWrongBelow, in_inode, of_leaves, stray, group_holds_of, holds_for}
use Rattle.removing_calls.proofs.Going.{directory_of_hashed}
use Rattle.pointer_tables.specs.Directories.{IsInChain}
use Rattle.hash_dirs.specs.Finding.{IsLeafOfName, in_none, in_this}
use Rattle.hash_dirs.specs.Shown.{IsSound, index_for}
use Rattle.hash_dirs.proofs.Chained.{headed, in_chain, rules}
use Rattle.directories.specs.Taking.{HasRecordOf}
use Rattle.directories.specs.Taking as taking
use Rattle.image_model.proofs.Held.{itself_own, none_some, some_same}

-- the list where the tree takes the call: behind the path's locks those of the groups
pub taken_list : (im : Image) (o : Owners) (l : Layout) (t : Tree) (c : Call) (a : ℕ) → is_ok (apply c t).reply ≡ true → IsAt im o l (path_of c false) a
    → holds_for im o l t c ≡ holds_in im o l (path_of c false) (wanted c) ++ holds_of_groups (is_block_of (holding im o a)) l.groups
taken_list im o l t c a ok at =
    ap (λ x. holds_in im o l (path_of c false) (wanted c) ++ x) (cond-true _ (group_holds_of im o l (follow (flat_of im o) l.root (path_of c false))) [] ok ∙ ap (group_holds_of im o l) at)

module _ (v : Seen) (im : Image) (o : Owners) (l : Layout) (t : Tree) (of : IsOf v im o l t) where
  -- a hashed directory on a path is sound
  pub sound_hashed : (path : Path) (a : ℕ) → IsAt im o l path a → is_hashed_in (holding im o a) ≡ true → IsSound (holding im o a)
  sound_hashed path a at hashed = sound_directory v im o l t of path a at (directory_of_hashed (holding im o a) hashed)

  part_owned : (a b : ℕ) (part : Part) → part_at (holding im o a) b ≡ Some part → inode_of b (o b) ≡ Some a
  part_owned a b part is = part_its a b (o b) part (sym (part_there im o a b) ∙ is)

  -- the leaves of its chains are its own
  pub leaf_its : (path : Path) (a i place b : ℕ) → IsAt im o l path a → is_hashed_in (holding im o a) ≡ true → IsInChain (holding im o a) i place b → inode_of b (o b) ≡ Some a
  leaf_its path a i place b at hashed chain =
      part_owned a b (InChain (first_hash (holding im o a) i) place) (in_chain (holding im o a) (sound_hashed path a at hashed) hashed i place b chain)

  -- the blocks that go with an inode are its own
  pub goes_its : (path : Path) (a b : ℕ) → IsAt im o l path a → Goes (holding im o a) b → inode_of b (o b) ≡ Some a
  goes_its path a b at (inl e) = subst (λ c. inode_of c (o c) ≡ Some a) (sym e) (dinode_its a (o a) (is_inode v im o l t of path a at))
  goes_its path a b at (inr (inl below)) =
      let part = parts_of_led (holding im o a) b (is_sound v im o l t of path a at) below in
      part_owned a b (Pointed part.0 part.1 part.2 part.3) part.4
  goes_its path a b at (inr (inr leaf)) = leaf_its path a leaf.1.0 leaf.1.1 b at leaf.0 leaf.1.2

  -- and so is the block that has a name's record
  pub record_its : (path : Path) (a b : ℕ) (name : List ℕ) → IsAt im o l path a → HasRecordOf (holding im o a) name b → inode_of b (o b) ≡ Some a
  record_its path a _ name at (taking.HasRecordOf.in_linear plain) = dinode_its a (o a) (is_inode v im o l t of path a at)
  record_its path a b name at (taking.HasRecordOf.in_hashed x hashed leaf) = by (Some x) leaf x refl
    where
      by : (found : Option ℕ) → IsLeafOfName (holding im o a) name found → (x : ℕ) → found ≡ Some x → inode_of x (o x) ≡ Some a
      by _ (in_this place y r chain is later heads) x e = leaf_its path a (index_for (holding im o a) name) place x at hashed (subst (IsInChain (holding im o a) (index_for (holding im o a) name) place) (some_same e) chain)
      by _ (in_none ends later heads) x e = absurd (none_some e)

  -- and data blocks of groups
  pub its_inside : (a b : ℕ) → inode_of b (o b) ≡ Some a → HasDataBlock v b
  its_inside a b its =
      let placed = of.stands.laid.zoned.placed b (its_used b a (o b) its).0 in
      (group_of_entry placed.0, (groups_are_listed v im o l t (group_of_entry placed.0) of).1 (placed.0, placed.1, refl), record { low = placed.2.low; high = placed.2.high })

  pub none_broken : (blocks : List ℕ) (rule b : ℕ) → BreaksSome v blocks rule b → ⊥
  none_broken blocks rule b = groups_break_nothing v im o l t blocks rule b of

  pub none_wrong_below : (path : Path) (a : ℕ) → IsAt im o l path a → (rule b : ℕ) → IsWrongBelow v a rule b → ⊥
  none_wrong_below path a at rule b (in_inode r c broken) = unbroken v im o l t of path a r c at (broken (holding im o a) (is_shown v im o l t of path a at))
  none_wrong_below path a at rule b (of_leaves r c is broken) =
      unbroken_directory v im o l t of path a r c at (is (holding im o a) (is_shown v im o l t of path a at)) (broken (holding im o a) (shown_inode v im o l t of path a at))
  none_wrong_below path a at rule b (stray from c led outside) =
      let way = led (holding im o a) (is_shown v im o l t of path a at) in
      outside (its_inside a c (goes_its path a c at (inr (inl (from, way.0, way.1, way.2, way.3)))))

-- ---- the groups of the inode's blocks

module _ (v : Seen) (im : Image) (o : Owners) (l : Layout) (t : Tree) (of : IsOf v im o l t) (path : Path) (a : ℕ) (at : IsAt im o l path a) (blocks : List ℕ)
    (goes : (b : ℕ) → Contains blocks b ↔ Goes (holding im o a) b) where
  abbrev h : Holding
  h = holding im o a

  none_there : (o' : Option Part) → IsSome o' → o' ≡ None → ⊥
  none_there None some e = cc
  none_there (Some part) some e = none_some (sym e)

  -- a block of the inode goes with it
  own_goes : (b : ℕ) (o' : Option Part) → part_at h b ≡ o' → IsSome o' → Goes h b
  own_goes b None is some = absurd (none_there None some refl)
  own_goes b (Some Itself) is some = inl (itself_own im o a b is)
  own_goes b (Some (Pointed from k level first)) is some = inr (inl (led_of_part h b from k level first (is_sound v im o l t of path a at) (none_has_the_first im o l a of.stands.laid) is))
  own_goes b (Some (InChain hash place)) is some =
      let hashed : is_hashed_in h ≡ true = (elim (cases_Bool (is_hashed_in h)) [ inl is_so ↦ is_so | inr plain ↦ absurd ((is_sound v im o l t of path a at).leafless plain b hash place is) ]) in
      let sound = sound_hashed v im o l t of path a at hashed in
      let up = headed h sound hashed place b hash is in
      let led = (rules h sound hashed).headed up.first hash up.part in
      inr (inr (hashed, (led.0, place, up.chain led.0 led.1 led.2)))

  some_part : (b : ℕ) → IsSome (h.cell b) → IsSome (part_at h b)
  some_part b some = by (h.cell b) some
    where
      by : (c : Option Cell) → IsSome c → IsSome (cell_part c)
      by None e = cc
      by (Some c) e = refl

  pub own_blocks : (b : ℕ) → Contains blocks b ↔ IsSome ((holding im o a).cell b)
  own_blocks b = (
    (λ c. its_cell im o a b (goes_its v im o l t of path a b at ((goes b).0 c))),
    (λ some. (goes b).1 (own_goes b (part_at h b) refl (some_part b some))),
  )

  -- where the view holds each of them, the list is held
  pub all_held : (list : List Hold) → AreHeld v list → GroupsAreHeld v blocks → AreHeld v (list ++ holds_of_groups (is_block_of (holding im o a)) l.groups)
  all_held list = held_groups_hold_the_list v im o l t (is_block_of (holding im o a)) blocks list of own_blocks

  -- the first that the view doesn't hold is the first lock of the list that isn't held
  pub first_unheld : (list : List Hold) (lock : LockName) → AreHeld v list → IsFirstGroupLack v blocks lock → IsFirstLack v (list ++ holds_of_groups (is_block_of (holding im o a)) l.groups) lock Ex
  first_unheld list lock = first_group_lacks_are_first v im o l t (is_block_of (holding im o a)) blocks list lock of own_blocks

  -- a block of a group that is needed is under its lock
  pub group_asked : (list : List Hold) (m : Missing) → AreHeld v list → GroupsAreHeld v blocks → IsNeededFor v blocks m
      → IsAskedFor v im o l (list ++ holds_of_groups (is_block_of (holding im o a)) l.groups) m
  group_asked list m = blocks_of_groups_are_asked_for v im o l t (is_block_of (holding im o a)) blocks list m of own_blocks
