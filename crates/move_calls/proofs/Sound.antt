-- In an image that stands for a tree nothing is told as damage of a call that moves a name, and none is stuck.
use Rattle.std.proofs.Common.{◌≡◌, ◌≢◌, ◌⊎◌, ◌&&◌, ◌<◌, ◌+◌, ◌^◌, inl, inr, ℕ, false, true, true≢false, List, [], ◌∷◌, ◌++◌, length, Option, None, Some, append-nil, refl, sym, ap, ap₂, ◌∙◌, subst, arith}
use Rattle.std.proofs.lemmas.List.{length-append}
use Rattle.std.proofs.lemmas.Slice.Eq.{bytes_eq-Decides}
use Rattle.std.specs.Prelude.{Contains, IsSome, is_some, option_and_then}
use Rattle.crc_words.specs.Remainder.{crc32_of}
use Rattle.file_tree.specs.Names.{last_of, leads_to, parent_of}
use Rattle.file_tree.specs.Tree.{Tree}
use Rattle.file_tree.specs.declared.call.Call.{Call}
use Rattle.gfs2_layout.specs.Holding.{Holding}
use Rattle.gfs2_layout.specs.Structures.{is_directory}
use Rattle.glock_names.specs.Views.{Seen, IsView}
use Rattle.glock_names.specs.declared.LockName.{LockName}
use Rattle.glock_names.specs.declared.steps.Missing.{Missing}
use Rattle.dinode_tree.specs.Broken as broken
use Rattle.dinode_tree.specs.Reading.{inode_lock}
use Rattle.dinode_tree.specs.Shown as inodes
use Rattle.dinode_tree.proofs.Sound.{part_of_led}
use Rattle.image_model.specs.Flat.{Path, follow}
use Rattle.image_model.specs.Image.{Image}
use Rattle.image_model.specs.Owners.{Owner, Owners, Below, Chained, Free, InGroup, Master, Named, Nobody, Root, Super, holding, up_of}
use Rattle.image_model.specs.Stands.{Layout, flat_of}
use Rattle.image_model.proofs.Held.{none_some, some_same}
use Rattle.image_model.proofs.Rows.{and_left}
use Rattle.image_changes.specs.Changes.{cover, inode_of, is_free}
use Rattle.image_changes.specs.Does.{IsOf}
use Rattle.image_changes.specs.Instances.{IsAt, dinode_at, is_directory_at}
use Rattle.image_changes.proofs.FlatPaths.{follow-append, one_path}
use Rattle.image_changes.proofs.Frame.{dinode_its}
use Rattle.image_changes.proofs.Laid.{root_named}
use Rattle.image_changes.proofs.Standing.{childless}
use Rattle.draft_changes.proofs.Rows.{cell_its, its_cell}
use Rattle.draft_changes.proofs.Saying.{free_blocks_are_new}
use Rattle.hash_dirs.specs.Shown.{index_for}
use Rattle.hash_dirs.proofs.Chained.{cell_some}
use Rattle.move_ends.specs.Shown as dirs
use Rattle.resource_groups.specs.Putting.{HasDataBlock}
use Rattle.move_ends.specs.walk.Place.{Place}
use Rattle.move_ends.proofs.Images.{has_dots, is_inode, is_shown, own_inside, shown_inode, sound_directory, unbroken, unbroken_directory}
use Rattle.move_ends.proofs.Paths.{ends_so}
use Rattle.room_search.proofs.InImage.{group_sound}
use Rattle.name_moves.proofs.Locks.{groups_break_nothing}
use Rattle.move_ends.specs.Ends.{AreEnds, MovesIn, StoodIn, from_path, to_path}
use Rattle.name_moves.specs.HashInserting as inserting
use Rattle.name_moves.specs.Inserting.{IsWrongForName}
use Rattle.name_moves.specs.Inserting as naming
use Rattle.name_moves.specs.Way.{IsOnWay, its_dinode, its_leaf, its_pointer}
use Rattle.name_moves.specs.Moving.{ArePlacesIn, CanBeMoved, IsAskedIn, IsAskedOf, IsNeededIn, IsPlaceOfMove, IsWrongIn, Move, blocks_or_none, freed_by, is_reparented}
use Rattle.name_moves.proofs.Asked.{move_asked}
use Rattle.name_moves.proofs.Imaged.{apart_there}
use Rattle.name_moves.proofs.Unbroken.{not_wrong}
use Rattle.name_moves.proofs.Ways.{wrong_of_move}
use Rattle.move_calls.specs.Carrying.{HasRoom, IsDamageOf, IsInTheWay, IsStuck}
use Rattle.move_calls.specs.Checks.{IsDirectoryOf, IsOnItsWay, IsUnfit, IsWayOf, IsWrongMove, IsWrongOnWays}
use Rattle.move_calls.proofs.Doing.{are_places, move_by, place_in, room_in}
use Rattle.move_calls.proofs.Gone.{none_in}

-- what an inode's lock covers is a block of an inode
its_by_cover : (l : Layout) (b d : ℕ) (x : Owner) → cover l b x ≡ Some (inode_lock d) → is_free x ≡ false → (a : ℕ) × (inode_of b x ≡ Some a)
its_by_cover l b d Super covered used = absurd (none_some covered)
its_by_cover l b d (InGroup g) covered used = absurd (let other : 3 ≡ 2 = ap (λ (k : LockName). k.kind) (some_same covered) in cc)
its_by_cover l b d (Free g) covered used = absurd (true≢false used)
its_by_cover l b d Nobody covered used = absurd (none_some covered)
its_by_cover l b d Root covered used = (b, refl)
its_by_cover l b d Master covered used = (b, refl)
its_by_cover l b d (Named parent name) covered used = (b, refl)
its_by_cover l b d (Below a parent k level first) covered used = (a, refl)
its_by_cover l b d (Chained a hash place) covered used = (a, refl)

-- ---- paths

leads_on : (p q : Path) → leads_to p (p ++ q) ≡ true
leads_on [] q = refl
leads_on (n ∷ p) q = ap₂ (λ a b. a && b) ((bytes_eq-Decides n n).1 refl) (leads_on p q)

leads_itself : (p : Path) → leads_to p p ≡ true
leads_itself p = ap (leads_to p) (sym (append-nil p)) ∙ leads_on p []

not_own_parent : (p : Path) → p ≢ [] → p ≡ parent_of p → ⊥
not_own_parent p some same =
    let longer : length p ≡ length (parent_of p) + 1 = ap length (ends_so p some) ∙ length-append (parent_of p) (last_of p ∷ []) in
    omega (arith, longer, ap length same)

not_some : {A : Type 0} (x : Option A) → x ≡ None → IsSome x → ⊥
not_some x none some = true≢false (sym some ∙ ap is_some none)

module _ (v : Seen) (im : Image) (o : Owners) (l : Layout) (t : Tree) (of : IsOf v im o l t) where
  one : (p q : Path) (a : ℕ) → IsAt im o l p a → IsAt im o l q a → p ≡ q
  one p q a = one_path (flat_of im o) (λ b. up_of (o b)) l.root (root_named im o l of.stands.laid) p q a

  own_its : (p : Path) (a : ℕ) → IsAt im o l p a → inode_of a (o a) ≡ Some a
  own_its p a at = dinode_its a (o a) (is_inode v im o l t of p a at)

  own_cell : (p : Path) (a : ℕ) → IsAt im o l p a → IsSome ((holding im o a).cell a)
  own_cell p a at = its_cell im o a a (own_its p a at)

  -- the first block is no inode's
  not_zero : (a b : ℕ) → IsSome ((holding im o a).cell b) → b ≢ 0
  not_zero a b some zero =
      none_some (sym (ap (inode_of 0) (of.stands.laid.zoned.low 0 (omega arith))) ∙ subst (λ x. inode_of x (o x) ≡ Some a) zero (cell_its im o a b some))

  -- a block on the way to a name is the directory's
  way_cell : (r : Path) (a : ℕ) → IsAt im o l r a → (name : List ℕ) (b : ℕ) → IsOnWay (holding im o a) name b → b ≢ 0 → IsSome ((holding im o a).cell b)
  way_cell r a at name b (its_dinode is) some = subst (λ x. IsSome ((holding im o a).cell x)) (sym is) (own_cell r a at)
  way_cell r a at name b (its_pointer hashed below is) some = (shown_inode v im o l t of r a at).inode.led_to below.0 below.1 below.2 below.3 b below.4
  way_cell r a at name b (its_leaf place hashed chain) some = (shown_inode v im o l t of r a at).leaves hashed (index_for (holding im o a) name) place b chain some

  -- nothing is wrong on it
  way_wrong : (r : Path) (a : ℕ) → IsAt im o l r a → is_directory_at im o a ≡ true → (rule b : ℕ) → IsWrongForName v (holding im o a) rule b → ⊥
  way_wrong r a at dir rule b (naming.IsWrongForName.of_directory broken) = unbroken_directory v im o l t of r a rule b at dir broken
  way_wrong r a at dir rule b (naming.IsWrongForName.in_hashed hashed (inserting.IsWrongToInsert.in_directory x d broken)) = unbroken_directory v im o l t of r a x d at dir (dirs.IsBroken.in_hashed hashed broken)
  way_wrong r a at dir rule b (naming.IsWrongForName.in_hashed hashed (inserting.IsWrongToInsert.stray_pointer first d led outside)) =
      let h = holding im o a in
      let sound = sound_directory v im o l t of r a at dir in
      outside (own_inside v im o l t of a d (cell_some (h.cell d) _ (part_of_led h first led.0 led.1 led.2 d sound.inode.tree led.3)))

  module _ (c : Call) (from to : Place) (replaced : Option (List ℕ)) (ends : AreEnds v c from to) (moves : MovesIn v im o l t c from to replaced) where
    abbrev m : Move
    m = move_by c from to replaced

    abbrev p : Path
    p = from_path c

    abbrev q : Path
    q = to_path c

    elsewhere : leads_to p q ≡ true → ⊥
    elsewhere leads = true≢false (sym leads ∙ ends.elsewhere)

    -- the inode is none of the directories
    not_its_own : IsDirectoryOf m from.inode → ⊥
    not_its_own (inl same) = not_own_parent p ends.begun.from (one p (parent_of p) from.inode moves.source.at (subst (IsAt im o l (parent_of p)) (sym same) moves.source.above))
    not_its_own (inr same) =
        let path : p ≡ parent_of q = one p (parent_of q) from.inode moves.source.at (subst (IsAt im o l (parent_of q)) (sym same) moves.target) in
        elsewhere (ap (leads_to p) (ends_so q ends.begun.to ∙ ap (λ x. x ++ last_of q ∷ []) (sym path)) ∙ leads_on p (last_of q ∷ []))

    -- none of the three goes with what stands at the new name
    not_shared : (b : ℕ) → IsDirectoryOf m b ⊎ (b ≡ from.inode) → Contains (freed_by m) b → ⊥
    not_shared b which there = by replaced moves.stood there
      where
        at_target : (d : ℕ) (r : Path) → IsAt im o l r b → IsSome ((holding im o d).cell b) → IsAt im o l q d → IsAt im o l q b
        at_target d r at some there = subst (IsAt im o l q) (some_same (sym (cell_its im o d b some) ∙ own_its r b at)) there

        has_child : IsAt im o l (parent_of p) b → (flat_of im o b).child (last_of p) ≡ None → ⊥
        has_child at none =
            none_some (sym (ap (option_and_then (λ x. Some x)) none) ∙ sym (follow-append (flat_of im o) (parent_of p) (last_of p ∷ []) l.root b at) ∙ sym (ap (follow (flat_of im o) l.root) (ends_so p ends.begun.from))
            ∙ moves.source.at)

        by : (r : Option (List ℕ)) → StoodIn im o l c to.inode r → Contains (blocks_or_none r) b → ⊥
        by _ (StoodIn.nothing child none) there = none_in b there
        by _ (StoodIn.an_inode d blocks at bare own) there = elim which [
          | inl dir ↦ elim dir [
            | inl e ↦
                let here : IsAt im o l (parent_of p) b = subst (IsAt im o l (parent_of p)) (sym e) moves.source.above in
                let same : b ≡ d = some_same (sym (own_its (parent_of p) b here) ∙ cell_its im o d b ((own b).0 there)) in
                has_child here (childless im o l of.stands.laid b (is_inode v im o l t of (parent_of p) b here) (subst (λ x. is_directory_at im o x ≡ true → (dinode_at im o x).entries ≡ 2) (sym same) bare) (last_of p))
            | inr e ↦
                let here : IsAt im o l (parent_of q) b = subst (IsAt im o l (parent_of q)) (sym e) moves.target in
                not_own_parent q ends.begun.to (one q (parent_of q) b (at_target d (parent_of q) here ((own b).0 there) at) here)
          ]
          | inr e ↦
              let here : IsAt im o l p b = subst (IsAt im o l p) (sym e) moves.source.at in
              elsewhere (ap (leads_to p) (one q p b (at_target d p here ((own b).0 there) at) here) ∙ leads_itself p)
        ]

    directory_inside : (a : ℕ) → IsDirectoryOf m a → HasDataBlock v a
    directory_inside a (inl e) = subst (HasDataBlock v) (sym e) (own_inside v im o l t of from.above from.above (own_cell (parent_of p) from.above moves.source.above))
    directory_inside a (inr e) = subst (HasDataBlock v) (sym e) (own_inside v im o l t of to.inode to.inode (own_cell (parent_of q) to.inode moves.target))

    inode_right : (a rule b : ℕ) → (a ≡ to.inode) ⊎ (a ≡ from.inode) → ((h : Holding) → inodes.IsShown v a h → broken.IsBroken h rule b) → ⊥
    inode_right a rule b (inl e) wrong =
        unbroken v im o l t of (parent_of q) to.inode rule b moves.target (wrong (holding im o to.inode) (subst (λ x. inodes.IsShown v x (holding im o to.inode)) (sym e) (is_shown v im o l t of (parent_of q) to.inode moves.target)))
    inode_right a rule b (inr e) wrong =
        unbroken v im o l t of p from.inode rule b moves.source.at (wrong (holding im o from.inode) (subst (λ x. inodes.IsShown v x (holding im o from.inode)) (sym e) (is_shown v im o l t of p from.inode moves.source.at)))

    moved_directory : is_reparented m ≡ true → is_directory_at im o from.inode ≡ true
    moved_directory moved = ap is_directory (sym moves.source.dinode) ∙ and_left (is_directory from.dinode) _ moved

    -- ---- the ways

    -- each is in a directory to which a path leads
    way_at : (dir : ℕ) (name : List ℕ) → IsWayOf v m dir name → (r : Path) × IsAt im o l r dir × (is_directory_at im o dir ≡ true)
    way_at _ _ (IsWayOf.to_old is) = (parent_of p, moves.source.above, is (holding im o from.above) (is_shown v im o l t of (parent_of p) from.above moves.source.above))
    way_at _ _ (IsWayOf.to_new is) = (parent_of q, moves.target, moves.directory)
    way_at _ _ (IsWayOf.to_parent moved is) = (p, moves.source.at, moved_directory moved)

    on_way_cell : (b : ℕ) (on : IsOnItsWay v m b) → b ≢ 0 → IsSome ((holding im o on.directory).cell b)
    on_way_cell b on some =
        let w = way_at on.directory on.name on.way in
        way_cell w.0 on.directory w.1 on.name b (on.on (holding im o on.directory) (shown_inode v im o l t of w.0 on.directory w.1)) some

    ways_right : (rule b : ℕ) → IsWrongOnWays v m rule b → ⊥
    ways_right rule b on =
        let w = way_at on.directory on.name on.way in
        way_wrong w.0 on.directory w.1 w.2 rule b (on.wrong (holding im o on.directory) (shown_inode v im o l t of w.0 on.directory w.1))

    -- what goes is of no inode that doesn't go
    shares_none : (b : ℕ) → Contains (freed_by m) b → (b ≢ 0) × ((a : ℕ) → (Contains (freed_by m) a → ⊥) → IsSome ((holding im o a).cell b) → ⊥)
    shares_none b there = by replaced moves.stood there
      where
        by : (r : Option (List ℕ)) → StoodIn im o l c to.inode r → Contains (blocks_or_none r) b → (b ≢ 0) × ((a : ℕ) → (Contains (blocks_or_none r) a → ⊥) → IsSome ((holding im o a).cell b) → ⊥)
        by _ (StoodIn.nothing child none) there = absurd (none_in b there)
        by _ (StoodIn.an_inode d blocks at bare own) there = (
          not_zero d b ((own b).0 there),
          λ a apart some.
              let same : d ≡ a = some_same (sym (cell_its im o d b ((own b).0 there)) ∙ cell_its im o a b some) in
              apart ((own a).1 (subst (λ x. IsSome ((holding im o d).cell x)) same (own_cell q d at))),
        )

    not_on_way : (b : ℕ) (on : IsOnItsWay v m b) → (Contains (freed_by m) on.directory → ⊥) → Contains (freed_by m) b → ⊥
    not_on_way b on apart there = (shares_none b there).1 on.directory apart (on_way_cell b on (shares_none b there).0)

    -- ---- the move can be made

    pub move_sound : (rule b : ℕ) → IsWrongMove v m rule b → ⊥
    move_sound _ _ (IsWrongMove.no_data_block a dir outside) = outside (directory_inside a dir)
    move_sound _ _ (IsWrongMove.its_own dir) = not_its_own (inl dir)
    move_sound _ _ (IsWrongMove.shared there) = not_shared to.inode (inl (inr refl)) there
    move_sound _ _ (IsWrongMove.shared_inode there two) = not_shared from.inode (inr refl) there
    move_sound _ _ (IsWrongMove.shared_way b on apart there) = not_on_way b on apart there
    move_sound rule b (IsWrongMove.in_inode a r d which wrong) = inode_right a r d which wrong
    move_sound rule b (IsWrongMove.in_directory r d moved wrong) =
        unbroken_directory v im o l t of p from.inode r d moves.source.at (moved_directory moved) (wrong (holding im o from.inode) (shown_inode v im o l t of p from.inode moves.source.at))
    move_sound _ _ (IsWrongMove.no_parent moved linear says) =
        has_dots v im o l t of p from.inode moves.source.at (moved_directory moved) (says (holding im o from.inode) (shown_inode v im o l t of p from.inode moves.source.at))
    move_sound rule b (IsWrongMove.on_way r d wrong) = ways_right r d wrong

    pub move_fit : IsUnfit v m → ⊥
    move_fit (IsUnfit.into_itself same) = not_its_own (inr same)
    move_fit (IsUnfit.goes_too there) = not_shared from.above (inl (inl refl)) there
    move_fit (IsUnfit.onto_itself there within same) = not_shared from.inode (inr refl) there
    move_fit (IsUnfit.finds_no_parent moved says) =
        has_dots v im o l t of p from.inode moves.source.at (moved_directory moved) (says (holding im o from.inode) (shown_inode v im o l t of p from.inode moves.source.at)).1

    -- and nothing is wrong as it is carried out
    module _ (can : CanBeMoved v m) (node : ℕ) where
      -- a block that is taken is no inode's
      new_block : (need : ℕ) (room : List ℕ) → HasRoom v node m need room → (b : ℕ) → Contains room b → ((a : ℕ) → (holding im o a).cell b ≡ None) × (b ≢ 0) × (b < im.count)
      new_block need room has b there = free_blocks_are_new im o l b of.stands.laid ((room_in v node need m room has im o l t of).free b there)

      no_cell : (need : ℕ) (room : List ℕ) → HasRoom v node m need room → (b : ℕ) → Contains room b → (a : ℕ) → IsSome ((holding im o a).cell b) → ⊥
      no_cell need room has b there a some = not_some ((holding im o a).cell b) ((new_block need room has b there).0 a) some

      not_both : (need : ℕ) (room : List ℕ) → HasRoom v node m need room → (b : ℕ) → Contains room b → Contains (freed_by m) b → ⊥
      not_both need room has b there goes = by replaced moves.stood goes
        where
          by : (r : Option (List ℕ)) → StoodIn im o l c to.inode r → Contains (blocks_or_none r) b → ⊥
          by _ (StoodIn.nothing child none) goes = none_in b goes
          by _ (StoodIn.an_inode d blocks at bare own) goes = no_cell need room has b there d ((own b).0 goes)

      not_in_the_way : (need : ℕ) (room : List ℕ) → HasRoom v node m need room → (b : ℕ) → Contains room b → IsInTheWay v m b → ⊥
      not_in_the_way need room has b there (IsInTheWay.a_place (IsPlaceOfMove.of_source e)) =
          no_cell need room has b there from.above (subst (λ x. IsSome ((holding im o from.above).cell x)) (sym e) (own_cell (parent_of p) from.above moves.source.above))
      not_in_the_way need room has b there (IsInTheWay.a_place (IsPlaceOfMove.of_target e)) =
          no_cell need room has b there to.inode (subst (λ x. IsSome ((holding im o to.inode).cell x)) (sym e) (own_cell (parent_of q) to.inode moves.target))
      not_in_the_way need room has b there (IsInTheWay.a_place (IsPlaceOfMove.of_inode e)) =
          no_cell need room has b there from.inode (subst (λ x. IsSome ((holding im o from.inode).cell x)) (sym e) (own_cell p from.inode moves.source.at))
      not_in_the_way need room has b there (IsInTheWay.a_place (IsPlaceOfMove.of_replaced goes)) = not_both need room has b there goes
      not_in_the_way need room has b there (IsInTheWay.on_way on) = no_cell need room has b there on.directory (on_way_cell b on (new_block need room has b there).1)

      places : ArePlacesIn im o l (parent_of p) (parent_of q) m
      places = are_places v c from to replaced ends im o l t moves

      move_wrong : (blocks : List ℕ) (rule b : ℕ) → IsWrongIn v m blocks rule b → ⊥
      move_wrong = not_wrong v im o l t of m (parent_of p) (parent_of q) can places

      pub carry_sound : (rule b : ℕ) → IsDamageOf v node m rule b → ⊥
      carry_sound rule b (IsDamageOf.to_look r d wrong) = way_wrong (parent_of q) to.inode moves.target moves.directory r d (wrong (holding im o to.inode) (shown_inode v im o l t of (parent_of q) to.inode moves.target))
      carry_sound rule b (IsDamageOf.of_freed need r d counted wrong) = groups_break_nothing v im o l t (freed_by m) r d of wrong
      carry_sound rule b (IsDamageOf.of_room need r d counted some wrong) = group_sound v im o l t of r d wrong
      carry_sound rule b (IsDamageOf.on_way need room r d has wrong) = ways_right r d wrong
      carry_sound _ _ (IsDamageOf.called_free need b room has there way) = not_in_the_way need room has b there way
      carry_sound rule b (IsDamageOf.to_draft need room r d has none wrong) = move_wrong (room ++ freed_by m) r d wrong

      -- and none is stuck: what is asked for lies in a group
      asked_inside : (a : ℕ) (n : Missing) → IsAskedOf v im o l a n → HasDataBlock v n.block
      asked_inside a n asked =
          let its = its_by_cover l n.block a (o n.block) (asked.covered ∙ ap Some asked.under.lock) asked.used in
          own_inside v im o l t of its.0 n.block (its_cell im o its.0 n.block its.1)

      needed_inside : (n : Missing) → IsNeededIn v m [] n → HasDataBlock v n.block
      needed_inside n needs = by (move_asked v im o l t of m (parent_of p) (parent_of q) can places [] n needs)
        where
          by : IsAskedIn v im o l m [] n → HasDataBlock v n.block
          by (IsAskedIn.the_source asked) = asked_inside m.from n asked
          by (IsAskedIn.the_target asked) = asked_inside m.to.inode n asked
          by (IsAskedIn.the_inode moved asked) = asked_inside m.moved.inode n asked
          by (IsAskedIn.a_group needed) = absurd (none_in needed.2.0 needed.2.1)

      pub not_stuck : IsView v → crc32_of (last_of (to_path c)) < 2 ^ 32 → IsStuck v node m → ⊥
      not_stuck view hash (IsStuck.goes_free need b room has there goes absent) = not_both need room has b there goes
      not_stuck view hash (IsStuck.counts_wrong rule b gone wrong) = move_wrong [] rule b (wrong_of_move v m [] rule b wrong)
      not_stuck view hash (IsStuck.drafts_wrong need room rule b has gone wrong) = move_wrong (room ++ freed_by m) rule b wrong
      not_stuck view hash (IsStuck.leads_astray n gone needs astray) = astray (needed_inside n needs)
      not_stuck view hash (IsStuck.not_apart need room has off not) =
          not (holding im o from.above) (holding im o to.inode) (holding im o from.inode)
          (apart_there v im o l t of view m room (parent_of p) (parent_of q) can (place_in v c from to replaced ends hash im o l t of moves node need room has))
