-- The locks of a name that moves, in an image that the view may be of.
use Rattle.std.proofs.Common.{◌≡◌, ◌↔◌, ◌==◌, ◌&&◌, ◌^◌, ◌<◌, inl, inr, ℕ, Bool, true, false, true≢false, List, [], ◌∷◌, ◌++◌, Option, None, Some, append-nil, get_or, length, map, refl, sym, ap, ◌∙◌, subst, arith}
use Rattle.std.proofs.lemmas.Bool.{cases_eq, cond-false, cond-true, eq-eqb, le-ltb, ne_eqb}
use Rattle.std.proofs.lemmas.List.{append_assoc}
use Rattle.std.proofs.lemmas.List.Elements.{All-append, Contains-append_cases, Contains-append_left}
use Rattle.std.proofs.lemmas.Option.{slice_get-get_or}
use Rattle.std.specs.Prelude.{Contains, codes, filter, if◌then◌else◌, not}
use Rattle.std.specs.Ordering.{nat_cmp}
use Rattle.std.specs.FinMap.{FinMap, get}
use Rattle.crc_words.specs.Remainder.{crc32_of}
use Rattle.file_tree.specs.Apply.{Answer, apply}
use Rattle.file_tree.specs.Names.{is_same_path, last_of, leads_to, parent_of}
use Rattle.file_tree.specs.Tree.{Tree}
use Rattle.file_tree.specs.declared.call.Call.{Call}
use Rattle.cluster_history.specs.Changes.{is_ok}
use Rattle.drafts.specs.declared.change.Change.{Change}
use Rattle.gfs2_layout.specs.Holding.{Holding}
use Rattle.move_ends.specs.Shown as dirs
use Rattle.name_moves.specs.Inserting.{IsNeededForName}
use Rattle.drafts.specs.declared.change.Written.{Written}
use Rattle.drafts.specs.declared.fate.Fate.{Fate}
use Rattle.drafts.specs.declared.fate.Fate.TheVariants.{Put}
use Rattle.gfs2_layout.specs.declared.rindex.Rindex.{Rindex}
use Rattle.glock_names.specs.Views.{Seen, HasGroup, IsView, group_of_entry}
use Rattle.glock_names.specs.declared.LockName.{LockName}
use Rattle.glock_names.specs.declared.State.{State}
use Rattle.glock_names.specs.declared.State.TheVariants.{Ex}
use Rattle.glock_names.specs.declared.steps.Missing.{Missing}
use Rattle.glock_names.specs.declared.views.Group.{Group}
use Rattle.image_model.specs.Image.{Image}
use Rattle.image_model.specs.Owners.{Owners, holding}
use Rattle.image_model.specs.Stands.{Layout}
use Rattle.image_model.proofs.Held.{none_some, some_same}
use Rattle.image_model.proofs.Members.{IsIn, contained, in_left, in_right, is_in}
use Rattle.image_changes.specs.Changes.{inode_of}
use Rattle.image_changes.specs.Does.{IsOf}
use Rattle.image_changes.specs.Drafted.{IsFinished}
use Rattle.image_changes.proofs.Finishing.{finish_makes}
use Rattle.draft_changes.proofs.Rows.{cell_its}
use Rattle.draft_changes.proofs.Views.{groups_are_listed}
use Rattle.move_ends.specs.Holds.{Hold, AreHeld, IsAskedFor, IsFirstLack, IsUnder, hold_of, hold_of_group, holds}
use Rattle.move_ends.specs.walk.Place.{Place}
use Rattle.move_ends.proofs.Asked.{IsAmong}
use Rattle.move_ends.proofs.Images.{is_shown, shown_inode, sound_directory}
use Rattle.move_ends.proofs.Longer.{asked_before, asked_behind, lack_before, lack_behind}
use Rattle.resource_groups.specs.Freeing as freeing
use Rattle.resource_groups.specs.Shown.{IsDataOf, said}
use Rattle.resource_groups.proofs.Apart.{one_group}
use Rattle.name_moves.specs.Groups.{holds_of_those}
use Rattle.name_moves.proofs.Listed.{held_upto}
use Rattle.name_moves.proofs.Locks.{block_of_those_is_asked, first_of_those_is_first, those_are_listed, those_hold_the_list}
use Rattle.room_search.specs.Blocks.{free_in_all, have_too_few, holds_of_first, states_by}
use Rattle.room_search.specs.Searches.{AreShown, IsGroupBlock}
use Rattle.room_search.proofs.Holds.{block_under, held_behind}
use Rattle.room_search.proofs.InImage.{all_said, are_shown, group_asked}
use Rattle.move_ends.specs.Ends.{AreEnds, IsTarget, MovesIn, StoodIn, first_wants, from_path, inode_holds, second_wants, to_path}
use Rattle.move_ends.proofs.Listed.{inode_listed, replaced_listed, source_listed, target_listed}
use Rattle.name_moves.specs.Becoming.{CanTell, LosesAll, NeedsAfter}
use Rattle.name_moves.specs.Paths.{SeesPath}
use Rattle.name_moves.proofs.SeenPaths.{longer_seen, path_seen}
use Rattle.name_moves.specs.Moving.{CanBeMoved, IsNeededIn, IsPutUnder, Move, blocks_or_none, freed_by, lost_there}
use Rattle.name_moves.proofs.Alike.{need_once}
use Rattle.name_moves.proofs.Asked.{move_asked}
use Rattle.move_calls.specs.Carrying.{ComesFirst, FirstAreHeld, HasRoom, IsCarriedOut, IsFull, IsOwnGroup, LacksLock, NeedsBlock, NeedsFor, locks_of_room}
use Rattle.move_calls.specs.Checks.{IsNeededOnWays, IsWayOf}
use Rattle.move_calls.specs.Locks.{IsNeed, IsSoOfList, IsTooFew, call_holds, comes_first, first_in, goes_with, lost_in, moves_in, replaced_in}
use Rattle.move_calls.proofs.Asked.{in_asked, way_asked}
use Rattle.move_calls.proofs.Doing.{are_places, lost_same, move_by}
use Rattle.move_calls.proofs.Groups as firsts
use Rattle.move_calls.proofs.Gone.{none_in}

-- ---- a lock of a list that is held

split_in : (x : Hold) (list : List Hold) → IsIn x list → (front back : List Hold) × (list ≡ front ++ x ∷ back)
split_in x [] here = elim here [ ]
split_in x (y ∷ list) (inl e) = ([], list, ap (λ z. z ∷ list) (sym e))
split_in x (y ∷ list) (inr later) = let r = split_in x list later in (y ∷ r.0, r.1, ap (λ zs. y ∷ zs) r.2)

pub among_held : (v : Seen) (list : List Hold) (a : ℕ) → IsIn (hold_of a Ex) list → AreHeld v list → IsAmong v list a
among_held v list a at held =
    let r = split_in (hold_of a Ex) list at in
    record { state = Ex; front = r.0; back = r.1; split = r.2; held = held_upto v r.0 r.1 (hold_of a Ex) (subst (AreHeld v) r.2 held) }

among_more : (v : Seen) (list more : List Hold) (a : ℕ) → IsAmong v list a → IsAmong v (list ++ more) a
among_more v list more a is = record {
  state = is.state;
  front = is.front;
  back = is.back ++ more;
  split = ap (λ xs. xs ++ more) is.split ∙ append_assoc is.front (hold_of a is.state ∷ is.back) more;
  held = is.held;
}

-- each lock of a change is one with which its draft put a block
each_lock : (fates : FinMap nat_cmp Fate) (change : Change) → IsFinished fates change → (P : LockName → Type 0)
    → ((b : ℕ) (lock : LockName) (plain : Bool) (bytes : List ℕ) → get fates b ≡ Some (Put lock plain bytes) → P lock) → (lock : LockName) → Contains change.locks.items lock → P lock
each_lock fates change finished P puts lock has =
    let d = finish_makes fates change finished in
    let nothing : Written = record { block = 0; plain = false; bytes = [] } in
    let w : Written = get_or change.blocks.items has.0 nothing in
    puts w.block lock w.plain w.bytes
    (d.told has.0 w lock (slice_get-get_or change.blocks.items has.0 nothing (omega (arith, has.1, d.form.locks))) (slice_get-get_or change.locks.items has.0 lock has.1 ∙ ap Some has.2))

-- ---- the list

none_split : {X : Type 0} (front back : List X) (x : X) → [] ≡ front ++ x ∷ back → ⊥
none_split [] back x e = cc
none_split (y ∷ front) back x e = cc

as_listed : (gs : List Rindex) → map hold_of_group (map group_of_entry gs) ≡ map (λ (g : Rindex). hold_of_group (group_of_entry g)) gs
as_listed [] = refl
as_listed (g ∷ gs) = ap (λ list. hold_of_group (group_of_entry g) ∷ list) (as_listed gs)

pub not_moving : (im : Image) (o : Owners) (l : Layout) (t : Tree) (c : Call) (node need : ℕ) → moves_in t c ≡ false → call_holds im o l t c node need ≡ inode_holds im o l c ++ []
not_moving im o l t c node need stays = ap (λ x. inode_holds im o l c ++ x) (cond-false (moves_in t c) _ [] stays)

module _ (v : Seen) (im : Image) (o : Owners) (l : Layout) (t : Tree) (of : IsOf v im o l t) (c : Call) (from to : Place) (replaced : Option (List ℕ)) (ends : AreEnds v c from to)
    (hash : crc32_of (last_of (to_path c)) < 2 ^ 32) (moves : MovesIn v im o l t c from to replaced) (inodes : AreHeld v (inode_holds im o l c)) (node : ℕ) where
  abbrev m : Move
  m = move_by c from to replaced

  abbrev inode_list : List Hold
  inode_list = inode_holds im o l c

  abbrev first_list : ℕ → List Hold
  first_list need = holds_of_those (comes_first im o l c node need) l.groups

  -- where these have too few free blocks
  abbrev more_list : ℕ → List Hold
  more_list need = if have_too_few (states_by o) (first_in im o l c node need) need then map hold_of_group (map group_of_entry l.groups) else []

  abbrev group_list : ℕ → List Hold
  group_list need = first_list need ++ more_list need

  -- those under which blocks are found
  abbrev room_list : ℕ → List Hold
  room_list need = holds_of_first o l (first_in im o l c node need) need

  ok : is_ok (apply c t).reply ≡ true
  ok = ap (λ (a : Answer). is_ok a.reply) moves.takes.applies

  pub moving : moves_in t c ≡ true
  moving = (λ i. ok i && not (is_same_path (from_path c) (to_path c))) ∙ ap (λ b. not (b && leads_to (to_path c) (from_path c))) ends.elsewhere

  list_is : (need : ℕ) → call_holds im o l t c node need ≡ inode_list ++ group_list need
  list_is need = ap (λ x. inode_list ++ x) (cond-true (moves_in t c) (group_list need) [] moving)

  list_then : (need : ℕ) → call_holds im o l t c node need ≡ (inode_list ++ first_list need) ++ more_list need
  list_then need = list_is need ∙ sym (append_assoc inode_list (first_list need) (more_list need))

  -- ---- the locks of groups are those under which blocks are found, where some are needed

  room_none : (need : ℕ) → need ≡ 0 → room_list need ≡ []
  room_none need none = cond-true (need == 0) [] (map hold_of_group (first_in im o l c node need) ++ more_list need) (eq-eqb need 0 none)

  more_none : (need : ℕ) → need ≡ 0 → more_list need ≡ []
  more_none need none =
      cond-false (have_too_few (states_by o) (first_in im o l c node need) need) (map hold_of_group (map group_of_entry l.groups)) []
      (le-ltb (length (free_in_all (states_by o) (first_in im o l c node need))) need (omega (arith, none)))

  room_all : (need : ℕ) → (need ≡ 0 → ⊥) → room_list need ≡ group_list need
  room_all need some =
      cond-false (need == 0) [] (map hold_of_group (first_in im o l c node need) ++ more_list need) (ne_eqb need 0 some)
      ∙ ap (λ xs. xs ++ more_list need) (as_listed (filter (comes_first im o l c node need) l.groups))

  group_lack : (need : ℕ) (lock : LockName) (state : State) → IsFirstLack v (room_list need) lock state → IsFirstLack v (inode_list ++ group_list need) lock state
  group_lack need lock state is = elim (cases_eq need 0) [
    | inl none ↦ let never = subst (λ list. IsFirstLack v list lock state) (room_none need none) is in absurd (none_split never.front never.back (record { lock = lock; state = state }) never.split)
    | inr some ↦ lack_behind v inode_list (group_list need) lock state inodes (subst (λ list. IsFirstLack v list lock state) (room_all need some) is)
  ]

  group_block : (need : ℕ) (n : Missing) → IsGroupBlock v (room_list need) n → IsGroupBlock v (group_list need) n
  group_block need n is = elim (cases_eq need 0) [
    | inl none ↦ let never = subst (λ list. IsGroupBlock v list n) (room_none need none) is in absurd (none_split never.front never.back (record { lock = n.lock; state = Ex }) never.split)
    | inr some ↦ subst (λ list. IsGroupBlock v list n) (room_all need some) is
  ]

  group_listed : (need : ℕ) (h : Hold) → Contains (room_list need) h → Contains (group_list need) h
  group_listed need h there = elim (cases_eq need 0) [
    | inl none ↦ let never = subst (λ (list : List Hold). Contains list h) (room_none need none) there in absurd (omega (arith, never.1))
    | inr some ↦ subst (λ (list : List Hold). Contains list h) (room_all need some) there
  ]

  groups_are_held : (need : ℕ) → AreHeld v (inode_list ++ first_list need) → AreHeld v (room_list need) → AreHeld v (inode_list ++ group_list need)
  groups_are_held need front room = elim (cases_eq need 0) [
    | inl none ↦ subst (AreHeld v) (ap (λ xs. inode_list ++ xs) (sym (append-nil (first_list need)) ∙ ap (λ more. first_list need ++ more) (sym (more_none need none)))) front
    | inr some ↦ All-append (λ h. holds v h ≡ true) inode_list (group_list need) inodes (subst (AreHeld v) (room_all need some) room)
  ]

  -- ---- the need is one

  needs_there : (need : ℕ) → NeedsFor v m need → NeedsAfter (lost_there m) (holding im o to.inode) (last_of (to_path c)) need
  needs_there need needs =
      needs.in_sound (holding im o to.inode) (shown_inode v im o l t of (parent_of (to_path c)) to.inode moves.target) (sound_directory v im o l t of (parent_of (to_path c)) to.inode moves.target moves.directory)

  pub is_need : (need : ℕ) → NeedsFor v m need → IsNeed im o l t c need
  is_need need needs =
      IsNeed.moves from.above to.inode need ok ends.elsewhere moves.source.above moves.target
      (subst (λ names. NeedsAfter names (holding im o to.inode) (last_of (to_path c)) need) (lost_same v c from to replaced ends im o l t moves) (needs_there need needs))

  pub one_need : (need other : ℕ) → NeedsFor v m need → IsNeed im o l t c other → need ≡ other
  one_need need _ needs (IsNeed.refused other_reply) = absurd (true≢false (sym ok ∙ other_reply))
  one_need need _ needs (IsNeed.stays same) = absurd (true≢false (sym same ∙ ap (λ b. b && leads_to (to_path c) (from_path c)) ends.elsewhere))
  one_need need other needs (IsNeed.moves source target _ taken elsewhere source_at target_at after) =
      let from_same : source ≡ from.above = some_same (sym source_at ∙ moves.source.above) in
      let to_same : target ≡ to.inode = some_same (sym target_at ∙ moves.target) in
      let here : NeedsAfter (lost_in im o l c from.above to.inode) (holding im o to.inode) (last_of (to_path c)) other =
      subst (λ x. NeedsAfter (lost_in im o l c x to.inode) (holding im o to.inode) (last_of (to_path c)) other) from_same
      (subst (λ x. NeedsAfter (lost_in im o l c source x) (holding im o x) (last_of (to_path c)) other) to_same after) in
      need_once (lost_there m) (holding im o to.inode) (last_of (to_path c)) need other
      (sound_directory v im o l t of (parent_of (to_path c)) to.inode moves.target moves.directory) hash (needs_there need needs)
      (subst (λ names. NeedsAfter names (holding im o to.inode) (last_of (to_path c)) other) (sym (lost_same v c from to replaced ends im o l t moves)) here)

  -- ---- the groups that come first

  freed_goes : (b : ℕ) → Contains (freed_by m) b ↔ (goes_with im o (replaced_in im o l c) b ≡ true)
  freed_goes = firsts.freed_goes im o l c to.inode replaced moves.stood

  module _ (need : ℕ) (own : Group) (is_own : IsOwnGroup v node own) where
    pub passes_first : (g : Rindex) → comes_first im o l c node need g ≡ true → ComesFirst own need m (group_of_entry g)
    passes_first = firsts.passes_first v im o l t of c node (freed_by m) freed_goes need own is_own

    pub first_passes : (g : Rindex) → ComesFirst own need m (group_of_entry g) → comes_first im o l c node need g ≡ true
    first_passes = firsts.first_passes v im o l t of c node (freed_by m) freed_goes need own is_own

    -- the locks under which blocks are found
    pub room_is : locks_of_room v im.at own need m ≡ room_list need
    room_is = firsts.room_is v im o l t of c node (freed_by m) freed_goes need own is_own

  shown : AreShown v im.at
  shown = are_shown v im o l t of

  first_held : (need : ℕ) → FirstAreHeld v node m need → AreHeld v (inode_list ++ first_list need)
  first_held need first =
      those_hold_the_list v im o l t of (comes_first im o l c node need) (ComesFirst first.own need m) (passes_first need first.own first.of_node) (first_passes need first.own first.of_node) inode_list inodes first.held

  -- ---- the first lock that isn't held

  pub lock_lacks : (lock : LockName) (state : State) (other : ℕ) → LacksLock v node m lock state → IsNeed im o l t c other → IsFirstLack v (call_holds im o l t c node other) lock state
  lock_lacks lock state other (LacksLock.of_first need needs lacks strong) is =
      subst (λ n. IsFirstLack v (call_holds im o l t c node n) lock state) (one_need need other needs is)
      (subst (λ list. IsFirstLack v list lock state) (sym (list_then need))
      (lack_before v (inode_list ++ first_list need) (more_list need) lock state
      (subst (IsFirstLack v (inode_list ++ first_list need) lock) (sym strong)
      (first_of_those_is_first v im o l t of (comes_first im o l c node need) (ComesFirst lacks.own need m) (passes_first need lacks.own lacks.of_node) (first_passes need lacks.own lacks.of_node) inode_list inodes lock lacks.lacks))))
  lock_lacks lock state other (LacksLock.of_room need counted lacks first) is =
      subst (λ n. IsFirstLack v (call_holds im o l t c node n) lock state) (one_need need other counted.needs is)
      (subst (λ list. IsFirstLack v list lock state) (sym (list_is need))
      (group_lack need lock state (subst (λ list. IsFirstLack v list lock state) (room_is need counted.first.own counted.first.of_node) (first im.at shown))))

  pub lock_listed : (lock : LockName) (state : State) → LacksLock v node m lock state → IsSoOfList im o l t c node (λ list. IsFirstLack v list lock state)
  lock_listed lock state (LacksLock.of_first need needs lacks strong) =
      let is = is_need need needs in
      IsSoOfList.of_all need is (lock_lacks lock state need (LacksLock.of_first need needs lacks strong) is)
  lock_listed lock state (LacksLock.of_room need counted lacks first) =
      let is = is_need need counted.needs in
      IsSoOfList.of_all need is (lock_lacks lock state need (LacksLock.of_room need counted lacks first) is)

  -- ---- too few blocks

  -- what stands at the new name, where something does, is at the end of the second path
  seen_to_end : (r : Option (List ℕ)) → IsTarget v c from to r → StoodIn im o l c to.inode r → SeesPath v im o l (to_path c)
  seen_to_end _ (IsTarget.free lacks) (StoodIn.nothing child none) =
      longer_seen v im o l (to_path c) (path_seen v im o l t of (second_wants c) (parent_of (to_path c)) to.inode ends.target ends.there) (λ a at. absurd (none_some (sym none ∙ at)))
  seen_to_end _ (IsTarget.taken there blocks stands may all leaves) stood = path_seen v im o l t of (second_wants c) (to_path c) there.inode stands.place.leads stands.place.there

  pub full_there : IsTarget v c from to replaced → (need free : ℕ) → IsFull v node m need free → IsTooFew v im o l t c need free
  full_there target need free full =
      let h = holding im o to.inode in
      let h_shown = shown_inode v im o l t of (parent_of (to_path c)) to.inode moves.target in
      let h_sound = sound_directory v im o l t of (parent_of (to_path c)) to.inode moves.target moves.directory in
      let after = full.counted.needs.looked_then h h_shown (CanTell.of_sound h_sound) in
      record {
        taken = ap (λ (a : Answer). a.reply) moves.takes.applies;
        source = from.above;
        source_at = moves.source.above;
        target = to.inode;
        target_at = moves.target;
        on_paths = inodes;
        groups = subst (λ gs. AreHeld v (map hold_of_group gs)) (sym of.groups) full.held;
        seen_from = path_seen v im o l t of (first_wants c) (from_path c) from.inode ends.source.leads ends.source.there;
        seen_to = seen_to_end replaced target moves.stood;
        looked = full.counted.needs.looked h h_shown;
        without = after.0;
        lost = subst (λ names. LosesAll names h after.0) (lost_same v c from to replaced ends im o l t moves) after.1;
        looked_then = after.2;
        needs = is_need need full.counted.needs;
        free_are = full.free_are im.at shown ∙ ap (λ gs. length (free_in_all (said im.at) gs)) (sym of.groups) ∙ ap length (all_said v im o l t of);
        fewer = full.fewer;
      }

  -- ---- a block that is asked for

  among_source : IsAmong v inode_list from.above
  among_source = among_held v inode_list from.above (source_listed v im o l c ends.begun.from ends.begun.to ends.elsewhere from.inode moves.source.at from.above moves.source.above) inodes

  among_target : IsAmong v inode_list to.inode
  among_target = among_held v inode_list to.inode (target_listed v im o l c ends.begun.from ends.begun.to ends.elsewhere from.inode moves.source.at to.inode moves.target) inodes

  pub among_inode : IsAmong v inode_list from.inode
  among_inode = among_held v inode_list from.inode (inode_listed v im o l c ends.begun.from ends.begun.to ends.elsewhere from.inode moves.source.at) inodes

  -- on a way of the move
  pub ways_asked : (n : Missing) → IsNeededOnWays v m n → IsAskedFor v im o l inode_list n
  ways_asked n on = by on.directory on.name on.way on.needed
    where
      by : (dir : ℕ) (name : List ℕ) → IsWayOf v m dir name → ((h : Holding) → dirs.IsShown v dir h → IsNeededForName v h name n) → IsAskedFor v im o l inode_list n
      by _ _ (IsWayOf.to_old is) needs =
          way_asked v im o l t of inode_list (parent_of (from_path c)) from.above moves.source.above (is (holding im o from.above) (is_shown v im o l t of (parent_of (from_path c)) from.above moves.source.above)) among_source
          (last_of (from_path c)) n on.absent needs
      by _ _ (IsWayOf.to_new is) needs = way_asked v im o l t of inode_list (parent_of (to_path c)) to.inode moves.target moves.directory among_target (last_of (to_path c)) n on.absent needs
      by _ _ (IsWayOf.to_parent moved is) needs =
          way_asked v im o l t of inode_list (from_path c) from.inode moves.source.at (is (holding im o from.inode) (is_shown v im o l t of (from_path c) from.inode moves.source.at)) among_inode (codes "..") n on.absent needs

  module _ (view : IsView v) (can : CanBeMoved v m) where
    -- of the directories and the inode
    asked_on : (list : List Hold) → IsAmong v list from.above → IsAmong v list to.inode → IsAmong v list from.inode → (blocks : List ℕ) (n : Missing) → (freeing.IsNeededFor v blocks n → IsAskedFor v im o l list n)
        → IsNeededIn v m blocks n → IsAskedFor v im o l list n
    asked_on list first second third blocks n groups needs =
        in_asked v im o l t of list m blocks n first second third groups
        (move_asked v im o l t of m (parent_of (from_path c)) (parent_of (to_path c)) can (are_places v c from to replaced ends im o l t moves) blocks n needs)

    -- of a group that has some of what goes
    freed_asks : (need : ℕ) (n : Missing) → FirstAreHeld v node m need → freeing.IsNeededFor v (freed_by m) n → IsAskedFor v im o l (inode_list ++ first_list need) n
    freed_asks need n first needs =
        block_of_those_is_asked v im o l t of (comes_first im o l c node need) (ComesFirst first.own need m) (passes_first need first.own first.of_node) (first_passes need first.own first.of_node) inode_list inodes
        first.held needs.0 n needs.1 (inr (needs.2.0, needs.2.1, needs.2.2)) needs.2.3.block

    -- where blocks are found and all is held
    module _ (need : ℕ) (room : List ℕ) (has : HasRoom v node m need room) where
      abbrev own : Group
      own = has.counted.first.own

      abbrev whole : List Hold
      whole = inode_list ++ group_list need

      front_held : AreHeld v (inode_list ++ first_list need)
      front_held = first_held need has.counted.first

      room_held : AreHeld v (room_list need)
      room_held = subst (AreHeld v) (room_is need own has.counted.first.of_node) (has.held im.at shown)

      pub whole_held : AreHeld v (call_holds im o l t c node need)
      whole_held = subst (AreHeld v) (sym (list_is need)) (groups_are_held need front_held room_held)

      group_held : AreHeld v (group_list need)
      group_held = held_behind v inode_list (group_list need) (groups_are_held need front_held room_held)

      -- the lock of a group that has some of the blocks
      room_listed : (g : Group) (b : ℕ) → HasGroup v g → Contains room b → IsDataOf g b → Contains (group_list need) (hold_of_group g)
      room_listed g b has_it there lies =
          let e = (has.are im.at shown).each b there in
          group_listed need (hold_of_group g) (subst (λ list. Contains list (hold_of_group g)) (room_is need own has.counted.first.of_node)
          (subst (λ k. Contains (locks_of_room v im.at own need m) (hold_of_group k)) (one_group v b e.group g view e.has e.data_block has_it lies) e.listed))

      -- or of what goes
      freed_listed : (g : Group) (b : ℕ) → HasGroup v g → Contains (freed_by m) b → IsDataOf g b → Contains (inode_list ++ first_list need) (hold_of_group g)
      freed_listed g b has_it goes lies =
          let f = (groups_are_listed v im o l t g of).0 has_it in
          subst (λ k. Contains (inode_list ++ first_list need) (hold_of_group k)) (sym f.2)
          (those_are_listed (comes_first im o l c node need) l.groups f.0 inode_list f.1
          (first_passes need own has.counted.first.of_node f.0 (inr (b, goes, subst (λ k. IsDataOf k b) f.2 lies))))

      group_asks : (n : Missing) → freeing.IsNeededFor v (room ++ freed_by m) n → IsAskedFor v im o l whole n
      group_asks n needs = elim (Contains-append_cases room (freed_by m) needs.2.0 needs.2.1) [
        | inl taken ↦
            asked_behind v im o l inode_list (group_list need) n inodes
            (group_asked v im o l t of (group_list need) n (block_under v (group_list need) needs.0 n group_held (room_listed needs.0 needs.2.0 needs.1 taken needs.2.2) needs.1 needs.2.3.block))
        | inr goes ↦
            subst (λ list. IsAskedFor v im o l list n) (append_assoc inode_list (first_list need) (more_list need))
            (asked_before v im o l (inode_list ++ first_list need) (more_list need) n (freed_asks need n has.counted.first (needs.0, needs.1, (needs.2.0, goes, needs.2.2, needs.2.3))))
      ]

      draft_asks : (n : Missing) → IsNeededIn v m (room ++ freed_by m) n → IsAskedFor v im o l (call_holds im o l t c node need) n
      draft_asks n needs =
          let more = λ (a : ℕ) (is : IsAmong v inode_list a). among_more v inode_list (group_list need) a is in
          subst (λ list. IsAskedFor v im o l list n) (sym (list_is need))
          (asked_on whole (more from.above among_source) (more to.inode among_target) (more from.inode among_inode) (room ++ freed_by m) n (group_asks n) needs)

    no_group : (n : Missing) → freeing.IsNeededFor v [] n → IsAskedFor v im o l inode_list n
    no_group n needs = absurd (none_in needs.2.0 needs.2.1)

    -- under a lock of the inodes it is under one of the whole list
    whole_asks : (n : Missing) (other : ℕ) → IsAskedFor v im o l inode_list n → IsAskedFor v im o l (call_holds im o l t c node other) n
    whole_asks n other asked = subst (λ list. IsAskedFor v im o l list n) (sym (list_is other)) (asked_before v im o l inode_list (group_list other) n asked)

    -- of a directory or the inode
    inode_asks : (n : Missing) → IsNeededIn v m [] n → IsAskedFor v im o l inode_list n
    inode_asks n needs = asked_on inode_list among_source among_target among_inode [] n (no_group n) needs

    -- on the way to the new name
    way_asks : (n : Missing) → v.block_at n.block ≡ None → ((h : Holding) → dirs.IsShown v to.inode h → IsNeededForName v h (last_of (to_path c)) n) → IsAskedFor v im o l inode_list n
    way_asks n absent needs = way_asked v im o l t of inode_list (parent_of (to_path c)) to.inode moves.target moves.directory among_target (last_of (to_path c)) n absent needs

    pub block_asks : (n : Missing) (other : ℕ) → NeedsBlock v node m n → IsNeed im o l t c other → IsAskedFor v im o l (call_holds im o l t c node other) n
    block_asks n other (NeedsBlock.to_look absent needs) is = whole_asks n other (way_asks n absent needs)
    block_asks n other (NeedsBlock.once_gone gone needs inside) is = whole_asks n other (inode_asks n needs)
    block_asks n other (NeedsBlock.on_way need room has on) is = whole_asks n other (ways_asked n on)
    block_asks n other (NeedsBlock.of_freed need counted needs) is =
        subst (λ k. IsAskedFor v im o l (call_holds im o l t c node k) n) (one_need need other counted.needs is)
        (subst (λ list. IsAskedFor v im o l list n) (sym (list_then need))
        (asked_before v im o l (inode_list ++ first_list need) (more_list need) n (freed_asks need n counted.first needs)))
    block_asks n other (NeedsBlock.of_room need counted needed blocks) is =
        subst (λ k. IsAskedFor v im o l (call_holds im o l t c node k) n) (one_need need other counted.needs is)
        (subst (λ list. IsAskedFor v im o l list n) (sym (list_is need))
        (asked_behind v im o l inode_list (group_list need) n inodes
        (group_asked v im o l t of (group_list need) n (group_block need n (subst (λ list. IsGroupBlock v list n) (room_is need counted.first.own counted.first.of_node) (blocks im.at shown))))))
    block_asks n other (NeedsBlock.to_draft need room has none needs) is =
        subst (λ k. IsAskedFor v im o l (call_holds im o l t c node k) n) (one_need need other has.counted.needs is) (draft_asks need room has n needs)
    block_asks n other (NeedsBlock.to_say need room has needs) is =
        subst (λ k. IsAskedFor v im o l (call_holds im o l t c node k) n) (one_need need other has.counted.needs is)
        (subst (λ list. IsAskedFor v im o l list n) (sym (list_is need)) (group_asks need room has n needs))

    -- of the locks of the inodes, or of the whole list once the blocks are counted
    pub block_listed : (n : Missing) → NeedsBlock v node m n → IsSoOfList im o l t c node (λ list. IsAskedFor v im o l list n)
    block_listed n (NeedsBlock.to_look absent needs) = IsSoOfList.of_inodes (way_asks n absent needs)
    block_listed n (NeedsBlock.once_gone gone needs inside) = IsSoOfList.of_inodes (inode_asks n needs)
    block_listed n (NeedsBlock.on_way need room has on) = IsSoOfList.of_inodes (ways_asked n on)
    block_listed n (NeedsBlock.of_freed need counted needs) =
        let is = is_need need counted.needs in
        IsSoOfList.of_all need is (block_asks n need (NeedsBlock.of_freed need counted needs) is)
    block_listed n (NeedsBlock.of_room need counted needed blocks) =
        let is = is_need need counted.needs in
        IsSoOfList.of_all need is (block_asks n need (NeedsBlock.of_room need counted needed blocks) is)
    block_listed n (NeedsBlock.to_draft need room has none needs) =
        let is = is_need need has.counted.needs in
        IsSoOfList.of_all need is (block_asks n need (NeedsBlock.to_draft need room has none needs) is)
    block_listed n (NeedsBlock.to_say need room has needs) =
        let is = is_need need has.counted.needs in
        IsSoOfList.of_all need is (block_asks n need (NeedsBlock.to_say need room has needs) is)

    -- ---- the change

    module _ (time : ℕ) (change : Change) (done : IsCarriedOut v node time m change) where
      pub done_held : (need : ℕ) × (IsNeed im o l t c need × AreHeld v (call_holds im o l t c node need))
      done_held = (done.need, (is_need done.need done.has.counted.needs, whole_held done.need done.room done.has))

      abbrev list : List Hold
      list = inode_list ++ group_list done.need

      in_inodes : (h : Hold) → IsIn h inode_list → IsIn h list
      in_inodes h at = in_left h inode_list (group_list done.need) at

      put_listed : (b : ℕ) (lock : LockName) → IsPutUnder v m done.is.taken b lock → IsIn (record { lock = lock; state = Ex }) list
      put_listed b lock (IsPutUnder.of_group g has some says same) =
          subst (λ k. IsIn (record { lock = k; state = Ex }) list) (sym same) (elim (Contains-append_cases done.is.taken (freed_by m) some.0 some.1) [
            | inl taken ↦
                in_right (hold_of_group g) inode_list (group_list done.need) (is_in (hold_of_group g) (group_list done.need)
                (room_listed done.need done.room done.has g some.0 has
                (subst (λ xs. Contains xs some.0) (sym done.is.front) (Contains-append_left done.is.taken done.is.left some.0 taken)) some.2))
            | inr goes ↦
                subst (IsIn (hold_of_group g)) (append_assoc inode_list (first_list done.need) (more_list done.need))
                (in_left (hold_of_group g) (inode_list ++ first_list done.need) (more_list done.need) (is_in (hold_of_group g) (inode_list ++ first_list done.need)
                (freed_listed done.need done.room done.has g some.0 has goes some.2)))
          ])
      put_listed b lock (IsPutUnder.of_source within place same) =
          subst (λ k. IsIn (record { lock = k; state = Ex }) list) (sym same) (in_inodes (hold_of from.above Ex)
          (source_listed v im o l c ends.begun.from ends.begun.to ends.elsewhere from.inode moves.source.at from.above moves.source.above))
      put_listed b lock (IsPutUnder.of_target place same) =
          subst (λ k. IsIn (record { lock = k; state = Ex }) list) (sym same) (in_inodes (hold_of to.inode Ex)
          (target_listed v im o l c ends.begun.from ends.begun.to ends.elsewhere from.inode moves.source.at to.inode moves.target))
      put_listed b lock (IsPutUnder.of_inode moved place same) =
          subst (λ k. IsIn (record { lock = k; state = Ex }) list) (sym same) (in_inodes (hold_of from.inode Ex)
          (inode_listed v im o l c ends.begun.from ends.begun.to ends.elsewhere from.inode moves.source.at))

      -- what goes is the inode's that stands at the new name
      goes_listed : (b a : ℕ) → Contains (freed_by m) b → inode_of b (o b) ≡ Some a → IsIn (hold_of a Ex) list
      goes_listed b a there its = by replaced moves.stood there
        where
          by : (r : Option (List ℕ)) → StoodIn im o l c to.inode r → Contains (blocks_or_none r) b → IsIn (hold_of a Ex) list
          by _ (StoodIn.nothing child none) there = absurd (none_in b there)
          by _ (StoodIn.an_inode d blocks at childless own) there =
              let same : a ≡ d = some_same (sym its ∙ cell_its im o d b ((own b).0 there)) in
              subst (λ x. IsIn (hold_of x Ex) list) (sym same) (in_inodes (hold_of d Ex) (replaced_listed v im o l c ends.begun.from ends.begun.to ends.elsewhere from.inode moves.source.at d at))

      pub done_under : (other : ℕ) → IsNeed im o l t c other → IsUnder o (call_holds im o l t c node other) change
      done_under other is =
          subst (λ k. IsUnder o (call_holds im o l t c node k) change) (one_need done.need other done.has.counted.needs is)
          (subst (λ xs. IsUnder o xs change) (sym (list_is done.need)) (record {
            written = each_lock done.is.fates change done.is.finished (λ lock. Contains list (record { lock = lock; state = Ex }))
                (λ b lock plain bytes put. contained (record { lock = lock; state = Ex }) list (put_listed b lock (done.is.locks b lock plain bytes put)));
            freed = λ b a gone its.
                contained (hold_of a Ex) list (goes_listed b a ((done.is.frees b).0 (sym ((finish_makes done.is.fates change done.is.finished).gone b) ∙ gone)) its);
          }))
