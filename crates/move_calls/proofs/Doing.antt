-- A move that is carried out does what the call should.
use Rattle.std.proofs.Common.{◌≡◌, ◌≢◌, inl, inr, ℕ, zero, suc, ◌+◌, ◌^◌, ◌<◌, Bool, true, false, List, [], ◌∷◌, ◌++◌, length, slice_get, Option, None, Some, refl, sym, ap, ◌∙◌, subst, append-nil, arith}
use Rattle.std.proofs.lemmas.List.{length-append}
use Rattle.std.proofs.lemmas.List.Elements.{Contains-append_cases, Contains-append_left, Contains-append_right}
use Rattle.std.specs.Prelude.{◌==◌, ◌&&◌, not, is_some, Contains, unwrap_or}
use Rattle.std.specs.FinMap.{get}
use Rattle.crc_words.specs.Remainder.{crc32_of}
use Rattle.file_tree.specs.Apply.{apply, put_at, remove_at}
use Rattle.file_tree.specs.Names.{leads_to, last_of, parent_of}
use Rattle.file_tree.specs.Tree.{Tree}
use Rattle.file_tree.specs.declared.call.Call.{Call}
use Rattle.file_tree.specs.declared.call.Call.TheVariants as call
use Rattle.file_tree.specs.declared.reply.Reply.TheVariants.{Ok}
use Rattle.cluster_history.specs.Changes.{Changes}
use Rattle.drafts.specs.Fates.{block_with}
use Rattle.drafts.specs.declared.change.Change.{Change}
use Rattle.drafts.specs.declared.fate.Fate.TheVariants.{Put}
use Rattle.gfs2_layout.specs.Holding.{Holding}
use Rattle.gfs2_layout.specs.Records.{Record}
use Rattle.gfs2_layout.specs.Structures.{is_directory}
use Rattle.glock_names.specs.Views.{Seen, IsView}
use Rattle.glock_names.specs.declared.LockName.{LockName}
use Rattle.glock_names.specs.declared.State.TheVariants.{Ex, Sh}
use Rattle.glock_names.specs.declared.views.Group.{Group}
use Rattle.call_locks.specs.Wants.{at_old_name, shared_above, want, way_to}
use Rattle.dinode_tree.specs.Reading.{inode_lock}
use Rattle.image_model.specs.Flat.{Path, tree_at}
use Rattle.image_model.specs.Image.{Image}
use Rattle.image_model.specs.Owners.{Owners, holding}
use Rattle.image_model.specs.Stands.{Layout}
use Rattle.image_model.proofs.Held.{none_some, some_same}
use Rattle.draft_changes.specs.Resizing.{HoldsThere, IsSaidFree}
use Rattle.draft_changes.proofs.Views.{shows_inodes}
use Rattle.image_changes.specs.Does.{Does, IsOf, with_change}
use Rattle.image_changes.specs.Drafted.{with_draft}
use Rattle.image_changes.proofs.Finishing.{finish_makes}
use Rattle.image_changes.specs.Flats.{in_directory}
use Rattle.image_changes.specs.Instances.{IsAt, dinode_at, is_directory_at}
use Rattle.image_changes.proofs.Drafting.{drafts_do}
use Rattle.directory_changes.specs.Moving.{IsTargetOf}
use Rattle.directory_changes.specs.Moving as moved
use Rattle.directory_changes.proofs.Moved.{moving_makes}
use Rattle.hash_dirs.proofs.Gathered.{the_one}
use Rattle.resource_groups.specs.Freeing.{HasSome}
use Rattle.resource_groups.specs.Shown.{group_lock}
use Rattle.name_moves.specs.Groups.{GroupsAreHeld}
use Rattle.move_ends.specs.Walks.{LeadsTo}
use Rattle.move_ends.specs.walk.Place.{Place}
use Rattle.move_ends.proofs.Images.{says_records, shown_inode, sound_directory}
use Rattle.move_ends.proofs.Wants.{at_end, before_end, exclusive, leads_held}
use Rattle.move_ends.proofs.Paths.{ends_so}
use Rattle.room_search.proofs.InImage.{are_shown, said_free}
use Rattle.move_ends.specs.Ends.{AreEnds, IsElsewhere, IsRenaming, IsTarget, MovesIn, StoodIn, from_path, second_wants, to_path}
use Rattle.name_moves.specs.Need.{name_need}
use Rattle.name_moves.specs.Becoming.{GetsName, GetsParent, GivesName, LosesAll, NeedsAfter, losses}
use Rattle.name_moves.specs.Moving.{ArePlacesIn, CanBeMoved, IsMoveIn, IsMoving, IsPutUnder, Move, StandsThere, entry_for, freed_by, lost_there, of_group, of_inode, of_source, of_target}
use Rattle.name_moves.specs.Moving as moving
use Rattle.name_moves.proofs.Alike.{need_once}
use Rattle.name_moves.proofs.SeenPaths.{leads_at}
use Rattle.name_moves.proofs.Imaged.{source_directory}
use Rattle.move_calls.specs.Carrying.{HasRoom, IsCarriedOut, locks_of_room}
use Rattle.move_calls.specs.Locks.{lost_in, replaced_in, taken_in}
use Rattle.move_calls.specs.Moved.{IsMovedIn}
use Rattle.move_calls.proofs.Groups.{blocks_are, freed_goes}
use Rattle.move_calls.proofs.Room.{all_groups, room_once}

-- ---- the locks of the inodes that a move changes

shared_long : (second : Bool) (n : ℕ) → length (shared_above second n) ≡ n
shared_long second zero = refl
shared_long second (suc n) = length-append (shared_above second n) (want second n Sh ∷ []) ∙ omega (arith, shared_long second n)

module _ (v : Seen) (second : Bool) (path : Path) (some : path ≢ []) where
  wants_are : (q : Path) → q ≢ [] → at_old_name second q ≡ way_to second (length (parent_of q)) Ex ++ want second (length q) Ex ∷ []
  wants_are [] other = absurd (other refl)
  wants_are (n ∷ ns) other = refl

  longer : length path ≡ length (parent_of path) + 1
  longer = ap length (ends_so path some) ∙ length-append (parent_of path) (last_of path ∷ [])

  way_long : length (way_to second (length (parent_of path)) Ex) ≡ length path
  way_long = length-append (shared_above second (length (parent_of path))) (want second (length (parent_of path)) Ex ∷ []) ∙ omega (arith, shared_long second (length (parent_of path)), longer)

  pub end_held : (a : ℕ) → LeadsTo v (at_old_name second path) path a → v.state_of (inode_lock a) ≡ Ex
  end_held a leads =
      exclusive (v.state_of (inode_lock a)) (leads_held v (at_old_name second path) path a leads (want second (length path) Ex)
      (ap (λ ws. slice_get ws (length path)) (wants_are path some) ∙ at_end (way_to second (length (parent_of path)) Ex) (want second (length path) Ex) (length path) way_long))

  pub above_held : (a : ℕ) → LeadsTo v (at_old_name second path) (parent_of path) a → v.state_of (inode_lock a) ≡ Ex
  above_held a leads =
      let n = length (parent_of path) in
      exclusive (v.state_of (inode_lock a)) (leads_held v (at_old_name second path) (parent_of path) a leads (want second n Ex)
      (ap (λ ws. slice_get ws n) (wants_are path some) ∙ before_end (shared_above second n) (want second n Ex) (want second (length path) Ex) n (shared_long second n)))

pub record HoldsMove (v : Seen) (m : Move) : Type 0 where
  pub source : v.state_of (inode_lock m.from) ≡ Ex
  pub target : v.state_of (inode_lock m.to.inode) ≡ Ex
  pub inode : v.state_of (inode_lock m.moved.inode) ≡ Ex

-- ---- the draft

none_in : (b : ℕ) → Contains [] b → ⊥
none_in b there = omega (arith, there.1)

module _ (v : Seen) (m : Move) (room : List ℕ) (time : ℕ) (change : Change) (is : IsMoving v m room time change) (held : HoldsMove v m) (groups : GroupsAreHeld v (room ++ freed_by m)) where
  of_room : (g : Group) → HasSome g (is.taken ++ freed_by m) → HasSome g (room ++ freed_by m)
  of_room g (b, there, lies) = elim (Contains-append_cases is.taken (freed_by m) b there) [
    | inl taken ↦ (b, Contains-append_left room (freed_by m) b (subst (λ xs. Contains xs b) (sym is.front) (Contains-append_left is.taken is.left b taken)), lies)
    | inr goes ↦ (b, Contains-append_right room (freed_by m) b goes, lies)
  ]

  -- each block is put with a lock that is held exclusive
  all_held : (b : ℕ) (lock : LockName) (plain : Bool) (bytes : List ℕ) → get is.fates b ≡ Some (Put lock plain bytes) → v.state_of lock ≡ Ex
  all_held b lock plain bytes e = by (is.locks b lock plain bytes e)
    where
      by : IsPutUnder v m is.taken b lock → v.state_of lock ≡ Ex
      by (of_group g has some says same) = ap v.state_of same ∙ exclusive (v.state_of (group_lock g)) (groups g has (of_room g some))
      by (of_source within place same) = ap v.state_of same ∙ held.source
      by (of_target place same) = ap v.state_of same ∙ held.target
      by (of_inode moves place same) = ap v.state_of same ∙ held.inode

  -- what is owed in each image that the view may be of
  pub record IsMovedSo (call : Call) (im : Image) (o : Owners) (l : Layout) (t : Tree) : Type 0 where
    pub path : Path
    pub path' : Path
    pub place : IsMoveIn im o l path path' m room
    pub tree : Tree
    pub there : tree_at t (in_directory path m.name) ≡ Some tree
    pub beside : leads_to (in_directory path m.name) (in_directory path' m.new_name) ≡ false
    pub goes : (c : ℕ) → IsAt im o l (in_directory path' m.new_name) c → v.state_of (inode_lock c) ≡ Ex
    pub applies : apply call t ≡ record { reply = Ok; tree = put_at (in_directory path' m.new_name) tree (remove_at (in_directory path m.name) t) }

  removed_held : (im : Image) (o : Owners) (l : Layout) (path' : Path) (removed freed : List ℕ) (target : List Record) → IsTargetOf im o l path' m.to.inode m.new_name removed target freed
      → ((c : ℕ) → IsAt im o l (in_directory path' m.new_name) c → v.state_of (inode_lock c) ≡ Ex) → (c : ℕ) → Contains removed c → v.state_of (inode_lock c) ≡ Ex
  removed_held im o l path' _ _ _ (moved.IsTargetOf.nothing none) goes c there = absurd (none_in c there)
  removed_held im o l path' _ _ _ (moved.IsTargetOf.an_inode a entry blocks at childless named own) goes c there = subst (λ x. v.state_of (inode_lock x) ≡ Ex) (sym (the_one c a there)) (goes a at)

  pub moving_does : (call : Call) → Changes (record { call = call; reply = Ok }) ≡ true → ((im : Image) (o : Owners) (l : Layout) (t : Tree) → IsOf v im o l t → IsMovedSo call im o l t) → Does v call Ok change
  moving_does call changing images =
      drafts_do v call Ok is.fates change is.finished changing m.to.inode is.puts (λ im o l t of. all_held)
      (λ im o l t of.
      let r = images im o l t of in
      let makes = is.moves im o l t r.path r.path' of r.place in
      moving_makes v call is.fates im o l t r.path r.path' m.from m.name m.to.inode m.new_name m.moved.inode makes.0.after is.taken makes.1.0 (freed_by m) r.tree of r.place.source r.place.target r.place.inode r.there r.beside
      makes.1.1 (removed_held im o l r.path' makes.1.0 (freed_by m) makes.1.1.target makes.1.1.stood r.goes) r.applies)

-- ---- in an image that the view may be of

changes : (c : Call) → IsRenaming c → IsElsewhere c → Changes (record { call = c; reply = Ok }) ≡ true
changes (call.Rename p q) is elsewhere = ap (λ b. not (b && leads_to q p)) elsewhere
changes (call.Create p) is elsewhere = absurd is
changes (call.Mkdir p) is elsewhere = absurd is
changes (call.Unlink p) is elsewhere = absurd is
changes (call.Rmdir p) is elsewhere = absurd is
changes (call.Read p at count) is elsewhere = absurd is
changes (call.Dread p at count) is elsewhere = absurd is
changes (call.Write p at new) is elsewhere = absurd is
changes (call.Truncate p size) is elsewhere = absurd is
changes (call.Stat p) is elsewhere = absurd is
changes (call.List p) is elsewhere = absurd is
changes call.Sync is elsewhere = absurd is

-- the blocks that are taken are as many as are needed, and free in the image
pub record IsRoomThere (im : Image) (l : Layout) (need : ℕ) (room : List ℕ) : Type 0 where
  pub many : length room ≡ need
  pub free : (b : ℕ) → Contains room b → IsSaidFree im l b

module _ (v : Seen) (node need : ℕ) (m : Move) (room : List ℕ) (has : HasRoom v node m need room) (im : Image) (o : Owners) (l : Layout) (t : Tree) (of : IsOf v im o l t) where
  pub room_in : IsRoomThere im l need room
  room_in =
      let found = has.are im.at (are_shown v im o l t of) in
      record {
        many = found.many;
        free = λ b there. said_free v im o l t of (locks_of_room v im.at has.counted.first.own need m) b (found.each b there);
      }

  -- it is as many as the name needs once others went, however they go
  as_many : (path : Path) → IsAt im o l path m.to.inode → is_directory_at im o m.to.inode ≡ true → crc32_of m.new_name < 2 ^ 32 → (without : Holding) → LosesAll (lost_there m) (holding im o m.to.inode) without
      → length room ≡ name_need without m.new_name
  as_many path at dir hash without lost =
      let sound = sound_directory v im o l t of path m.to.inode at dir in
      room_in.many
      ∙ need_once (lost_there m) (holding im o m.to.inode) m.new_name need (name_need without m.new_name) sound hash (has.counted.needs.in_sound (holding im o m.to.inode) (shown_inode v im o l t of path m.to.inode at) sound)
      (record { without = without; lost = lost; is = refl })

abbrev pub move_by : Call → Place → Place → Option (List ℕ) → Move
move_by c from to replaced = record { from = from.above; name = last_of (from_path c); to = to; new_name = last_of (to_path c); moved = from; replaced = replaced }

module _ (v : Seen) (c : Call) (from to : Place) (replaced : Option (List ℕ)) (ends : AreEnds v c from to) where
  from_so : from_path c ≡ in_directory (parent_of (from_path c)) (last_of (from_path c))
  from_so = ends_so (from_path c) ends.begun.from

  to_so : to_path c ≡ in_directory (parent_of (to_path c)) (last_of (to_path c))
  to_so = ends_so (to_path c) ends.begun.to

  stood_in : (im : Image) (o : Owners) (l : Layout) (r : Option (List ℕ)) → StoodIn im o l c to.inode r → StandsThere im o l (parent_of (to_path c)) (move_by c from to r)
  stood_in im o l _ (StoodIn.nothing child none) = StandsThere.nothing refl child
  stood_in im o l _ (StoodIn.an_inode a blocks at childless own) = StandsThere.an_inode a blocks refl (subst (λ p. IsAt im o l p a) to_so at) childless own

  pub stood_or_not : (im : Image) (o : Owners) (l : Layout) (r : Option (List ℕ)) → StoodIn im o l c to.inode r → is_some r ≡ is_some (replaced_in im o l c)
  stood_or_not im o l _ (StoodIn.nothing child none) = sym (ap is_some none)
  stood_or_not im o l _ (StoodIn.an_inode a blocks at childless own) = sym (ap is_some at)

  -- the names that go there
  pub lost_same : (im : Image) (o : Owners) (l : Layout) (t : Tree) → MovesIn v im o l t c from to replaced → lost_there (move_by c from to replaced) ≡ lost_in im o l c from.above to.inode
  lost_same im o l t r = λ i. losses (stood_or_not im o l replaced r.stood i) (from.above == to.inode) (last_of (from_path c)) (last_of (to_path c))

  -- the places of the move in the image, and the blocks that were found for it
  pub are_places : (im : Image) (o : Owners) (l : Layout) (t : Tree) → MovesIn v im o l t c from to replaced → ArePlacesIn im o l (parent_of (from_path c)) (parent_of (to_path c)) (move_by c from to replaced)
  are_places im o l t r = record {
    source = r.source.above;
    target = r.target;
    inode = subst (λ p. IsAt im o l p from.inode) from_so r.source.at;
    directory = r.directory;
    inode_dinode = r.source.dinode;
  }

  pub place_in : crc32_of (last_of (to_path c)) < 2 ^ 32 → (im : Image) (o : Owners) (l : Layout) (t : Tree) → IsOf v im o l t → MovesIn v im o l t c from to replaced
      → (node need : ℕ) (room : List ℕ) → HasRoom v node (move_by c from to replaced) need room
      → IsMoveIn im o l (parent_of (from_path c)) (parent_of (to_path c)) (move_by c from to replaced) room
  place_in hash im o l t of r node need room has = record {
    source = r.source.above;
    target = r.target;
    inode = subst (λ p. IsAt im o l p from.inode) from_so r.source.at;
    directory = r.directory;
    target_dinode = r.dinode;
    inode_dinode = r.source.dinode;
    stood = stood_in im o l replaced r.stood;
    as_many = as_many v node need (move_by c from to replaced) room has im o l t of (parent_of (to_path c)) r.target r.directory hash;
    free = (room_in v node need (move_by c from to replaced) room has im o l t of).free;
    once = room_once v node need (move_by c from to replaced) room has;
  }

module _ (v : Seen) (c : Call) (from to : Place) (replaced : Option (List ℕ)) (node time : ℕ) (change : Change) (view : IsView v) (ends : AreEnds v c from to) (target : IsTarget v c from to replaced)
    (can : CanBeMoved v (move_by c from to replaced)) (hash : crc32_of (last_of (to_path c)) < 2 ^ 32) (images : (im : Image) (o : Owners) (l : Layout) (t : Tree) → IsOf v im o l t → MovesIn v im o l t c from to replaced)
    (done : IsCarriedOut v node time (move_by c from to replaced) change) where
  abbrev m : Move
  m = move_by c from to replaced

  pub held : HoldsMove v m
  held = record {
    source = above_held v false (from_path c) ends.begun.from from.above ends.source.above;
    target = above_held v true (to_path c) ends.begun.to to.inode ends.target;
    inode = end_held v false (from_path c) ends.begun.from from.inode ends.source.leads;
  }

  pub groups : GroupsAreHeld v (done.room ++ freed_by m)
  groups = all_groups v node done.need m done.room done.has view

  -- what stands at the new name is held
  goes_held : (im : Image) (o : Owners) (l : Layout) (t : Tree) → IsOf v im o l t → (r : Option (List ℕ)) → IsTarget v c from to r → StoodIn im o l c to.inode r → (a : ℕ) → IsAt im o l (to_path c) a → v.state_of (inode_lock a) ≡ Ex
  goes_held im o l t of _ (IsTarget.free lacks) (StoodIn.nothing child none) a at = absurd (none_some (sym none ∙ at))
  goes_held im o l t of _ (IsTarget.taken there blocks stands may all leaves) stood a at =
      let same : a ≡ there.inode = some_same (sym at ∙ leads_at v im o l t of (second_wants c) (to_path c) there.inode stands.place.leads) in
      subst (λ x. v.state_of (inode_lock x) ≡ Ex) (sym same) (end_held v true (to_path c) ends.begun.to there.inode stands.place.leads)

  moved_so : (im : Image) (o : Owners) (l : Layout) (t : Tree) → IsOf v im o l t → IsMovedSo v m done.room time change done.is held groups c im o l t
  moved_so im o l t of =
      let r = images im o l t of in
      record {
        path = parent_of (from_path c);
        path' = parent_of (to_path c);
        place = place_in v c from to replaced ends hash im o l t of r node done.need done.room done.has;
        tree = r.takes.moved;
        there = subst (λ p. tree_at t p ≡ Some r.takes.moved) (from_so v c from to replaced ends) r.takes.there;
        beside = (λ i. leads_to (sym (from_so v c from to replaced ends) i) (sym (to_so v c from to replaced ends) i)) ∙ ends.elsewhere;
        goes = λ a at. goes_held im o l t of replaced target r.stood a (subst (λ p. IsAt im o l p a) (sym (to_so v c from to replaced ends)) at);
        applies = r.takes.applies ∙ (λ i. record { reply = Ok; tree = put_at (to_so v c from to replaced ends i) r.takes.moved (remove_at (from_so v c from to replaced ends i) t) });
      }

  -- so the change is what the call should make
  pub does : IsRenaming c → Does v c Ok change
  does renaming = moving_does v m done.room time change done.is held groups c (changes c renaming ends.elsewhere) moved_so

  -- ---- and the directories are so then

  none_left : (xs ys zs : List ℕ) → zs ≡ xs ++ ys → length zs ≡ length xs → zs ≡ xs
  none_left xs [] zs same long = same ∙ append-nil xs
  none_left xs (y ∷ ys) zs same long = absurd (omega (arith, long, ap length same, length-append xs (y ∷ ys)))

  pub moved_in : (im : Image) (o : Owners) (l : Layout) (t : Tree) → IsOf v im o l t → IsMovedIn im o l c node time change
  moved_in im o l t of =
      let r = images im o l t of in
      let so = moved_so im o l t of in
      let first = done.has.counted.first in
      let are : done.room ≡ taken_in im o l c node done.need =
      (done.has.are im.at (are_shown v im o l t of)).are ∙ blocks_are v im o l t of c node (freed_by m) (freed_goes im o l c to.inode replaced r.stood) done.need first.own first.of_node in
      let makes = done.is.moves im o l t so.path so.path' of so.place in
      let b = makes.0 in
      let image : with_change im change ≡ with_draft im done.is.fates = (finish_makes done.is.fates change done.is.finished).image im in
      let path = parent_of (from_path c) in
      let path' = parent_of (to_path c) in
      let target_shown = shown_inode v im o l t of path' to.inode r.target in
      let target_sound = sound_directory v im o l t of path' to.inode r.target r.directory in
      let source_shown = shown_inode v im o l t of path from.above r.source.above in
      let is_dir : is_directory_at im o from.above ≡ true = source_directory v im o l t of view m done.room so.path so.path' can so.place in
      let lost : lost_there m ≡ lost_in im o l c from.above to.inode = lost_same v c from to replaced ends im o l t r in
      let taken_all : done.room ≡ done.is.taken = none_left done.is.taken done.is.left done.room done.is.front (so.place.as_many b.gets.without b.gets.lost ∙ sym b.gets.few) in
      let entry : entry_for m done.is.old ≡ record { number = (dinode_at im o from.inode).num.number; addr = from.inode; kind = done.is.old.kind } =
      λ i. record { number = (r.source.dinode i).num.number; addr = from.inode; kind = done.is.old.kind } in
      record {
        source = from.above;
        source_at = r.source.above;
        target = to.inode;
        target_at = r.target;
        inode = from.inode;
        inode_at = r.source.at;
        need = done.need;
        needs = subst (λ names. NeedsAfter names (holding im o to.inode) (last_of (to_path c)) done.need) lost (done.has.counted.needs.in_sound (holding im o to.inode) target_shown target_sound);
        old = done.is.old;
        old_is = sym (says_records v im o l t of path from.above (last_of (from_path c)) (Some done.is.old) r.source.above is_dir (done.is.old_is (holding im o from.above) source_shown));
        gives = λ between. subst (λ g. GivesName (holding im o from.above) g (last_of (from_path c)) time) (shows_inodes v done.is.fates im o from.above of.agrees ∙ ap (λ x. holding x o from.above) (sym image)) (b.gives between);
        after = b.after;
        there = subst (λ x. HoldsThere x to.inode b.after) (sym image) makes.1.1.there;
        gets = subst (λ names. GetsName names (holding im o to.inode) b.after (last_of (to_path c)) (record { number = (dinode_at im o from.inode).num.number; addr = from.inode; kind = done.is.old.kind }) (taken_in im o l c node done.need) time) lost
            (subst (λ e. GetsName (lost_there m) (holding im o to.inode) b.after (last_of (to_path c)) e (taken_in im o l c node done.need) time) entry
            (subst (λ xs. GetsName (lost_there m) (holding im o to.inode) b.after (last_of (to_path c)) (entry_for m done.is.old) xs time) (sym taken_all ∙ are) b.gets));
        parent = λ moves. subst (λ p. GetsParent (holding im o from.inode) (holding (with_change im change) o from.inode) p time) (λ i. record { number = (r.dinode i).num.number; address = to.inode })
            (subst (λ g. GetsParent (holding im o from.inode) g (moving.parent_of m) time) (shows_inodes v done.is.fates im o from.inode of.agrees ∙ ap (λ x. holding x o from.inode) (sym image))
            (b.parent (ap (λ d. is_directory d && not (from.above == to.inode)) r.source.dinode ∙ moves)));
        still = λ stays n some. ap (λ (x : Image). x.at n) image ∙ ap (λ f. unwrap_or (block_with f None) (im.at n)) (b.still (ap (λ d. is_directory d && not (from.above == to.inode)) r.source.dinode ∙ stays) n some);
      }
