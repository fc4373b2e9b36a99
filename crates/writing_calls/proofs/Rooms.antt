-- A call that needs free blocks, at the place to which the walk came: what the search for them tells, and what its change makes.
use Rattle.std.proofs.Common.{◌≡◌, ◌+◌, ◌≤◌, ◌<◌, inl, inr, ℕ, Bool, true, false, List, [], ◌∷◌, ◌++◌, length, None, Some, refl, sym, ap, ◌∙◌, subst, arith}
use Rattle.std.proofs.lemmas.List.{append-nil, drop_all}
use Rattle.std.proofs.lemmas.List.Elements.{All-append, Contains-append_right}
use Rattle.std.specs.Prelude.{Contains, Vec, is_some, map}
use Rattle.std.specs.Ordering.{nat_cmp}
use Rattle.std.specs.declared.alloc.Global.{Global}
use Rattle.std.specs.FinMap.{FinMap, get}
use Rattle.file_tree.specs.Apply.{file_limit, overwritten, resized}
use Rattle.file_tree.specs.Tree.{Tree}
use Rattle.file_tree.specs.declared.call.Call.{Call}
use Rattle.file_tree.specs.declared.reply.Reply.TheVariants.{Ok as OkReply}
use Rattle.drafts.specs.Fates.{block_with}
use Rattle.drafts.specs.declared.change.Change.{Change}
use Rattle.drafts.specs.declared.fate.Fate.{Fate}
use Rattle.drafts.specs.declared.fate.Fate.TheVariants.{Put}
use Rattle.gfs2_layout.specs.Inode.{content_of}
use Rattle.gfs2_layout.specs.Structures.{is_directory}
use Rattle.gfs2_layout.specs.declared.dinode.Dinode.{Dinode}
use Rattle.gfs2_layout.specs.declared.rindex.Rindex.{Rindex}
use Rattle.glock_names.specs.Views.{HasGroup, Seen, IsView, group_of_entry}
use Rattle.glock_names.specs.declared.LockName.{LockName}
use Rattle.glock_names.specs.declared.State.{State}
use Rattle.glock_names.specs.declared.State.TheVariants.{Ex}
use Rattle.glock_names.specs.declared.steps.Missing.{Missing}
use Rattle.glock_names.specs.declared.views.Group.{Group}
use Rattle.call_locks.specs.Wants.{wanted}
use Rattle.call_locks.specs.WantLaws.{path_of}
use Rattle.dinode_tree.specs.Below.{AnyIndex}
use Rattle.dinode_tree.specs.Reading.{inode_lock}
use Rattle.growth_laws.specs.Laws.{InodesAreFiles}
use Rattle.growth_laws.specs.Need.{needed}
use Rattle.growth_drafts.specs.Taken.{IsCounted, IsDistinct, IsLookedAt}
use Rattle.image_model.specs.Groups.{IsListed}
use Rattle.image_model.specs.Image.{Image}
use Rattle.image_model.specs.Owners.{Owners, holding}
use Rattle.image_model.specs.Stands.{Layout}
use Rattle.image_model.proofs.Counts.{all_in}
use Rattle.image_model.proofs.Members.{contained, is_in}
use Rattle.image_model.proofs.Rising.{Rising, rising}
use Rattle.image_changes.specs.Does.{IsOf, Does}
use Rattle.image_changes.specs.Drafted.{is_put}
use Rattle.image_changes.specs.Instances.{dinode_at}
use Rattle.image_changes.proofs.Drafting.{drafts_do}
use Rattle.image_changes.proofs.Laid.{one_group}
use Rattle.draft_changes.specs.Removing.{HasSome}
use Rattle.draft_changes.specs.Resizing.{HasSomeOf}
use Rattle.draft_changes.proofs.Views.{groups_are_listed}
use Rattle.resource_groups.specs.Freeing as freeing
use Rattle.resource_groups.specs.Shown as group
use Rattle.resource_groups.specs.Shown.{group_lock, said}
use Rattle.file_changes.specs.Drafting.{IsNeededAt, IsWriteDraft, of_any, of_group, of_inode}
use Rattle.file_changes.specs.Making as making
use Rattle.file_changes.specs.Making.{MakesFile, WritesMakeFiles}
use Rattle.file_changes.proofs.Standing.{standing_file}
use Rattle.path_walks.specs.Holds.{Hold, AreHeld, IsAskedFor, IsFirstLack, IsUnder, holds, hold_of_group, holds_in}
use Rattle.path_walks.specs.Walks.{IsSeenAt, IsWalked}
use Rattle.path_walks.specs.declared.walk.Place.{Place}
use Rattle.path_walks.specs.declared.walk.Walk.TheVariants.{At}
use Rattle.path_walks.proofs.Images.{is_shown}
use Rattle.path_walks.proofs.Longer.{asked_behind, lack_behind}
use Rattle.path_walks.proofs.Wants.{exclusive}
use Rattle.room_search.specs.Blocks.{free_in_all, group_holds, group_of_node, room_holds}
use Rattle.room_search.specs.Searches.{AreHeldBlocks, AreShown, HasOwnGroup, IsHeldBlock, IsRoomIn, IsShortIn, IsTaken}
use Rattle.room_search.specs.Searches as search
use Rattle.room_search.specs.declared.search.Locked.{Locked}
use Rattle.room_search.specs.declared.search.Locked.TheVariants as locked
use Rattle.room_search.specs.declared.search.Taken.{Taken}
use Rattle.room_search.specs.declared.search.Taken.TheVariants as taken
use Rattle.room_search.proofs.InImage.{group_asked}
use Rattle.room_search.proofs.Holds.{block_under}
use Rattle.room_search.proofs.Room.{all_listed}
use Rattle.room_search.proofs.Shown.{bytes_shown}
use Rattle.writing_calls.specs.Writing.{IsEdit, IsNeedOf, IsRoomOf, IsTooFew, Puts, PutsThere, by_growth, by_write, call_holds, content_after, end_of}
use Rattle.writing_calls.proofs.Doing.{changes, inode_held, long_content}
use Rattle.writing_calls.proofs.Images as images
use Rattle.writing_calls.proofs.Listed.{looks_so, need_is, room_list}
use Rattle.writing_calls.proofs.Written.{put_at}

-- numbers that rise stand once each
distinct : (xs : List ℕ) → Rising xs → IsDistinct xs
distinct [] r = tt
distinct (x ∷ xs) r = ((λ has. let less : x < x = all_in (λ y. x < y) x xs r.0 (is_in x xs has) in absurd (omega (arith, less))), distinct xs r.1)

grown_content : (end : ℕ) (bytes : List ℕ) → length bytes < end → overwritten end [] bytes ≡ resized end bytes
grown_content end bytes longer =
    ap (λ xs. resized end bytes ++ [] ++ xs) (drop_all (end + 0) bytes (omega (arith, longer)))
    ∙ append-nil (resized end bytes ++ []) ∙ append-nil (resized end bytes)

-- what is written makes the file no longer than it may be
pub puts_short : (c : Call) (size at : ℕ) (new : List ℕ) → Puts c size at new → at + length new ≤ file_limit → end_of c ≤ file_limit
puts_short c size at new (by_write x bytes writes) short = subst (λ k. end_of k ≤ file_limit) (sym writes) short
puts_short c size at new (by_growth end is longer) short = subst (λ k. end_of k ≤ file_limit) (sym is) (omega (arith, short))

-- and is so as every inode that this may be says
pub puts_there : (v : Seen) (c : Call) (p : Place) → IsSeenAt v (wanted c) (path_of c false) p → (at : ℕ) (new : List ℕ) → Puts c p.dinode.size at new → PutsThere v c p.inode at new
puts_there v c p seen at new puts h shown = subst (λ (d : Dinode). Puts c d.size at new) (seen.dinode h shown) puts

-- what the content is then
puts_content : (c : Call) (size at : ℕ) (new content : List ℕ) → Puts c size at new → length content ≡ size → content_after c content ≡ overwritten at new content
puts_content c size at new content (by_write x bytes writes) long = ap (λ (k : Call). content_after k content) writes
puts_content c size at new content (by_growth end cuts longer) long = ap (λ (k : Call). content_after k content) cuts ∙ sym (grown_content end content (subst (λ n. n < end) (sym long) longer))

-- ---- what the search tells, on every view

module _ (v : Seen) (node need : ℕ) (view : IsView v) (own : HasOwnGroup v node) (r : Locked Taken)
    (found : (at : ℕ → List ℕ) (k : Group) → AreShown v at → group_of_node v.groups node ≡ Some k → search.IsUnder v (group_holds (said at) v.groups k need) (IsTaken v (said at) v.groups k need) r) where
  under : (at : ℕ → List ℕ) → AreShown v at → search.IsUnder v (group_holds (said at) v.groups own.0 need) (IsTaken v (said at) v.groups own.0 need) r
  under at shown = found at own.0 shown own.1

  pub room_of : (blocks : Vec ℕ Global) → r ≡ locked.Is (taken.Is blocks) → IsRoomOf v node need blocks.items
  room_of blocks is =
      let shown = bytes_shown v view in
      record {
        own = own.0;
        of_node = own.1;
        many = (so shown.0 (λ k has. shown.1 k)).1.many;
        first = λ at shown. (so at shown).1.are;
        held = λ at shown. (so at shown).0;
      }
    where
      so : (at : ℕ → List ℕ) → AreShown v at → search.IsUnder v (group_holds (said at) v.groups own.0 need) (IsTaken v (said at) v.groups own.0 need) (locked.Is (taken.Is blocks))
      so at shown = subst (search.IsUnder v (group_holds (said at) v.groups own.0 need) (IsTaken v (said at) v.groups own.0 need)) is (under at shown)

  -- too few blocks are free in all groups, each of which is held
  pub record IsShortOf (free : ℕ) : Type 0 where
    pub held : AreHeld v (map hold_of_group v.groups)
    pub free_are : (at : ℕ → List ℕ) → AreShown v at → free ≡ length (free_in_all (said at) v.groups)
    pub fewer : free < need

  pub short_of : (free : ℕ) → r ≡ locked.Is (taken.TooFew free) → IsShortOf free
  short_of free is =
      let shown = bytes_shown v view in
      let one = so shown.0 (λ k has. shown.1 k) in
      record {
        held = all_listed v (said shown.0) (own.0 ∷ []) need one.1.fewer_first one.0;
        free_are = λ at shown. (so at shown).1.free_are;
        fewer = one.1.fewer;
      }
    where
      so : (at : ℕ → List ℕ) → AreShown v at → search.IsUnder v (group_holds (said at) v.groups own.0 need) (IsTaken v (said at) v.groups own.0 need) (locked.Is (taken.TooFew free))
      so at shown = subst (search.IsUnder v (group_holds (said at) v.groups own.0 need) (IsTaken v (said at) v.groups own.0 need)) is (under at shown)

  -- the first lock that isn't held is one of those
  pub first_lacks : (lock : LockName) (state : State) → r ≡ locked.NeedLock lock state → (at : ℕ → List ℕ) → AreShown v at → IsFirstLack v (group_holds (said at) v.groups own.0 need) lock state
  first_lacks lock state is at shown = subst (search.IsUnder v (group_holds (said at) v.groups own.0 need) (IsTaken v (said at) v.groups own.0 need)) is (under at shown)

-- ---- at the place to which the walk came

module _ (make : WritesMakeFiles) (files : InodesAreFiles) (v : Seen) (c : Call) (p : Place) (is : IsEdit c) (seen : IsSeenAt v (wanted c) (path_of c false) p) (plain : is_directory p.dinode ≡ false) (short : end_of c ≤ file_limit)
    (at : ℕ) (new : List ℕ) (puts : Puts c p.dinode.size at new) (low : at + length new ≤ file_limit) (need : ℕ) (needs : IsNeedOf v p.inode at new need) (node : ℕ) where
  -- ---- in an image that the view may be of

  module _ (im : Image) (o : Owners) (l : Layout) (t : Tree) (of : IsOf v im o l t) (walked : IsWalked v im o l t (path_of c false) (wanted c) (At p)) where
    abbrev path_list : List Hold
    path_list = holds_in im o l (path_of c false) (wanted c)

    abbrev content : List ℕ
    content = content_of (holding im o p.inode)

    size_is : (dinode_at im o p.inode).size ≡ p.dinode.size
    size_is = images.size_is v c p is seen plain short im o l t of walked

    counted : IsCounted (holding im o p.inode)
    counted = standing_file v im o l t of (path_of c false) p.inode walked.0.at (images.is_file v c p is seen plain short im o l t of walked) files

    need_so : need ≡ needed (holding im o p.inode) at (length new)
    need_so = needs.so_many (holding im o p.inode) (is_shown v im o l t of (path_of c false) p.inode walked.0.at) counted.file

    same_content : content_after c content ≡ overwritten at new content
    same_content = puts_content c p.dinode.size at new content puts (long_content v im o l t of (path_of c false) p.inode walked.0.at ∙ size_is)

    pub list_is : call_holds im o l t c node ≡ path_list ++ room_holds o l node need
    list_is = images.list_is v c p is seen plain short im o l t of walked node ∙ ap (λ xs. path_list ++ xs) (room_list im o l c node p.inode p.dinode.size at new need size_is puts need_so)

    -- the search meets a lock that isn't held, or a block that is needed, or finds too few blocks
    pub first_lack : (lock : LockName) (state : State) → IsFirstLack v (room_holds o l node need) lock state → IsFirstLack v (call_holds im o l t c node) lock state
    first_lack lock state lack = subst (λ xs. IsFirstLack v xs lock state) (sym list_is) (lack_behind v path_list (room_holds o l node need) lock state walked.2 lack)

    pub search_asked : (m : Missing) → IsAskedFor v im o l (room_holds o l node need) m → IsAskedFor v im o l (call_holds im o l t c node) m
    search_asked m asks = subst (λ xs. IsAskedFor v im o l xs m) (sym list_is) (asked_behind v im o l path_list (room_holds o l node need) m walked.2 asks)

    pub too_few : (free : ℕ) → IsShortIn v o l need free → IsTooFew v im o l t c need free
    too_few free few = record {
      taken = images.ok v c p is seen plain short im o l t of walked;
      inode = p.inode;
      at = walked.0.at;
      on_path = walked.2;
      groups = few.groups;
      looked = λ i looks. needs.looked (holding im o p.inode) i (is_shown v im o l t of (path_of c false) p.inode walked.0.at) counted.file (looks_so im o l c node p.inode p.dinode.size at new i puts looks);
      needs = need_is im o l c node p.inode p.dinode.size at new need size_is puts need_so;
      free_are = few.free_are;
      fewer = few.fewer;
    }

    module _ (room : List ℕ) (held : AreHeld v (room_holds o l node need)) (found : IsRoomIn im o l node need room) where
      pub all_held : AreHeld v (call_holds im o l t c node)
      all_held = subst (AreHeld v) (sym list_is) (All-append (λ h. holds v h ≡ true) path_list (room_holds o l node need) walked.2 held)

      pub is_room : making.IsRoomIn im o l p.inode at (length new) room
      is_room = record {
        file = images.is_file v c p is seen plain short im o l t of walked;
        short = low;
        free = found.free;
        once = distinct room (rising room found.rise);
        as_many = found.many ∙ need_so;
      }

      -- the lock of a group that has some of the blocks is of the list
      pub group_listed : (k : Rindex) → IsListed l.groups k → HasSome k room → Contains (room_holds o l node need) (hold_of_group (group_of_entry k))
      group_listed k listed some =
          let f = found.under some.0 some.1 in
          let same : k.address ≡ f.group.address = one_group im l.groups of.stands.laid.fit k f.group some.0 listed f.listed some.2 f.data_block in
          subst (λ n. Contains (room_holds o l node need) (record { lock = record { kind = 3; number = n }; state = Ex })) (sym same) f.among

      -- what the write asks for
      pub write_asked : (m : Missing) → IsNeededAt v p.inode (λ h. IsLookedAt h at (at + length new)) room m → IsAskedFor v im o l (call_holds im o l t c node) m
      write_asked m (of_inode asks) = images.inode_asked v c p is seen plain short im o l t of walked node (λ h. IsLookedAt h at (at + length new)) 0 m asks
      write_asked m (of_any asks) = images.inode_asked v c p is seen plain short im o l t of walked node (λ h. AnyIndex) 1 m asks
      write_asked m (of_group asks) =
          let f = (groups_are_listed v im o l t asks.0 of).0 asks.1 in
          let lies = subst (λ (g : Group). group.IsDataOf g asks.2.0) f.2 asks.2.2 in
          let in_room = group_listed f.0 f.1 (asks.2.0, asks.2.1, record { low = lies.low; high = lies.high }) in
          let in_list : Contains (call_holds im o l t c node) (hold_of_group asks.0) =
          subst (λ xs. Contains xs (hold_of_group asks.0)) (sym list_is)
          (Contains-append_right path_list (room_holds o l node need) (hold_of_group asks.0) (subst (λ (g : Group). Contains (room_holds o l node need) (hold_of_group g)) (sym f.2) in_room)) in
          group_asked v im o l t of (call_holds im o l t c node) m (block_under v (call_holds im o l t c node) asks.0 m all_held in_list asks.1 asks.2.3.block)

      module _ (view : IsView v) (time : ℕ) (change : Change) (w : IsWriteDraft v p.inode at new time room change) where
        pub made : MakesFile im o l w.last p.inode (content_after c content) time room []
        made = subst (λ bytes. MakesFile im o l w.last p.inode bytes time room []) (sym same_content)
            (make v p.inode at new time room change im o l t (path_of c false) view of walked.0.at w is_room)

        pub written_under : IsUnder o (call_holds im o l t c node) change
        written_under = images.made_under v c p is seen plain short im o l t of walked w.last time room [] made node change w.finished
            (λ k listed some. subst (λ xs. Contains xs (hold_of_group (group_of_entry k))) (sym (room_list im o l c node p.inode p.dinode.size at new need size_is puts need_so))
            (group_listed k listed (elim some [ inl taken ↦ taken | inr freed ↦ elim (is_in freed.0 [] freed.1) [ ] ])))

  -- ---- on every view

  module _ (room : List ℕ) (told : AreHeldBlocks v need room) (time : ℕ) (change : Change) (w : IsWriteDraft v p.inode at new time room change) where
    -- some block is put: the dinode's, or the header of a group that has a block which is taken
    some_put : (n : ℕ) × (is_put w.last n ≡ true)
    some_put = by room told.each (λ b. w.writes.taken.takes.counts b) (λ away. w.writes.taken.rest.others p.inode away)
      where
        second_put : get w.writes.second p.inode ≡ Some (Put (inode_lock p.inode) false w.writes.timed.bytes)
        second_put = ap (λ (m : FinMap nat_cmp Fate). get m p.inode) w.writes.timed.put ∙ put_at w.writes.first p.inode (Put (inode_lock p.inode) false w.writes.timed.bytes)

        by : (blocks : List ℕ) → ((b : ℕ) → Contains blocks b → IsHeldBlock v b) → ((g : Group) → HasGroup v g → freeing.HasSome g blocks → (bytes : List ℕ) × (get w.last g.addr ≡ Some (Put (group_lock g) false bytes)))
            → (((g : Group) → HasGroup v g → freeing.HasSome g blocks → ¬ (group.IsHeaderOf g p.inode)) → get w.last p.inode ≡ get w.writes.second p.inode) → (n : ℕ) × (is_put w.last n ≡ true)
        by [] each counts others =
            (p.inode, ap (λ f. is_some (block_with f None)) (others (λ g has some head. elim (is_in some.0 [] some.1) [ ]) ∙ second_put))
        by (b ∷ rest) each counts others =
            let h = each b (contained b (b ∷ rest) (inl refl)) in
            let put = counts h.group h.has (b, contained b (b ∷ rest) (inl refl), h.data_block) in
            (h.group.addr, ap (λ f. is_some (block_with f None)) put.1)

    -- in each image that the view may be of the search found this
    pub record IsFoundIn (im : Image) (o : Owners) (l : Layout) (t : Tree) : Type 0 where
      pub walked : IsWalked v im o l t (path_of c false) (wanted c) (At p)
      pub held : AreHeld v (room_holds o l node need)
      pub room_is : IsRoomIn im o l node need room

    module _ (view : IsView v) (found : (im : Image) (o : Owners) (l : Layout) (t : Tree) → IsOf v im o l t → IsFoundIn im o l t) where
      made_in : (im : Image) (o : Owners) (l : Layout) (t : Tree) (of : IsOf v im o l t) → MakesFile im o l w.last p.inode (content_after c (content_of (holding im o p.inode))) time room []
      made_in im o l t of = let f = found im o l t of in made im o l t of f.walked room f.held f.room_is view time change w

      exclusive_in : (im : Image) (o : Owners) (l : Layout) (t : Tree) → IsOf v im o l t → (b : ℕ) (lock : LockName) (plain : Bool) (bytes : List ℕ) → get w.last b ≡ Some (Put lock plain bytes) → v.state_of lock ≡ Ex
      exclusive_in im o l t of b lock plain bytes put = elim ((made_in im o l t of).under b lock plain bytes put) [
        | inl e ↦ ap v.state_of e ∙ inode_held v c p.inode is seen.leads
        | inr f ↦ of_group f.0 f.1 f.2 f.3
      ]
        where
          of_group : (k : Rindex) → IsListed l.groups k → HasSomeOf k room [] → lock ≡ record { kind = 3; number = k.address } → v.state_of lock ≡ Ex
          of_group k listed (inr freed) e = elim (is_in freed.0 [] freed.1) [ ]
          of_group k listed (inl some) e =
              let h = told.each some.0 some.1 in
              let f = (groups_are_listed v im o l t h.group of).0 h.has in
              let lies = subst (λ (g : Group). group.IsDataOf g some.0) f.2 h.data_block in
              let same : k.address ≡ f.0.address = one_group im l.groups of.stands.laid.fit k f.0 some.0 listed f.1 some.2 (record { low = lies.low; high = lies.high }) in
              ap v.state_of (e ∙ ap (λ n. record { kind = 3; number = n }) (same ∙ ap (λ (g : Group). g.addr) (sym f.2))) ∙ exclusive (v.state_of (group_lock h.group)) h.held

      pub written_does : Does v c OkReply change
      written_does = drafts_do v c OkReply w.last change w.finished (changes c is) some_put.0 some_put.1 exclusive_in
          (λ im o l t of. images.makes v c p is seen plain short im o l t of (found im o l t of).walked w.last time room [] (made_in im o l t of))
