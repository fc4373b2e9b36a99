-- A name made in the directory at the place to which the walk came.
use Rattle.std.proofs.Common.{◌≡◌, ◌≢◌, inl, Bool, true, false, true≢false, ℕ, ◌+◌, ◌<◌, ◌≤◌, List, [], ◌∷◌, ◌++◌, length, map, None, Some, refl, sym, ap, ◌∙◌, subst, subst₂, arith}
use Rattle.std.proofs.lemmas.List.{append-nil, length-append, nil_from_length}
use Rattle.std.proofs.lemmas.List.Elements.{All-append, Contains-append_left}
use Rattle.std.specs.FinMap.{get}
use Rattle.std.specs.Prelude.{Contains, IsSome, is_some}
use Rattle.cluster_history.specs.Changes.{is_ok}
use Rattle.file_tree.specs.Apply.{apply, Answer, put_at}
use Rattle.file_tree.specs.Names.{IsName}
use Rattle.file_tree.specs.Tree.{Tree}
use Rattle.file_tree.specs.declared.call.Call.{Call}
use Rattle.file_tree.specs.declared.reply.Reply.TheVariants.{Ok}
use Rattle.drafts.specs.Fates.{block_with}
use Rattle.drafts.specs.declared.change.Change.{Change}
use Rattle.drafts.specs.declared.fate.Fate.TheVariants.{Put}
use Rattle.gfs2_layout.specs.Holding.{Holding, alone}
use Rattle.gfs2_layout.specs.Records.{child_named}
use Rattle.gfs2_layout.specs.Inode.{is_directory_in, records_of}
use Rattle.gfs2_layout.specs.Structures.{dinode_of}
use Rattle.gfs2_layout.specs.declared.dinode.Dinode.{Dinode}
use Rattle.gfs2_layout.specs.declared.rindex.Rindex.{Rindex}
use Rattle.glock_names.specs.Views.{Seen, IsView, HasGroup, group_of_entry}
use Rattle.glock_names.specs.declared.LockName.{LockName}
use Rattle.glock_names.specs.declared.State.{State}
use Rattle.glock_names.specs.declared.State.TheVariants.{Ex}
use Rattle.glock_names.specs.declared.steps.Entry.{Entry}
use Rattle.glock_names.specs.declared.steps.Missing.{Missing}
use Rattle.glock_names.specs.declared.views.Group.{Group}
use Rattle.call_locks.specs.Wants.{wanted}
use Rattle.call_locks.specs.WantLaws.{path_of}
use Rattle.dinode_tree.specs.Reading.{inode_lock}
use Rattle.name_drafts.specs.DirectoryShown.{IsShown}
use Rattle.hash_dirs.specs.Shown.{IsSound, index_for}
use Rattle.resource_groups.specs.Putting.{HasDataBlock}
use Rattle.resource_groups.specs.Shown.{IsDataOf, group_lock, said}
use Rattle.resource_groups.proofs.Apart.{one_group}
use Rattle.image_model.specs.Groups as owned
use Rattle.image_model.specs.Groups.{IsListed}
use Rattle.image_model.specs.Image.{Image}
use Rattle.image_model.specs.Owners.{Owners, holding}
use Rattle.image_model.specs.Stands.{Layout}
use Rattle.image_model.proofs.Held.{own_block}
use Rattle.image_model.proofs.Members.{IsIn, contained, in_left, in_right, is_in}
use Rattle.image_model.proofs.Rising.{rising}
use Rattle.image_changes.specs.Does.{IsOf, Does, with_change}
use Rattle.image_changes.specs.Drafted.{is_put}
use Rattle.image_changes.proofs.Drafting.{drafts_do}
use Rattle.image_changes.proofs.Finishing.{finish_makes}
use Rattle.draft_changes.specs.Resizing.{HoldsThere}
use Rattle.draft_changes.proofs.Saying.{free_blocks_are_new}
use Rattle.draft_changes.proofs.Views.{groups_are_listed}
use Rattle.directory_changes.proofs.Grown.{growing_makes}
use Rattle.group_locks.proofs.Locks.{groups_break_nothing}
use Rattle.name_drafts.specs.Holds as locks
use Rattle.name_drafts.specs.Holds.{Hold, AreHeld, IsAskedFor, IsFirstLack, hold_for, hold_of, holds, hold_of_group}
use Rattle.name_drafts.specs.Walks.{LeadsTo, IsLastOf, LacksName}
use Rattle.name_drafts.specs.walk.Place.{Place}
use Rattle.name_drafts.proofs.Asked.{IsAmong, unread_absent}
use Rattle.name_drafts.proofs.Images.{is_inode, says_none, shown_inode, sound_directory}
use Rattle.name_drafts.proofs.Wants.{exclusive}
use Rattle.name_drafts.proofs.Longer.{asked_before, asked_behind, lack_behind}
use Rattle.room_search.specs.Blocks.{free_for, free_in_all, group_holds, group_of_node, states_by}
use Rattle.room_search.specs.Searches.{IsGroupBlock, IsUnder}
use Rattle.room_search.specs.declared.search.Locked.{Locked}
use Rattle.room_search.specs.declared.search.Locked.TheVariants as locked
use Rattle.room_search.proofs.Holds.{block_under, held_before}
use Rattle.room_search.proofs.InImage.{all_said, are_shown, blocks_said, group_asked, said_free}
use Rattle.room_search.proofs.Room.{all_listed, one_of}
use Rattle.name_drafts.specs.Inserting.{IsNamed, IsNeededForName, IsWrongForName, SeesForName}
use Rattle.name_drafts.specs.Need.{name_need}
use Rattle.name_drafts.specs.Way.{IsOnWay, its_dinode, its_leaf, its_pointer}
use Rattle.name_drafts.specs.Drafting.{GrowsInto, HasLinearRoom, IsAddition, IsNeededIn, IsPlaceFor, IsPutUnder, IsWrongIn, entry_for, new_tree}
use Rattle.name_drafts.specs.Drafting as drafting
use Rattle.name_drafts.proofs.SeenPaths.{path_seen}
use Rattle.making_calls.specs.Blocks.{block_holds, first_of, new_holds}
use Rattle.making_calls.specs.Making.{HasGotName, IsMaking, IsNeededFor, IsReachedIn, IsTooFew, TakesForName, blocks_needed, call_holds, directory_path, makes_directory, name_in, need_at, path_holds}
use Rattle.making_calls.specs.Making as damage
use Rattle.making_calls.specs.Searches.{IsTaken, blocks_of}
use Rattle.making_calls.specs.declared.blocks.Room.{Room}
use Rattle.making_calls.specs.declared.blocks.NewRoom.{NewRoom}
use Rattle.making_calls.specs.declared.blocks.NewRoom.TheVariants as taken
use Rattle.making_calls.proofs.At.{own_name, whole_path}
use Rattle.making_calls.proofs.Holds.{first_is}
use Rattle.making_calls.proofs.Inside.{among_held, insert_asked, none_wrong}
use Rattle.making_calls.proofs.Rooms.{IsHeldRoom, IsSearched, dinode_inside, distinct, new_are, own_of}
use Rattle.making_calls.proofs.Trees.{changes, takes, taken_list}
use Rattle.making_calls.proofs.Under.{change_at, directory_listed, each_lock}
use Rattle.making_calls.proofs.Wanted.{directory_held}

-- a block that is needed isn't there
pub needed_absent : (v : Seen) (c : Call) (m : Missing) → IsNeededFor v c m → v.block_at m.block ≡ None
needed_absent v c m (damage.on_path unread) = unread_absent v (wanted c) (directory_path c) m unread
needed_absent v c m (damage.to_look a below leads there directory absent needs) = absent
needed_absent v c m (damage.to_insert gets absent needs) = absent
needed_absent v c m (damage.of_group gets needed) = needed.missing.absent

-- of a list the front that is as long is the list
whole_front : (rest taken left : List ℕ) → rest ≡ taken ++ left → length taken ≡ length rest → taken ≡ rest
whole_front rest taken left front long =
    let none : left ≡ [] = nil_from_length left (omega (arith, long, ap length front, length-append taken left)) in
    sym (front ∙ ap (λ xs. taken ++ xs) none ∙ append-nil taken)

-- what was taken is of what was found
in_front : (block : ℕ) (rest taken left : List ℕ) → rest ≡ taken ++ left → (b : ℕ) → Contains (block ∷ taken) b → Contains (block ∷ rest) b
in_front block rest taken left front b there = subst (λ xs. Contains (block ∷ xs) b) (sym front) (Contains-append_left (block ∷ taken) left b there)

-- the directory's lock is held, so what is asked for of it is asked for under it
pub own_among_of : (v : Seen) (im : Image) (o : Owners) (l : Layout) (t : Tree) → IsOf v im o l t → (c : Call) (name : List ℕ) → IsMaking c → IsLastOf (path_of c false) name → (p : Place) → IsReachedIn v im o l c p
    → IsAmong v (path_holds im o l c) p.inode
own_among_of v im o l t of c name is last p reached = among_held v (path_holds im o l c) p.inode Ex (directory_listed im o l c name is last p.inode reached.place.at) reached.held

module _ (v : Seen) (c : Call) (is : IsMaking c) (p : Place) (name : List ℕ) (last : IsLastOf (path_of c false) name) (named : IsName name) (lacks : LacksName v p.inode name) where
  module _ (im : Image) (o : Owners) (l : Layout) (t : Tree) (of : IsOf v im o l t) (reached : IsReachedIn v im o l c p) where
    abbrev dir : Holding
    dir = holding im o p.inode

    shown : IsShown v p.inode dir
    shown = shown_inode v im o l t of (directory_path c) p.inode reached.place.at

    here : is_directory_in dir ≡ true
    here = lacks.directory dir shown.inode

    absent : child_named (records_of dir) name ≡ None
    absent = says_none v im o l t of (directory_path c) p.inode name reached.place.at here (lacks.absent dir shown)

    sound : IsSound dir
    sound = sound_directory v im o l t of (directory_path c) p.inode reached.place.at here

    -- the tree takes the call
    pub taken_so : apply c t ≡ record { reply = Ok; tree = put_at (path_of c false) (new_tree (makes_directory c)) t }
    taken_so = takes v im o l t of c name is last p.inode reached.place.at here named absent

    pub reply_ok : (apply c t).reply ≡ Ok
    reply_ok = ap (λ (x : Answer). x.reply) taken_so

    pub inside_so : HasDataBlock v p.inode
    inside_so = dinode_inside v im o l t of p.inode (is_inode v im o l t of (directory_path c) p.inode reached.place.at)

    -- nothing is damaged
    pub name_sound : (rule b : ℕ) → ((h : Holding) → IsShown v p.inode h → IsWrongForName v h rule b) → ⊥
    name_sound rule b wrong = none_wrong v im o l t of (directory_path c) p.inode reached.place.at here rule b (wrong dir shown)

    pub addition_sound : (blocks : List ℕ) (rule b : ℕ) → IsWrongIn v p.inode blocks rule b → ⊥
    addition_sound blocks rule b (drafting.IsWrongIn.in_directory r d wrong) = name_sound r d wrong
    addition_sound blocks rule b (drafting.IsWrongIn.in_group r d breaks) = groups_break_nothing v im o l t blocks r d of breaks

    own_among : IsAmong v (path_holds im o l c) p.inode
    own_among = own_among_of v im o l t of c name is last p reached

    pub insert_lacks : (node : ℕ) (m : Missing) → ((h : Holding) → IsShown v p.inode h → IsNeededForName v h name m) → IsAskedFor v im o l (call_holds im o l t c node) m
    insert_lacks node m needs = asked_before v im o l (path_holds im o l c) _ m
        (insert_asked v im o l t of (directory_path c) p.inode reached.place.at here (path_holds im o l c) own_among name m (needs dir shown))

    module _ (more : ℕ) (for_name : TakesForName v p.inode name more) (node : ℕ) (some : 1 ≤ length v.groups) (first : 1 ≤ node) where
      more_is : more ≡ name_need dir name
      more_is = for_name.sound dir shown sound here

      pub need_so : more + 1 ≡ blocks_needed im o l c
      need_so = ap (λ n. n + 1) (more_is ∙ sym (ap (name_need dir) (own_name c name last))) ∙ sym (ap (λ x. need_at im o (name_in c) x + 1) reached.place.at)

      own : (own : Group) × (group_of_node v.groups node ≡ Some own) × HasGroup v own
      own = own_of v node some first

      abbrev new : List Hold
      new = block_holds (said im.at) v.groups own.0 (more + 1)

      new_same : new_holds o l node (blocks_needed im o l c) ≡ new
      new_same = ap (new_holds o l node) (sym need_so) ∙ new_are v im o l t of node (more + 1) own.0 own.1 own.2

      whole : call_holds im o l t c node ≡ path_holds im o l c ++ new
      whole = taken_list im o l t c node (ap is_ok reply_ok) ∙ ap (λ xs. path_holds im o l c ++ xs) new_same

      found_here : (r : Locked NewRoom) → IsSearched v node (more + 1) r → IsUnder v new (IsTaken v (said im.at) own.0 (more + 1)) r
      found_here r searched = searched im.at own.0 (are_shown v im o l t of) own.1

      pub lock_lacks : (lock : LockName) (state : State) → IsSearched v node (more + 1) (locked.NeedLock lock state) → IsFirstLack v (call_holds im o l t c node) lock state
      lock_lacks lock state searched = subst (λ list. IsFirstLack v list lock state) (sym whole) (lack_behind v (path_holds im o l c) new lock state reached.held (found_here (locked.NeedLock lock state) searched))

      asked_so : (m : Missing) → IsGroupBlock v new m → IsAskedFor v im o l (call_holds im o l t c node) m
      asked_so m missing = subst (λ list. IsAskedFor v im o l list m) (sym whole) (asked_behind v im o l (path_holds im o l c) new m reached.held (group_asked v im o l t of new m missing))

      pub block_lacks : (m : Missing) → IsSearched v node (more + 1) (locked.NeedBlock m) → IsAskedFor v im o l (call_holds im o l t c node) m
      block_lacks m searched = asked_so m (found_here (locked.NeedBlock m) searched)

      pub too_few : LeadsTo v (wanted c) (directory_path c) p.inode → (free : ℕ) → IsSearched v node (more + 1) (locked.Is (taken.TooFew free)) → IsTooFew v im o l t c (more + 1) free
      too_few leads free searched =
          let f = found_here (locked.Is (taken.TooFew free)) searched in
          record {
            taken = reply_ok;
            directory = p.inode;
            at = reached.place.at;
            on_path = reached.held;
            seen = path_seen v im o l t of (wanted c) (directory_path c) p.inode leads reached.place.there;
            looked = subst (SeesForName v dir) (sym (own_name c name last)) (for_name.looked dir shown);
            groups = subst (λ gs. AreHeld v (map hold_of_group gs)) (sym of.groups)
                (all_listed v (said im.at) (own.0 ∷ []) (more + 1) f.1.fewer_first (held_before v (group_holds (said im.at) v.groups own.0 (more + 1)) _ f.0));
            needs = need_so;
            free_are = f.1.free_are ∙ ap (λ gs. length (free_in_all (said im.at) gs)) (sym of.groups) ∙ ap length (all_said v im o l t of);
            fewer = f.1.fewer;
          }

      module _ (view : IsView v) (r : Room) (searched : IsSearched v node (more + 1) (locked.Is (taken.Is r))) where
        room_found : IsUnder v new (IsTaken v (said im.at) own.0 (more + 1)) (locked.Is (taken.Is r))
        room_found = found_here (locked.Is (taken.Is r)) searched

        abbrev groups : List Hold
        groups = group_holds (said im.at) v.groups own.0 (more + 1)

        pub all_held : AreHeld v (call_holds im o l t c node)
        all_held = subst (AreHeld v) (sym whole) (All-append (λ h. holds v h ≡ true) (path_holds im o l c) new reached.held room_found.0)

        -- the lock of a group that has some of the blocks is of the list
        listed_group : (k : Group) (b : ℕ) → HasGroup v k → Contains (blocks_of r) b → IsDataOf k b → Contains groups (hold_of_group k)
        listed_group k b has there lies =
            let e = room_found.1.room.each b there in
            subst (λ g. Contains groups (hold_of_group g)) (one_group v b e.group k view e.has e.data_block has lies) e.listed

        pub addition_lacks : (m : Missing) → IsNeededIn v p.inode name (blocks_of r) m → IsAskedFor v im o l (call_holds im o l t c node) m
        addition_lacks m (drafting.IsNeededIn.in_directory away needs) = insert_lacks node m needs
        addition_lacks m (drafting.IsNeededIn.in_group asks) =
            asked_so m (block_under v new asks.0 m room_found.0 (Contains-append_left groups _ (hold_of_group asks.0) (listed_group asks.0 asks.2.0 asks.1 asks.2.1 asks.2.2)) asks.1 asks.2.3.block)

        long : length r.rest.items ≡ name_need dir name
        long = omega (arith, room_found.1.room.many, more_is)

        pub placed : IsPlaceFor im o l (directory_path c) name p r.new r.rest.items
        placed = record {
          at = reached.place.at;
          directory = here;
          dinode = reached.place.dinode;
          absent = absent;
          free = λ b there. said_free v im o l t of groups b (room_found.1.room.each b there);
          once = distinct (blocks_of r) (rising (blocks_of r) room_found.1.room.rise);
          as_many = long;
        }

        -- none of them is on the way to the name
        pub way_apart : (b : ℕ) → Contains (blocks_of r) b → IsOnWay dir name b → ⊥
        way_apart b there on = true≢false (sym (has b on new_block.1) ∙ ap is_some (new_block.0 p.inode))
          where
            new_block : ((a : ℕ) → (holding im o a).cell b ≡ None) × (b ≢ 0) × (b < im.count)
            new_block = free_blocks_are_new im o l b of.stands.laid (placed.free b there)

            has : (x : ℕ) → IsOnWay dir name x → x ≢ 0 → IsSome (dir.cell x)
            has x (its_dinode is) some = subst (λ y. IsSome (dir.cell y)) (sym is) shown.inode.dinode
            has x (its_pointer hashed below is) some = shown.inode.led_to below.0 below.1 below.2 below.3 x below.4
            has x (its_leaf place hashed chain) some = shown.leaves hashed (index_for dir name) place x chain some

        -- the locks that the change touches are of the list
        pub under : {time : ℕ} (change : Change) → IsAddition v (makes_directory c) p name r.new r.rest.items time change → locks.IsUnder o (call_holds im o l t c node) change
        under change added = subst (λ list. locks.IsUnder o list change) (sym whole) (record {
          written = each_lock added.fates change added.finished (λ lock. Contains (path_holds im o l c ++ new) (record { lock = lock; state = Ex }))
              (λ b lock plain bytes put. contained (record { lock = lock; state = Ex }) (path_holds im o l c ++ new) (listed b lock (added.locks b lock plain bytes put)));
          freed = λ b a gone its. absurd (true≢false (sym gone ∙ (finish_makes added.fates change added.finished).gone b ∙ added.none_freed b));
        })
          where
            last_one : List Hold
            last_one = hold_for (first_of (more + 1) (free_for (said im.at) v.groups own.0 (more + 1))) Ex

            listed : (b : ℕ) (lock : LockName) → IsPutUnder v p r.new added.taken b lock → IsIn (record { lock = lock; state = Ex }) (path_holds im o l c ++ new)
            listed b lock (drafting.IsPutUnder.of_group k has of_them says e) =
                in_right (record { lock = lock; state = Ex }) (path_holds im o l c) new (in_left (record { lock = lock; state = Ex }) groups last_one
                (subst (λ n. IsIn (record { lock = n; state = Ex }) groups) (sym e) (is_in (hold_of_group k) groups
                (listed_group k of_them.0 has (in_front r.new.block r.rest.items added.taken added.left added.front of_them.0 of_them.1) of_them.2))))
            listed b lock (drafting.IsPutUnder.of_directory at e) =
                in_left (record { lock = lock; state = Ex }) (path_holds im o l c) new
                (subst (λ k. IsIn (record { lock = k; state = Ex }) (path_holds im o l c)) (sym e) (directory_listed im o l c name is last p.inode reached.place.at))
            listed b lock (drafting.IsPutUnder.of_inode at e) =
                in_right (record { lock = lock; state = Ex }) (path_holds im o l c) new (in_right (record { lock = lock; state = Ex }) groups last_one
                (subst (λ k. IsIn (record { lock = k; state = Ex }) last_one) (sym e) (subst (λ x. IsIn (hold_of r.new.block Ex) (hold_for x Ex)) (sym (first_is v (said im.at) own.0 (more + 1) r room_found.1)) (inl refl))))

        its_group : (g : Rindex) × IsListed l.groups g × (r.new.group ≡ group_of_entry g)
        its_group = (groups_are_listed v im o l t r.new.group of).0 room_found.1.has

        block_inside : r.new.block < im.count
        block_inside =
            let within : IsDataOf (group_of_entry its_group.0) r.new.block = subst (λ k. IsDataOf k r.new.block) its_group.2 room_found.1.data_block in
            let fits : owned.GroupFits im its_group.0 = of.stands.laid.fit.each its_group.0 its_group.1 in
            omega (arith, within.high, fits.inside)

        module _ {time : ℕ} (change : Change) (added : IsAddition v (makes_directory c) p name r.new r.rest.items time change) where
          abbrev entry : Entry
          entry = entry_for (makes_directory c) added.number r.new.block

          -- the directory has got the name, in the rest of the blocks
          got : HasGotName (with_change im change) name entry time r.rest.items dir
          got =
              let grown = added.adds im o l t (directory_path c) of placed in
              let into : GrowsInto v added.fates name entry time added.taken dir grown.0 = grown.2 in
              let all : added.taken ≡ r.rest.items = whole_front r.rest.items added.taken added.left added.front (into.few ∙ sym long) in
              record {
                named = into.named;
                gets = subst (IsNamed name entry dir into.named) all into.gets;
                few = long;
                now = grown.0;
                touched = into.touched;
                there = subst (λ (i : Image). HoldsThere i p.inode grown.0) (sym ((finish_makes added.fates change added.finished).image im)) grown.1.there;
              }

          abbrev above_entry : ℕ → Entry
          above_entry n = record { number = n; addr = p.inode; kind = 4 }

          -- the new inode is in the first of the blocks, byte by byte
          pub made : damage.IsMade im o l c node time change
          made = record {
            directory = p.inode;
            at = reached.place.at;
            own = own.0;
            of_node = ap (λ gs. group_of_node gs node) of.groups ∙ own.1;
            block = r.new.block;
            rest = r.rest.items;
            first = room_found.1.room.are ∙ blocks_said v im o l t of (own.0 ∷ []) (more + 1) (one_of v own.0 own.2) ∙ ap (free_for (states_by o) (map group_of_entry l.groups) own.0) need_so;
            group = r.new.group;
            listed = subst (λ gs. Contains gs r.new.group) (sym of.groups) room_found.1.has;
            data_block = room_found.1.data_block;
            number = added.number;
            next = added.next im.at (are_shown v im o l t of r.new.group room_found.1.has);
            counted = added.counted im.at (with_change im change).at (are_shown v im o l t of r.new.group room_found.1.has)
                (change_at added.fates change added.finished im r.new.group.addr (group_lock r.new.group) added.header added.header_put);
            is = subst₂ (λ above bytes. drafting.IsNewInode (makes_directory c) above added.number r.new.block time (alone im.size im.count r.new.block bytes))
                (ap (λ (d : Dinode). above_entry d.num.number) reached.place.dinode)
                (sym (change_at added.fates change added.finished im r.new.block (inode_lock r.new.block) added.bytes added.put))
                (subst (λ size. drafting.IsNewOf (makes_directory c) p added.number r.new.block time (alone size im.count r.new.block added.bytes)) (sym of.size) (added.new im.count block_inside));
            gets = λ room. gets_record (subst (HasLinearRoom dir) (own_name c name last) room);
            got = subst (λ n. HasGotName (with_change im change) n entry time r.rest.items dir) (sym (own_name c name last)) got;
          }
            where
              gets_record : HasLinearRoom dir name → drafting.GetsRecord (im.at p.inode) ((with_change im change).at p.inode) (name_in c) entry time
              gets_record room =
                  subst (λ n. drafting.GetsRecord (im.at p.inode) ((with_change im change).at p.inode) n entry time) (sym (own_name c name last))
                  (subst₂ (λ old new. drafting.GetsRecord old new name entry time) (own_block im o p.inode (is_inode v im o l t of (directory_path c) p.inode reached.place.at))
                  (sym (change_at added.fates change added.finished im p.inode (inode_lock p.inode) added.parent_bytes added.parent_put))
                  (added.gets dir shown room))

          -- and the directory has the time
          pub stamped : damage.IsStamped im o l c time change
          stamped = (
            p.inode,
            reached.place.at,
            subst (λ b. drafting.HasTimes (dinode_of b) time) (sym (change_at added.fates change added.finished im p.inode (inode_lock p.inode) added.parent_bytes added.parent_put)) added.times,
          )

  -- ---- as far as the view shows

  module _ (leads : LeadsTo v (wanted c) (directory_path c) p.inode) (node more : ℕ) (view : IsView v) (some : 1 ≤ length v.groups) (first : 1 ≤ node) (r : Room) (room : IsHeldRoom v node (more + 1) view some first r)
      {time : ℕ} (change : Change) (added : IsAddition v (makes_directory c) p name r.new r.rest.items time change) where
    all_exclusive : (b : ℕ) (lock : LockName) (plain : Bool) (bytes : List ℕ) → get added.fates b ≡ Some (Put lock plain bytes) → v.state_of lock ≡ Ex
    all_exclusive b lock plain bytes put = elim (added.locks b lock plain bytes put) [
      | drafting.IsPutUnder.of_group k has of_them says e ↦
          let h = room.each of_them.0 (in_front r.new.block r.rest.items added.taken added.left added.front of_them.0 of_them.1) in
          ap v.state_of e ∙ exclusive (v.state_of (group_lock k)) (subst (λ g. holds v (hold_of_group g) ≡ true) (one_group v of_them.0 h.group k view h.has h.data_block has of_them.2) h.held)
      | drafting.IsPutUnder.of_directory at e ↦ ap v.state_of e ∙ directory_held v c name p.inode is last leads
      | drafting.IsPutUnder.of_inode at e ↦ ap v.state_of e ∙ exclusive (v.state_of (inode_lock r.new.block)) room.inode_held
    ]

    header_is_put : is_put added.fates r.new.group.addr ≡ true
    header_is_put = ap (λ f. is_some (block_with f None)) added.header_put

    pub addition_does : ((im : Image) (o : Owners) (l : Layout) (t : Tree) → IsOf v im o l t → IsReachedIn v im o l c p)
        → ((im : Image) (o : Owners) (l : Layout) (t : Tree) → IsOf v im o l t → IsPlaceFor im o l (directory_path c) name p r.new r.rest.items) → Does v c Ok change
    addition_does reached place =
        drafts_do v c Ok added.fates change added.finished (changes c is) r.new.group.addr header_is_put (λ im o l t of. all_exclusive)
        (λ im o l t of. let grown = added.adds im o l t (directory_path c) of (place im o l t of) in
        growing_makes v c added.fates im o l t (directory_path c) p.inode name r.new.block (new_tree (makes_directory c)) grown.0 added.taken of (reached im o l t of).place.at grown.1
        (taken_so im o l t of (reached im o l t of) ∙ ap (λ q. record { reply = Ok; tree = put_at q (new_tree (makes_directory c)) t }) (sym (whole_path c name last))))
