-- The draft that moves a name: two directories of any form, or one; the inode, where it gets another parent; what stood at the new name; and the groups.
use Rattle.std.specs.Prelude.{ℕ, ◌≡◌, ◌≢◌, ◌⊎◌, ◌↔◌, ◌==◌, ◌&&◌, not, Bool, true, false, is_some, IsSome, List, [], ◌∷◌, ◌++◌, length, codes, Contains, Option, None, Some}
use Rattle.std.specs.Option.{option_copied}
use Rattle.std.specs.Ordering.{nat_cmp}
use Rattle.std.specs.FinMap.{FinMap, get}
use Rattle.drafts.specs.Fates.{AreWhole, seen_with}
use Rattle.drafts.specs.declared.change.Change.{Change}
use Rattle.drafts.specs.declared.fate.Fate.{Fate}
use Rattle.drafts.specs.declared.fate.Fate.TheVariants.{Put}
use Rattle.file_tree.specs.Names.{IsName}
use Rattle.file_tree.specs.Tree.{Tree}
use Rattle.gfs2_layout.specs.Holding.{Holding, Itself, bytes_at, part_at}
use Rattle.gfs2_layout.specs.Inode.{dinode_in, records_of}
use Rattle.gfs2_layout.specs.Records.{child_named}
use Rattle.gfs2_layout.specs.Structures.{is_directory}
use Rattle.gfs2_layout.specs.declared.inum.Inum.{Inum}
use Rattle.glock_names.specs.Views.{Seen, HasBlock, HasGroup}
use Rattle.glock_names.specs.declared.LockName.{LockName}
use Rattle.glock_names.specs.declared.steps.Entry.{Entry}
use Rattle.glock_names.specs.declared.steps.Missing.{Missing}
use Rattle.glock_names.specs.declared.views.Group.{Group}
use Rattle.dinode_tree.specs.Reading.{inode_lock}
use Rattle.dinode_tree.specs.Shown.{IsAsSeen}
use Rattle.dinode_tree.specs.Shown as inodes
use Rattle.linear_dirs.specs.Exchanges.{HasExchanged}
use Rattle.linear_dirs.specs.Shown.{holding_over, record_for}
use Rattle.hash_dirs.specs.Shown.{IsSound}
use Rattle.directories.specs.Shown.{HasName, IsBroken, IsDirectoryIn, IsShown, Says}
use Rattle.directories.specs.Shown as dirs
use Rattle.directories.specs.Taking.{HasNameIn}
use Rattle.resource_groups.specs.Freeing.{BreaksSome, HasSome, SaysStateOfSome}
use Rattle.resource_groups.specs.Freeing as freeing
use Rattle.resource_groups.specs.Putting.{ArePutIn, HasDataBlock, overlaid}
use Rattle.resource_groups.specs.Shown.{IsHeaderOf, group_lock}
use Rattle.resource_groups.specs.Shown as group
use Rattle.growth_drafts.specs.Taken.{IsDistinct}
use Rattle.image_model.specs.Flat.{Path}
use Rattle.image_model.specs.Image.{Image}
use Rattle.image_model.specs.Owners.{Owners, holding}
use Rattle.image_model.specs.Stands.{Layout}
use Rattle.image_changes.specs.Changes.{cover, is_free}
use Rattle.image_changes.specs.Does.{AreInside, IsOf, is_content_of}
use Rattle.image_changes.specs.Drafted.{IsFinished, is_freed, is_put}
use Rattle.image_changes.specs.Flats.{in_directory}
use Rattle.image_changes.specs.Instances.{IsAt, IsChildless, dinode_at, is_directory_at}
use Rattle.draft_changes.specs.Resizing.{IsSaidFree}
use Rattle.directory_changes.specs.Moving.{MovesName}
use Rattle.name_drafts.specs.walk.Place.{Place}
use Rattle.name_drafts.specs.Inserting.{CanGetName, IsNamedAt, IsNeededForName, IsWrongForName}
use Rattle.name_drafts.specs.Need.{name_need}
use Rattle.name_moves.specs.declared.drafting.NameMove.{NameMove}
use Rattle.name_moves.specs.Becoming.{GetsName, GetsParent, GivesName, IsAfter, IsAtRecord, IsLostAt, IsStamped, LosesAll, losses}

-- ---- what is to be moved

-- A name of a directory, the directory that is to get it by a new name, the inode to which it leads, and the blocks of what stands at the new name, if something does.
pub record Move : Type 0 where
  pub from : ℕ
  pub name : List ℕ
  pub to : Place
  pub new_name : List ℕ
  pub moved : Place
  pub replaced : Option (List ℕ)

-- as the code has it
abbrev pub move_of : NameMove → Move
move_of m = record {
  from = m.from;
  name = m.name.now;
  to = m.to;
  new_name = m.new_name.now;
  moved = m.moved;
  replaced = option_copied m.replaced;
}

-- something stands at the new name
abbrev pub is_replacing : Move → Bool
is_replacing m = is_some m.replaced

-- both names are in one directory
abbrev pub is_within : Move → Bool
is_within m = m.from == m.to.inode

-- the inode is a directory that gets another parent
abbrev pub is_reparented : Move → Bool
is_reparented m = is_directory m.moved.dinode && not (is_within m)

abbrev pub blocks_or_none : Option (List ℕ) → List ℕ
blocks_or_none None = []
blocks_or_none (Some blocks) = blocks

-- the blocks that go with what stood at the new name
abbrev pub freed_by : Move → List ℕ
freed_by m = blocks_or_none m.replaced

-- the names that go from the directory that gets the new one, before that comes
abbrev pub lost_there : Move → List (List ℕ)
lost_there m = losses (is_replacing m) (is_within m) m.name m.new_name

-- where the new name leads: to the inode, with the kind that the old name told
abbrev pub entry_for : Move → Entry → Entry
entry_for m old = record { number = m.moved.dinode.num.number; addr = m.moved.inode; kind = old.kind }

-- where `..` of a directory that moves leads then
abbrev pub parent_of : Move → Inum
parent_of m = record { number = m.to.dinode.num.number; address = m.to.inode }

-- the block is the dinode's of one of the directories or of the inode, or goes with what stands at the new name
pub data IsPlaceOfMove (m : Move) (b : ℕ) : Type 0 where
  of_source : b ≡ m.from → IsPlaceOfMove m b
  of_target : b ≡ m.to.inode → IsPlaceOfMove m b
  of_inode : b ≡ m.moved.inode → IsPlaceOfMove m b
  of_replaced : Contains (freed_by m) b → IsPlaceOfMove m b

-- what a dinode says in a block of the view is what the place tells
abbrev pub IsRead : Seen → Place → Type 0
IsRead v p = (h : Holding) → inodes.IsShown v p.inode h → p.dinode ≡ dinode_in h

-- As the view shows it, the directories are some, and have the names that go: the old one, which leads to the inode, the new one where something stands there, and
-- `..` in one that gets another parent. All of them lie in groups, and so does what goes. The inode is neither of the directories, and a name isn't moved
-- onto itself. What was read is what the dinodes say, and these have numbers.
pub record CanBeMoved (v : Seen) (m : Move) : Type 0 where
  pub source_there : HasBlock v m.from
  pub source : IsDirectoryIn v m.from
  pub named : (h : Holding) → IsShown v m.from h → HasName h m.name m.moved.inode
  pub target_there : HasBlock v m.to.inode
  pub target : IsDirectoryIn v m.to.inode
  pub taken : is_replacing m ≡ true → HasNameIn v m.to.inode m.new_name
  pub lacks : is_replacing m ≡ false → (h : Holding) → IsShown v m.to.inode h → Says h m.new_name None
  pub is_name : IsName m.new_name
  pub other : is_within m ≡ true → m.name ≢ m.new_name
  pub inode_there : HasBlock v m.moved.inode
  pub parented : is_reparented m ≡ true → HasNameIn v m.moved.inode (codes "..")
  pub target_read : IsRead v m.to
  pub inode_read : IsRead v m.moved
  pub target_number : m.to.dinode.num.number ≢ 0
  pub inode_number : m.moved.dinode.num.number ≢ 0
  pub inside : (b : ℕ) → IsPlaceOfMove m b → HasDataBlock v b
  pub apart : (m.moved.inode ≢ m.from) × (m.moved.inode ≢ m.to.inode)
  pub others : (b : ℕ) → Contains (freed_by m) b → (b ≢ m.from) × (b ≢ m.to.inode) × (b ≢ m.moved.inode)

-- ---- the change

-- A block that is put is the header of a group that has some of the taken or freed blocks, or has the bits of some, under the group's lock; or it is one of
-- the directory that loses the name, of that which gets it, or of the inode, each under its own lock.
pub data IsPutUnder (v : Seen) (m : Move) (taken : List ℕ) (b : ℕ) (lock : LockName) : Type 0 where
  of_group : (g : Group) → HasGroup v g → HasSome g (taken ++ freed_by m) → SaysStateOfSome v.size g (taken ++ freed_by m) b → lock ≡ group_lock g → IsPutUnder v m taken b lock
  of_source : is_within m ≡ false → (b ≡ m.from) ⊎ HasDataBlock v b → lock ≡ inode_lock m.from → IsPutUnder v m taken b lock
  of_target : (b ≡ m.to.inode) ⊎ (Contains taken b ⊎ HasDataBlock v b) → lock ≡ inode_lock m.to.inode → IsPutUnder v m taken b lock
  of_inode : is_reparented m ≡ true → (b ≡ m.moved.inode) ⊎ HasDataBlock v b → lock ≡ inode_lock m.moved.inode → IsPutUnder v m taken b lock

abbrev pub PutsUnder : Seen → FinMap nat_cmp Fate → Move → List ℕ → Type 0
PutsUnder v fates m taken = (b : ℕ) (lock : LockName) (plain : Bool) (bytes : List ℕ) → get fates b ≡ Some (Put lock plain bytes) → IsPutUnder v m taken b lock

-- whatever is put is journaled, since it is metadata
abbrev pub AreJournaled : FinMap nat_cmp Fate → Type 0
AreJournaled fates = (b : ℕ) (lock : LockName) (plain : Bool) (bytes : List ℕ) → get fates b ≡ Some (Put lock plain bytes) → plain ≡ false

-- Of a group's blocks: the bits say of the taken ones that they are in use, then of the freed ones that they are free, of each other block what they said, and
-- the header's counts follow.
pub record SaysMoved (at at' : ℕ → List ℕ) (taken freed : List ℕ) (g : Group) : Type 0 where
  pub first : ℕ → List ℕ
  pub takes : ArePutIn at first g taken 1
  pub frees : ArePutIn first at' g freed 0

-- no block of the inode is one of these, nor has a group's header or bits
pub record IsClearOf (v : Seen) (m : Move) (room : List ℕ) (h : Holding) : Type 0 where
  pub not_taken : (b : ℕ) → IsSome (h.cell b) → ¬ (Contains room b)
  pub not_freed : (b : ℕ) → IsSome (h.cell b) → ¬ (Contains (freed_by m) b)
  pub not_header : (k : Group) (b : ℕ) → IsSome (h.cell b) → HasGroup v k → ¬ (IsHeaderOf k b)

-- two inodes have no block in common
abbrev pub ShareNone : Holding → Holding → Type 0
ShareNone h g = (b : ℕ) → IsSome (h.cell b) → IsSome (g.cell b) → ⊥

-- The directory that has the name, the one that gets it, and the inode, as the view shows them: the directories, and the inode where it is one that gets another
-- parent, are sound; none has a block of another, nor one that may be taken, that goes, or that is a group's; and the one that gets the name can do so.
pub record AreApart (v : Seen) (m : Move) (room : List ℕ) (source target inode : Holding) : Type 0 where
  pub source_shown : is_within m ≡ false → IsShown v m.from source
  pub source_sound : is_within m ≡ false → IsSound source
  pub source_clear : is_within m ≡ false → IsClearOf v m room source
  pub target_shown : IsShown v m.to.inode target
  pub target_sound : IsSound target
  pub target_clear : IsClearOf v m room target
  pub inode_shown : is_reparented m ≡ true → IsShown v m.moved.inode inode
  pub inode_sound : is_reparented m ≡ true → IsSound inode
  pub inode_clear : IsClearOf v m room inode
  pub source_target : is_within m ≡ false → ShareNone source target
  pub source_inode : is_within m ≡ false → ShareNone source inode
  pub target_inode : ShareNone target inode
  -- the directory can get the name once the records are gone
  pub can : (k : Holding) → LosesAll (lost_there m) target k → CanGetName k m.new_name room

-- what the draft leaves of a directory that keeps its blocks
abbrev pub then_of : Seen → FinMap nat_cmp Fate → Holding → Holding
then_of v fates h = holding_over (seen_with v fates) h

-- A block to which something is done, that is none of a group's and doesn't go: one of the directory that loses the name, for that; one of the directory that gets
-- it, for the names that go from it, for the new one, or for the time; one of a directory that gets another parent, for its `..`.
pub data IsMovedAt (m : Move) (source target inode without named : Holding) (taken : List ℕ) (b : ℕ) : Type 0 where
  it_gives : is_within m ≡ false → IsAtRecord source m.name b → IsMovedAt m source target inode without named taken b
  it_loses : IsLostAt (lost_there m) target b → IsMovedAt m source target inode without named taken b
  it_gets : IsNamedAt without named m.new_name taken b → IsMovedAt m source target inode without named taken b
  its_time : b ≡ target.own → IsMovedAt m source target inode without named taken b
  its_parent : is_reparented m ≡ true → IsAtRecord inode (codes "..") b → IsMovedAt m source target inode without named taken b

-- The directories afterwards: one loses the name, where that moves to another one; the one that gets it has the blocks that it had and the taken ones, and one
-- that is left has the bytes that it had; a directory that gets another parent names that; the dinode of each is put with the time; of an inode that keeps its
-- parent nothing becomes; and nothing is put that need not be.
pub record Becomes (v : Seen) (m : Move) (fates : FinMap nat_cmp Fate) (old : Entry) (taken : List ℕ) (time : ℕ) (source target inode : Holding) : Type 0 where
  pub gives : is_within m ≡ false → GivesName source (then_of v fates source) m.name time
  pub after : Holding
  pub gets : GetsName (lost_there m) target after m.new_name (entry_for m old) taken time
  pub size : after.size ≡ target.size
  pub count : after.count ≡ target.count
  pub own : after.own ≡ target.own
  pub itself : (b : ℕ) → (part_at after b ≡ Some Itself) ↔ (b ≡ after.own)
  pub exchanged : HasExchanged gets.without after [] (record_for m.new_name (entry_for m old) ∷ [])
  pub seen : IsAsSeen (seen_with v fates) after
  pub left : (b : ℕ) → get fates b ≡ None → IsSome (after.cell b) → IsSome (target.cell b) × (bytes_at after b ≡ bytes_at target b)
  pub blocks : (b : ℕ) → IsSome (after.cell b) ↔ (IsSome (target.cell b) ⊎ Contains taken b)
  pub parent : is_reparented m ≡ true → GetsParent inode (then_of v fates inode) (parent_of m) time
  pub still : is_reparented m ≡ false → (b : ℕ) → IsSome (inode.cell b) → get fates b ≡ None
  pub source_time : is_within m ≡ false → IsStamped fates m.from time
  pub target_time : IsStamped fates m.to.inode time
  pub inode_time : is_reparented m ≡ true → IsStamped fates m.moved.inode time
  pub changes : (b : ℕ) → ((k : Group) → HasGroup v k → ¬ (IsHeaderOf k b)) → ¬ (Contains (freed_by m) b)
      → (get fates b ≡ None) ⊎ IsMovedAt m source target inode gets.without gets.named taken b

-- ---- in an image

-- In the image these are the places of the move: the directories, and the inode to which the name leads, of which this is what its dinode says.
pub record ArePlacesIn (im : Image) (o : Owners) (l : Layout) (path path' : Path) (m : Move) : Type 0 where
  pub source : IsAt im o l path m.from
  pub target : IsAt im o l path' m.to.inode
  pub inode : IsAt im o l (in_directory path m.name) m.moved.inode
  pub directory : is_directory_at im o m.to.inode ≡ true
  pub inode_dinode : m.moved.dinode ≡ dinode_at im o m.moved.inode

-- what stands at the new name: nothing; or an inode that names nothing, and goes with all its blocks
pub data StandsThere (im : Image) (o : Owners) (l : Layout) (path' : Path) (m : Move) : Type 0 where
  nothing : m.replaced ≡ None → child_named (records_of (holding im o m.to.inode)) m.new_name ≡ None → StandsThere im o l path' m
  an_inode : (c : ℕ) (blocks : List ℕ) → m.replaced ≡ Some blocks → IsAt im o l (in_directory path' m.new_name) c → IsChildless im o c
      → ((b : ℕ) → Contains blocks b ↔ IsSome ((holding im o c).cell b)) → StandsThere im o l path' m

-- In the image these are the places of the move; what stands at the new name has these blocks and names nothing; and the room is free, and as much as the
-- name needs once the records are gone.
pub record IsMoveIn (im : Image) (o : Owners) (l : Layout) (path path' : Path) (m : Move) (room : List ℕ) : Type 0 where
  pub source : IsAt im o l path m.from
  pub target : IsAt im o l path' m.to.inode
  pub inode : IsAt im o l (in_directory path m.name) m.moved.inode
  pub directory : is_directory_at im o m.to.inode ≡ true
  pub target_dinode : m.to.dinode ≡ dinode_at im o m.to.inode
  pub inode_dinode : m.moved.dinode ≡ dinode_at im o m.moved.inode
  pub stood : StandsThere im o l path' m
  pub as_many : (without : Holding) → LosesAll (lost_there m) (holding im o m.to.inode) without → length room ≡ name_need without m.new_name
  pub free : (b : ℕ) → Contains room b → IsSaidFree im l b
  pub once : IsDistinct room

-- The change is that of a draft that puts all under these locks and inside the view's groups, and frees the blocks of what stood at the new name and no others.
-- From the front of the room it takes blocks for the directory. What stood at the new name goes first, then the old name, and then the new one comes; each
-- directory that is touched gets the time. In each image that the view may be of it moves the name.
pub record IsMoving (v : Seen) (m : Move) (room : List ℕ) (time : ℕ) (change : Change) : Type 0 where
  pub fates : FinMap nat_cmp Fate
  pub finished : IsFinished fates change
  pub whole : AreWhole v.size fates
  pub taken : List ℕ
  pub left : List ℕ
  pub front : room ≡ taken ++ left
  pub locks : PutsUnder v fates m taken
  pub journaled : AreJournaled fates
  pub frees : (b : ℕ) → (is_freed fates b ≡ true) ↔ Contains (freed_by m) b
  -- what goes isn't put, whatever a step made of it
  pub gone : (b : ℕ) → Contains (freed_by m) b → is_put fates b ≡ false
  -- the dinode of the directory that gets the name is put
  pub puts : is_put fates m.to.inode ≡ true
  pub inside : AreInside v change
  pub says : (at : ℕ → List ℕ) (g : Group) → HasGroup v g → group.IsShown v g at → SaysMoved at (overlaid (seen_with v fates) at) taken (freed_by m) g
  -- where the old name led
  pub old : Entry
  pub old_is : (h : Holding) → IsShown v m.from h → Says h m.name (Some old)
  -- the directories and the inode, where they are apart, as in each image
  pub becomes : (source target inode : Holding) → AreApart v m room source target inode → Becomes v m fates old taken time source target inode
  pub moves : (im : Image) (o : Owners) (l : Layout) (t : Tree) (path path' : Path) → IsOf v im o l t → IsMoveIn im o l path path' m room
      → (becomes : Becomes v m fates old taken time (holding im o m.from) (holding im o m.to.inode) (holding im o m.moved.inode))
      × ((removed : List ℕ) × MovesName im o l fates m.from m.name path' m.to.inode m.new_name m.moved.inode becomes.after taken removed (freed_by m))

-- ---- what stands in the way

-- The view hasn't this block, which is asked for under the lock of the directory in block dir, whatever that is, and isn't content of a file.
pub record IsAskedUnder (v : Seen) (dir : ℕ) (n : Missing) : Type 0 where
  pub absent : v.block_at n.block ≡ None
  pub lock : n.lock ≡ inode_lock dir
  pub plain : n.plain ≡ false

-- a directory of the move, a name that goes from it or is written in it, and the names that go before
pub data IsOneOf (m : Move) : ℕ → List (List ℕ) → List ℕ → Type 0 where
  the_new : is_replacing m ≡ true → IsOneOf m m.to.inode [] m.new_name
  the_old : IsOneOf m m.from [] m.name
  the_old_then : is_replacing m ≡ true → is_within m ≡ true → IsOneOf m m.to.inode (m.new_name ∷ []) m.name
  the_parent : is_reparented m ≡ true → IsOneOf m m.moved.inode [] (codes "..")

-- the view hasn't this block: one without which it isn't told how a name goes from a directory, or comes into one from which names went, or where `..` stands; or
-- one with the header or bits of these blocks
pub data IsNeededIn (v : Seen) (m : Move) (blocks : List ℕ) (n : Missing) : Type 0 where
  to_go : (dir : ℕ) (names : List (List ℕ)) (name : List ℕ) → IsAskedUnder v dir n → IsOneOf m dir names name → IsAfter v dir names (λ k. dirs.IsNeededFor v k name n) → IsNeededIn v m blocks n
  to_come : IsAskedUnder v m.to.inode n → IsAfter v m.to.inode (lost_there m) (λ k. IsNeededForName v k m.new_name n) → IsNeededIn v m blocks n
  in_group : freeing.IsNeededFor v blocks n → IsNeededIn v m blocks n

-- A directory breaks the rule, as a name goes from it or comes into it, or as its `..` is looked for; or a group that has some of these blocks does.
pub data IsWrongIn (v : Seen) (m : Move) (blocks : List ℕ) : ℕ → ℕ → Type 0 where
  to_go : (dir rule b : ℕ) (names : List (List ℕ)) (name : List ℕ) → IsOneOf m dir names name → IsAfter v dir names (λ k. IsBroken v k rule b) → IsWrongIn v m blocks rule b
  to_come : (rule b : ℕ) → IsAfter v m.to.inode (lost_there m) (λ k. IsWrongForName v k rule b) → IsWrongIn v m blocks rule b
  in_group : (rule b : ℕ) → BreaksSome v blocks rule b → IsWrongIn v m blocks rule b

-- ---- what stands in the way as the blocks are counted that the name takes

-- a name that goes from the directory that gets the new one, and those that go before it
pub data GoesThere (m : Move) : List (List ℕ) → List ℕ → Type 0 where
  new_first : is_replacing m ≡ true → GoesThere m [] m.new_name
  old_first : is_replacing m ≡ false → is_within m ≡ true → GoesThere m [] m.name
  old_then : is_replacing m ≡ true → is_within m ≡ true → GoesThere m (m.new_name ∷ []) m.name

-- the view hasn't this block, without which it isn't told how a name goes from the directory that gets the new one, or how that comes in then
pub data IsNeededThere (v : Seen) (m : Move) (n : Missing) : Type 0 where
  to_go : (before : List (List ℕ)) (name : List ℕ) → IsAskedUnder v m.to.inode n → GoesThere m before name → IsAfter v m.to.inode before (λ k. dirs.IsNeededFor v k name n) → IsNeededThere v m n
  to_come : IsAskedUnder v m.to.inode n → IsAfter v m.to.inode (lost_there m) (λ k. IsNeededForName v k m.new_name n) → IsNeededThere v m n

-- that directory breaks the rule, as a name goes from it, or as the new one comes in then
pub data IsWrongThere (v : Seen) (m : Move) : ℕ → ℕ → Type 0 where
  to_go : (rule b : ℕ) (before : List (List ℕ)) (name : List ℕ) → GoesThere m before name → IsAfter v m.to.inode before (λ k. IsBroken v k rule b) → IsWrongThere v m rule b
  to_come : (rule b : ℕ) → IsAfter v m.to.inode (lost_there m) (λ k. IsWrongForName v k rule b) → IsWrongThere v m rule b

-- ---- what is asked for in an image

-- The view hasn't this block of the directory, for which the directory's lock is told: in the image that covers it, and it isn't free, nor content of a file.
pub record IsAskedOf (v : Seen) (im : Image) (o : Owners) (l : Layout) (dir : ℕ) (n : Missing) : Type 0 where
  pub under : IsAskedUnder v dir n
  pub covered : cover l n.block (o n.block) ≡ Some n.lock
  pub used : is_free (o n.block) ≡ false
  pub plain : n.plain ≡ is_content_of im o (o n.block)

-- so of one of the directories, or of the inode where that gets another parent; or it is needed of a group that has some of these blocks
pub data IsAskedIn (v : Seen) (im : Image) (o : Owners) (l : Layout) (m : Move) (blocks : List ℕ) (n : Missing) : Type 0 where
  the_source : IsAskedOf v im o l m.from n → IsAskedIn v im o l m blocks n
  the_target : IsAskedOf v im o l m.to.inode n → IsAskedIn v im o l m blocks n
  the_inode : is_reparented m ≡ true → IsAskedOf v im o l m.moved.inode n → IsAskedIn v im o l m blocks n
  a_group : freeing.IsNeededFor v blocks n → IsAskedIn v im o l m blocks n
