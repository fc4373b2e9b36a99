-- A move that can be made is carried out: the blocks that it needs are counted, the locks of groups are looked at, blocks are found, and then all is drafted.
use Rattle.std.specs.Prelude.{ℕ, ◌≡◌, ◌≢◌, ◌==◌, ◌<◌, false, true, if◌then◌else◌, List, [], ◌++◌, length, map, Contains, Option, None, Some}
use Rattle.drafts.specs.declared.attempt.Attempt.{Attempt}
use Rattle.drafts.specs.declared.attempt.Attempt.TheVariants as attempt
use Rattle.drafts.specs.declared.change.Change.{Change}
use Rattle.file_tree.specs.declared.reply.Reply.TheVariants as reply
use Rattle.gfs2_layout.specs.Holding.{Holding}
use Rattle.gfs2_layout.specs.Inode.{height_in, is_hashed_in}
use Rattle.glock_names.specs.Views.{Seen, HasGroup}
use Rattle.glock_names.specs.declared.LockName.{LockName}
use Rattle.glock_names.specs.declared.State.{State}
use Rattle.glock_names.specs.declared.State.TheVariants.{Ex}
use Rattle.glock_names.specs.declared.steps.Missing.{Missing}
use Rattle.glock_names.specs.declared.views.Group.{Group}
use Rattle.move_ends.specs.Shown as dirs
use Rattle.hash_dirs.specs.Shown.{IsSound}
use Rattle.name_moves.specs.Groups.{AreHeldOf, IsFirstLackOf, IsOneOrHas}
use Rattle.move_ends.specs.Holds.{AreHeld, Hold, IsFirstLack, hold_of_group, holds}
use Rattle.resource_groups.specs.Shown.{said}
use Rattle.resource_groups.specs.Freeing.{BreaksSome}
use Rattle.resource_groups.specs.Freeing as freeing
use Rattle.resource_groups.specs.Putting.{HasDataBlock}
use Rattle.room_search.specs.Blocks.{first_holds, free_in_all, group_of_node}
use Rattle.room_search.specs.Searches.{AreHeldBlocks, AreShown, IsGroupBlock, IsGroupBroken, IsGroupNeeded, IsRoomOf}
use Rattle.name_moves.specs.Inserting.{IsNeededForName, IsWrongForName, SeesForName}
use Rattle.name_moves.specs.Needing.{TakesBlocks}
use Rattle.name_moves.specs.Way.{IsRightWay}
use Rattle.name_moves.specs.Becoming.{IsAfter, NeedsAfter}
use Rattle.name_moves.specs.Moving.{AreApart, IsMoving, IsNeededIn, IsPlaceOfMove, IsWrongIn, IsWrongThere, Move, freed_by, lost_there}
use Rattle.move_calls.specs.Firsts.{those_of}
use Rattle.move_calls.specs.Checks.{IsNeededOnWays, IsOffItsWays, IsOnItsWay, IsWrongOnWays}

-- ---- what is needed

-- So many blocks are needed: of a sound directory as many as the new name takes once the others have gone, and so of a linear one whatever else is wrong in it, where its content is the rest of its
-- dinode's block; of a hashed one that isn't sound, from which no name goes, as many as what its chain tells. Of any other directory it is some number. The view has each block that is looked at to tell how the new
-- name comes in: as the directory is, and once those names have gone that go from it.
pub record NeedsFor (v : Seen) (m : Move) (need : ℕ) : Type 0 where
  pub in_sound : (h : Holding) → dirs.IsShown v m.to.inode h → IsSound h → NeedsAfter (lost_there m) h m.new_name need
  pub in_linear : (h : Holding) → dirs.IsShown v m.to.inode h → is_hashed_in h ≡ false → height_in h ≡ 0 → NeedsAfter (lost_there m) h m.new_name need
  pub in_hashed : (h : Holding) → dirs.IsShown v m.to.inode h → is_hashed_in h ≡ true → lost_there m ≡ [] → TakesBlocks h m.new_name need
  pub looked : (h : Holding) → dirs.IsShown v m.to.inode h → SeesForName v h m.new_name
  pub looked_then : IsAfter v m.to.inode (lost_there m) (λ k. SeesForName v k m.new_name)

-- this is the node's own group, one of the view's
pub record IsOwnGroup (v : Seen) (node : ℕ) (own : Group) : Type 0 where
  pub of_node : group_of_node v.groups node ≡ Some own
  pub has : HasGroup v own

-- this, where blocks are needed
abbrev pub where_needed : ℕ → ℕ → Option ℕ
where_needed number need = if need == 0 then None else Some number

-- the groups that are held first: those that have some of what goes, and where blocks are needed the node's own
abbrev pub ComesFirst : Group → ℕ → Move → Group → Type 0
ComesFirst own need m = IsOneOrHas (where_needed own.addr need) (freed_by m)

-- as a list, in the order of the view's groups
abbrev pub first_groups : Seen → Group → ℕ → Move → List Group
first_groups v own need m = those_of (where_needed own.addr need) (freed_by m) v.groups

-- the locks under which blocks are found: of these groups, and where they have too few free blocks together, of all
abbrev pub locks_of_room : Seen → (ℕ → List ℕ) → Group → ℕ → Move → List Hold
locks_of_room v at own need m = first_holds (said at) v.groups (first_groups v own need m) need

-- the groups are held that come first
pub record FirstAreHeld (v : Seen) (node : ℕ) (m : Move) (need : ℕ) : Type 0 where
  pub own : Group
  pub of_node : IsOwnGroup v node own
  pub held : AreHeldOf v (ComesFirst own need m)

-- this is the lock of the first of them that isn't held
pub record LacksFirst (v : Seen) (node : ℕ) (m : Move) (need : ℕ) (lock : LockName) : Type 0 where
  pub own : Group
  pub of_node : IsOwnGroup v node own
  pub lacks : IsFirstLackOf v (ComesFirst own need m) lock

-- So many blocks are needed, and the groups are held that come first.
pub record IsCounted (v : Seen) (node : ℕ) (m : Move) (need : ℕ) : Type 0 where
  pub needs : NeedsFor v m need
  pub first : FirstAreHeld v node m need

-- These are the blocks that the node takes, as many as are needed, as far as the view's groups say: of the groups that come first together, or of all; and every lock under which they are found is held.
pub record HasRoom (v : Seen) (node : ℕ) (m : Move) (need : ℕ) (room : List ℕ) : Type 0 where
  pub counted : IsCounted v node m need
  pub blocks : AreHeldBlocks v need room
  pub are : (at : ℕ → List ℕ) → AreShown v at → IsRoomOf v (said at) v.groups (first_groups v counted.first.own need m) need room
  pub held : (at : ℕ → List ℕ) → AreShown v at → AreHeld v (locks_of_room v at counted.first.own need m)

-- a block that can't be taken: the dinode of one of the directories or of the inode, one that goes with what stands at the new name, or one on the way to a name of the move
pub data IsInTheWay (v : Seen) (m : Move) (b : ℕ) : Type 0 where
  a_place : IsPlaceOfMove m b → IsInTheWay v m b
  on_way : IsOnItsWay v m b → IsInTheWay v m b

-- none of the blocks is a dinode of the move, goes with what stands at the new name, or is on one of the ways; and the way to the new name is right
pub record IsOffWay (v : Seen) (m : Move) (room : List ℕ) : Type 0 where
  pub apart : (b : ℕ) → Contains room b → IsPlaceOfMove m b → ⊥
  pub off : (b : ℕ) → Contains room b → IsOffItsWays v m b
  pub way : room ≢ [] → (h : Holding) → dirs.IsShown v m.to.inode h → IsRightWay v h m.new_name room

-- ---- what is answered

-- the name moved: the change is that of the draft that moves it, in the blocks that the node takes
pub record IsCarriedOut (v : Seen) (node time : ℕ) (m : Move) (change : Change) : Type 0 where
  pub need : ℕ
  pub room : List ℕ
  pub has : HasRoom v node m need room
  pub off : IsOffWay v m room
  pub is : IsMoving v m room time change

-- It can't be made. A block that goes is one that the node takes, as the bits call it free, and the view hasn't it. Where names go from the directory that gets the new one, a rule is broken there as blocks are counted, as the first of them goes or once it has gone, or there or elsewhere as all is
-- drafted; or that leads to a block that is no data block of a group, and so isn't sound. Or in the blocks that the node takes the directories and the inode aren't sound and apart, or the one that is to get
-- the name can't, though the way to it is right. In an image that stands for a tree no move is such a one.
pub data IsStuck (v : Seen) (node : ℕ) (m : Move) : Type 0 where
  goes_free : (need b : ℕ) (room : List ℕ) → HasRoom v node m need room → Contains room b → Contains (freed_by m) b → v.block_at b ≡ None → IsStuck v node m
  counts_wrong : (rule b : ℕ) → lost_there m ≢ [] → IsWrongThere v m rule b → IsStuck v node m
  drafts_wrong : (need : ℕ) (room : List ℕ) (rule b : ℕ) → HasRoom v node m need room → lost_there m ≢ [] → IsWrongIn v m (room ++ freed_by m) rule b → IsStuck v node m
  leads_astray : (n : Missing) → lost_there m ≢ [] → IsNeededIn v m [] n → ¬ (HasDataBlock v n.block) → IsStuck v node m
  not_apart : (need : ℕ) (room : List ℕ) → HasRoom v node m need room → IsOffWay v m room → ((source target inode : Holding) → AreApart v m room source target inode → ⊥) → IsStuck v node m

-- so many blocks are needed, and fewer are free, in all groups, whose locks are held, as far as the view shows them
pub record IsFull (v : Seen) (node : ℕ) (m : Move) (need free : ℕ) : Type 0 where
  pub counted : IsCounted v node m need
  pub held : AreHeld v (map hold_of_group v.groups)
  pub free_are : (at : ℕ → List ℕ) → AreShown v at → free ≡ length (free_in_all (said at) v.groups)
  pub fewer : free < need

-- this lock isn't held so strongly: of the first group that comes first; or, once these are held, the first of those under which the node finds the blocks
pub data LacksLock (v : Seen) (node : ℕ) (m : Move) (lock : LockName) (state : State) : Type 0 where
  of_first : (need : ℕ) → NeedsFor v m need → LacksFirst v node m need lock → state ≡ Ex → LacksLock v node m lock state
  of_room : (need : ℕ) (counted : IsCounted v node m need) → holds v (record { lock = lock; state = state }) ≡ false
      → ((at : ℕ → List ℕ) → AreShown v at → IsFirstLack v (locks_of_room v at counted.first.own need m) lock state) → LacksLock v node m lock state

-- This block is needed. On the way to the new name as that is before any name goes; of a group that has some of what goes; of a group, to find blocks; on the way to a name of the move, to see that
-- none of these is there; where no name goes from the directory that gets the new one, to draft the move; or of a group that has some of these or of what goes. Where names go
-- from that directory: of a directory, as they go or the new one comes, and it is a data block of a group. A group's is needed only where the groups are held that come first.
pub data NeedsBlock (v : Seen) (node : ℕ) (m : Move) (n : Missing) : Type 0 where
  to_look : v.block_at n.block ≡ None → ((h : Holding) → dirs.IsShown v m.to.inode h → IsNeededForName v h m.new_name n) → NeedsBlock v node m n
  of_freed : (need : ℕ) → IsCounted v node m need → freeing.IsNeededFor v (freed_by m) n → NeedsBlock v node m n
  of_room : (need : ℕ) (counted : IsCounted v node m need) → IsGroupNeeded v n → ((at : ℕ → List ℕ) → AreShown v at → IsGroupBlock v (locks_of_room v at counted.first.own need m) n)
      → NeedsBlock v node m n
  on_way : (need : ℕ) (room : List ℕ) → HasRoom v node m need room → IsNeededOnWays v m n → NeedsBlock v node m n
  to_draft : (need : ℕ) (room : List ℕ) → HasRoom v node m need room → lost_there m ≡ [] → IsNeededIn v m (room ++ freed_by m) n → NeedsBlock v node m n
  to_say : (need : ℕ) (room : List ℕ) → HasRoom v node m need room → freeing.IsNeededFor v (room ++ freed_by m) n → NeedsBlock v node m n
  once_gone : lost_there m ≢ [] → IsNeededIn v m [] n → HasDataBlock v n.block → NeedsBlock v node m n

abbrev pub IsCarried : Seen → ℕ → ℕ → Move → Attempt → Type 0
IsCarried v node time m (attempt.Done r change) = (r ≡ reply.Ok) × IsCarriedOut v node time m change
IsCarried v node time m (attempt.NeedLock lock state) = LacksLock v node m lock state
IsCarried v node time m (attempt.NeedBlock n) = NeedsBlock v node m n
IsCarried v node time m (attempt.NoSpace need free) = IsFull v node m need free
IsCarried v node time m attempt.NotBuilt = IsStuck v node m

-- ---- damage

-- The block breaks this rule, as the view shows it before any name goes: on the way to the new name; where no name goes from the directory that gets it, in a directory of the move, or in a group
-- that has some of what goes or is taken, as all is drafted; in a group that has some of what goes, those being held that come first, or, where blocks are needed, that is looked through for them; on the way to a
-- name of the move, as it is looked whether a block that was found is there; or (5) the bits of a group call a block free that is in the move's way.
pub data IsDamageOf (v : Seen) (node : ℕ) (m : Move) : ℕ → ℕ → Type 0 where
  to_look : (rule b : ℕ) → ((h : Holding) → dirs.IsShown v m.to.inode h → IsWrongForName v h rule b) → IsDamageOf v node m rule b
  of_freed : (need rule b : ℕ) → IsCounted v node m need → BreaksSome v (freed_by m) rule b → IsDamageOf v node m rule b
  of_room : (need rule b : ℕ) → IsCounted v node m need → need ≢ 0 → IsGroupBroken v rule b → IsDamageOf v node m rule b
  on_way : (need : ℕ) (room : List ℕ) (rule b : ℕ) → HasRoom v node m need room → IsWrongOnWays v m rule b → IsDamageOf v node m rule b
  called_free : (need b : ℕ) (room : List ℕ) → HasRoom v node m need room → Contains room b → IsInTheWay v m b → IsDamageOf v node m 5 b
  to_draft : (need : ℕ) (room : List ℕ) (rule b : ℕ) → HasRoom v node m need room → lost_there m ≡ [] → IsWrongIn v m (room ++ freed_by m) rule b → IsDamageOf v node m rule b
