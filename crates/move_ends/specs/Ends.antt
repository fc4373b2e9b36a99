-- What stands at the ends of the two paths of a call that moves a name, `rename`: how it is refused there, and under which locks that is seen.
use Rattle.std.specs.Prelude.{ℕ, ◌≡◌, ◌≢◌, ◌↔◌, Bool, true, false, if◌then◌else◌, List, [], ◌∷◌, Contains, IsSome, Option, None, Some, ⊤}
use Rattle.file_tree.specs.Apply.{apply, put_at, remove_at}
use Rattle.file_tree.specs.Names.{is_same_path, last_of, leads_to, parent_of}
use Rattle.file_tree.specs.Tree.{Tree}
use Rattle.file_tree.specs.declared.call.Call.{Call}
use Rattle.file_tree.specs.declared.call.Call.TheVariants.{Rename}
use Rattle.file_tree.specs.declared.reply.Reply.{Reply}
use Rattle.file_tree.specs.declared.reply.Reply.TheVariants as reply
use Rattle.gfs2_layout.specs.Holding.{Holding}
use Rattle.gfs2_layout.specs.Inode.{dinode_in, is_directory_in, is_hashed_in}
use Rattle.gfs2_layout.specs.Records.{child_named}
use Rattle.glock_names.specs.Views.{Seen, HasBlock}
use Rattle.glock_names.specs.declared.LockName.{LockName}
use Rattle.glock_names.specs.declared.State.{State}
use Rattle.glock_names.specs.declared.State.TheVariants.{Ex}
use Rattle.glock_names.specs.declared.steps.Missing.{Missing}
use Rattle.call_locks.specs.WantLaws.{path_of}
use Rattle.call_locks.specs.Wants.{at_old_name}
use Rattle.call_locks.specs.declared.want.Want.{Want}
use Rattle.dinode_tree.specs.Shown.{IsShown}
use Rattle.pair_walks.specs.Shown.{CountsItsLeaves}
use Rattle.pair_walks.specs.Shown as dirs
use Rattle.resource_groups.specs.Putting.{HasDataBlock}
use Rattle.image_model.specs.Flat.{Path, follow, tree_at}
use Rattle.image_model.specs.Image.{Image}
use Rattle.image_model.specs.Owners.{Owners, holding}
use Rattle.image_model.specs.Stands.{Layout, flat_of}
use Rattle.image_changes.specs.Instances.{IsAt, IsChildless, dinode_at, is_directory_at, records_at}
use Rattle.pair_walks.specs.Answers.{Refuses}
use Rattle.pair_walks.specs.Holds.{Hold, AreHeld, IsAskedFor, IsFirstLack, holds}
use Rattle.pair_walks.specs.OnePath.{IsAbsent, IsOnTheWay, IsPlaceOf, IsSeenAt, LacksName, LeadsTo}
use Rattle.pair_walks.specs.walk.Place.{Place}
use Rattle.pair_walks.specs.Orders.{pair_holds}
use Rattle.pair_walks.specs.Walks.{IsPairDamage, IsPairLacked, IsPairUnread}
use Rattle.removing_calls.specs.Removing.{BreaksAsLinear, CountsItsRecords, Goes, IsNeededOf, IsWrongBelow}
use Rattle.move_ends.specs.declared.ends.Ends.{Ends}
use Rattle.move_ends.specs.declared.ends.Ends.TheVariants as ends

-- the call moves a name
abbrev pub IsRenaming : Call → Type 0
IsRenaming (Rename from to) = Unit {0}
IsRenaming _ = ⊥

-- ---- its two paths

abbrev pub from_path : Call → Path
from_path call = path_of call false

abbrev pub to_path : Call → Path
to_path call = path_of call true

-- the inodes that it takes on each
abbrev pub first_wants : Call → List Want
first_wants call = at_old_name false (from_path call)

abbrev pub second_wants : Call → List Want
second_wants call = at_old_name true (to_path call)

-- a name is moved to another place: the second path neither is the first nor goes on from it
abbrev pub IsElsewhere : Call → Type 0
IsElsewhere call = leads_to (from_path call) (to_path call) ≡ false

-- ---- its locks, in one image

-- the lock that puts all renames in order
abbrev pub order_hold : Hold
order_hold = record { lock = record { kind = 1; number = 3 }; state = Ex }

abbrev pub is_empty : Path → Bool
is_empty [] = true
is_empty (n ∷ ns) = false

-- none where a path is the root's; else the one that puts renames in order, and then those of the inodes on the paths
abbrev pub inode_holds : Image → Owners → Layout → Call → List Hold
inode_holds im o l call =
    if is_empty (from_path call) then [] else if is_empty (to_path call) then []
    else order_hold ∷ pair_holds im o l (from_path call) (to_path call) (first_wants call) (second_wants call)

-- ---- as far as the view shows

-- both paths have names, and the lock that puts renames in order is held
pub record IsBegun (v : Seen) (call : Call) : Type 0 where
  pub from : from_path call ≢ []
  pub to : to_path call ≢ []
  pub order : holds v order_hold ≡ true

-- The first path leads to this inode, all names of the second but the last to this directory, and the second path doesn't go on from the first. What is above the
-- directory isn't told.
pub record AreEnds (v : Seen) (call : Call) (from to : Place) : Type 0 where
  pub begun : IsBegun v call
  pub elsewhere : IsElsewhere call
  pub source : IsSeenAt v (first_wants call) (from_path call) from
  pub target : LeadsTo v (second_wants call) (parent_of (to_path call)) to.inode
  pub there : HasBlock v to.inode
  pub read : (h : Holding) → IsShown v to.inode h → to.dinode ≡ dinode_in h
  pub directory : (h : Holding) → IsShown v to.inode h → is_directory_in h ≡ true

-- what stands at the new name
pub record StandsAt (v : Seen) (call : Call) (to at : Place) : Type 0 where
  pub place : IsSeenAt v (second_wants call) (to_path call) at
  pub above : at.above ≡ to.inode

-- the inode in a block is a directory that has no names: its dinode counts two records, and a linear one has as many
pub record IsBareAt (v : Seen) (a : ℕ) : Type 0 where
  pub directory : (h : Holding) → IsShown v a h → is_directory_in h ≡ true
  pub two : (h : Holding) → IsShown v a h → (dinode_in h).entries ≡ 2
  pub counted : (h : Holding) → IsShown v a h → is_hashed_in h ≡ false → CountsItsRecords h

abbrev pub IsKindAt : Seen → ℕ → Bool → Type 0
IsKindAt v a dir = (h : Holding) → IsShown v a h → is_directory_in h ≡ dir

-- what stands at the new name may go: a file for a file, and for a directory one that has no names
pub data MayGo (v : Seen) (from at : Place) : Type 0 where
  a_file : IsKindAt v from.inode false → IsKindAt v at.inode false → MayGo v from at
  a_directory : IsKindAt v from.inode true → IsBareAt v at.inode → MayGo v from at

-- The name is to move from the directory above the inode to this one, where nothing stands at the new name, or an inode that may go with these blocks.
pub data IsTarget (v : Seen) (call : Call) (from to : Place) : Option (List ℕ) → Type 0 where
  free : LacksName v to.inode (last_of (to_path call)) → IsTarget v call from to None
  taken : (at : Place) (blocks : List ℕ) → StandsAt v call to at → MayGo v from at → ((h : Holding) → dirs.IsShown v at.inode h → (b : ℕ) → Contains blocks b ↔ Goes h b)
      → ((h : Holding) → dirs.IsShown v at.inode h → is_hashed_in h ≡ true → CountsItsLeaves h) → IsTarget v call from to (Some blocks)

-- the call is refused so: by its paths alone; by what stands on them; or by what stands at their ends
pub data IsRefused (v : Seen) (call : Call) : Reply → Type 0 where
  of_root : from_path call ≡ [] → IsRefused v call reply.Inside
  to_root : from_path call ≢ [] → to_path call ≡ [] → IsRefused v call reply.Exists
  not_found : IsBegun v call → IsAbsent v (first_wants call) (from_path call) → IsRefused v call reply.NotFound
  not_dir : (a : ℕ) → IsBegun v call → IsOnTheWay v (first_wants call) (from_path call) a (λ h. is_directory_in h ≡ false) → IsRefused v call reply.NotDir
  goes_on : (from : Place) → IsBegun v call → IsSeenAt v (first_wants call) (from_path call) from → leads_to (from_path call) (to_path call) ≡ true → is_same_path (from_path call) (to_path call) ≡ false
      → IsRefused v call reply.Inside
  no_parent : (from : Place) → IsBegun v call → IsElsewhere call → IsSeenAt v (first_wants call) (from_path call) from → IsAbsent v (second_wants call) (parent_of (to_path call)) → IsRefused v call reply.NotFound
  file_parent : (from : Place) (a : ℕ) → IsBegun v call → IsElsewhere call → IsSeenAt v (first_wants call) (from_path call) from
      → IsOnTheWay v (second_wants call) (to_path call) a (λ h. is_directory_in h ≡ false) → IsRefused v call reply.NotDir
  over_directory : (from to at : Place) → AreEnds v call from to → StandsAt v call to at → IsKindAt v from.inode false → IsKindAt v at.inode true → IsRefused v call reply.IsDir
  over_file : (from to at : Place) → AreEnds v call from to → StandsAt v call to at → IsKindAt v from.inode true → IsKindAt v at.inode false → IsRefused v call reply.NotDir
  not_empty : (from to at : Place) → AreEnds v call from to → StandsAt v call to at → IsKindAt v from.inode true → IsKindAt v at.inode true
      → ((h : Holding) → IsShown v at.inode h → ((dinode_in h).entries ≢ 2) × (is_hashed_in h ≡ false → CountsItsRecords h)) → IsRefused v call reply.NotEmpty

-- the name stays where it is: the path of an inode that is there is both
pub record StaysWhere (v : Seen) (call : Call) : Type 0 where
  pub begun : IsBegun v call
  pub same : is_same_path (from_path call) (to_path call) ≡ true
  pub from : Place
  pub at : IsSeenAt v (first_wants call) (from_path call) from

-- this lock isn't held so strongly: that which puts renames in order, or that of the next inode on the paths
pub data IsLackedOnPaths (v : Seen) (call : Call) (lock : LockName) (state : State) : Type 0 where
  of_order : from_path call ≢ [] → to_path call ≢ [] → lock ≡ order_hold.lock → state ≡ Ex → holds v order_hold ≡ false → IsLackedOnPaths v call lock state
  on_paths : IsBegun v call → IsPairLacked v (from_path call) (to_path call) (first_wants call) (second_wants call) lock state → IsLackedOnPaths v call lock state

-- a block without which the ends aren't told: one on the paths; or of what stands at the new name, to tell what goes with it
pub data IsNeededAtEnds (v : Seen) (call : Call) (n : Missing) : Type 0 where
  on_paths : IsBegun v call → IsPairUnread v (from_path call) (to_path call) (first_wants call) (second_wants call) n → IsNeededAtEnds v call n
  of_target : (from to at : Place) → AreEnds v call from to → StandsAt v call to at → MayGo v from at → IsNeededOf v at.inode n → IsNeededAtEnds v call n

-- the block breaks this rule: on the paths; what stands at the new name where a directory is to move, as one that counts other records than it has; or what may go, in a
-- pointer that leads past the groups
pub data IsDamageAtEnds (v : Seen) (call : Call) : ℕ → ℕ → Type 0 where
  on_paths : (rule b : ℕ) → IsBegun v call → IsPairDamage v (from_path call) (to_path call) (first_wants call) (second_wants call) rule b → IsDamageAtEnds v call rule b
  count : (from to at : Place) (rule b : ℕ) → AreEnds v call from to → StandsAt v call to at → IsKindAt v from.inode true → ((h : Holding) → IsShown v at.inode h → BreaksAsLinear h rule b) → IsDamageAtEnds v call rule b
  of_target : (from to at : Place) (rule b : ℕ) → AreEnds v call from to → StandsAt v call to at → MayGo v from at → IsWrongBelow v at.inode rule b → IsDamageAtEnds v call rule b

abbrev pub IsTold : Seen → Call → Ends → Type 0
IsTold v call (ends.Refused r) = IsRefused v call r
IsTold v call ends.Stays = StaysWhere v call
IsTold v call (ends.Moves from to None) = AreEnds v call from to × IsTarget v call from to None
IsTold v call (ends.Moves from to (Some blocks)) = AreEnds v call from to × IsTarget v call from to (Some blocks.items) × ((b : ℕ) → Contains blocks.items b → HasDataBlock v b)
IsTold v call (ends.NeedLock lock state) = IsLackedOnPaths v call lock state
IsTold v call (ends.NeedBlock n) = IsNeededAtEnds v call n

-- what a refusal is not: `ok`, or that too few blocks are free
abbrev pub IsRefusal : Ends → Type 0
IsRefusal (ends.Refused r) = Refuses r
IsRefusal e = ⊤

-- the block that is needed isn't in the view
abbrev pub IsAbsentBlock : Seen → Ends → Type 0
IsAbsentBlock v (ends.NeedBlock n) = v.block_at n.block ≡ None
IsAbsentBlock v e = ⊤

-- ---- in one image

-- what stands at the new name: nothing; or an inode that names nothing, and goes with all its blocks
pub data StoodIn (im : Image) (o : Owners) (l : Layout) (call : Call) (to : ℕ) : Option (List ℕ) → Type 0 where
  nothing : child_named (records_at im o to) (last_of (to_path call)) ≡ None → follow (flat_of im o) l.root (to_path call) ≡ None → StoodIn im o l call to None
  an_inode : (c : ℕ) (blocks : List ℕ) → IsAt im o l (to_path call) c → IsChildless im o c → ((b : ℕ) → Contains blocks b ↔ IsSome ((holding im o c).cell b)) → StoodIn im o l call to (Some blocks)

-- The tree takes the call: the tree at the first path goes to the second one.
pub record TakesIt (t : Tree) (call : Call) : Type 0 where
  pub moved : Tree
  pub there : tree_at t (from_path call) ≡ Some moved
  pub applies : apply call t ≡ record { reply = reply.Ok; tree = put_at (to_path call) moved (remove_at (from_path call) t) }

-- The inode of the first path, the directory at all names of the second but the last, and what stands at the new name; and the tree takes the call.
pub record MovesIn (v : Seen) (im : Image) (o : Owners) (l : Layout) (t : Tree) (call : Call) (from to : Place) (replaced : Option (List ℕ)) : Type 0 where
  pub source : IsPlaceOf v im o l (from_path call) from
  pub target : IsAt im o l (parent_of (to_path call)) to.inode
  pub directory : is_directory_at im o to.inode ≡ true
  pub dinode : to.dinode ≡ dinode_at im o to.inode
  pub stood : StoodIn im o l call to.inode replaced
  pub takes : TakesIt t call

-- so it is, and every lock of the inodes on the paths is held; or the first that isn't, or a block that is asked for
abbrev pub IsFoundIn : Seen → Image → Owners → Layout → Tree → Call → Ends → Type 0
IsFoundIn v im o l t call (ends.Refused r) = ((apply call t).reply ≡ r) × AreHeld v (inode_holds im o l call)
IsFoundIn v im o l t call ends.Stays = (apply call t ≡ record { reply = reply.Ok; tree = t }) × AreHeld v (inode_holds im o l call)
IsFoundIn v im o l t call (ends.Moves from to None) = MovesIn v im o l t call from to None × AreHeld v (inode_holds im o l call)
IsFoundIn v im o l t call (ends.Moves from to (Some blocks)) = MovesIn v im o l t call from to (Some blocks.items) × AreHeld v (inode_holds im o l call)
IsFoundIn v im o l t call (ends.NeedLock lock state) = IsFirstLack v (inode_holds im o l call) lock state
IsFoundIn v im o l t call (ends.NeedBlock n) = IsAskedFor v im o l (inode_holds im o l call) n
