-- The locks that a call which moves a name takes in an image, in their order, and the blocks that it needs.
use Rattle.std.specs.Prelude.{ℕ, ◌≡◌, ◌==◌, ◌&&◌, ◌||◌, ◌<◌, not, Bool, true, false, is_some, if◌then◌else◌, List, [], ◌++◌, length, map, filter, Option, None, Some}
use Rattle.file_tree.specs.Apply.{apply}
use Rattle.file_tree.specs.Names.{is_same_path, last_of, parent_of}
use Rattle.file_tree.specs.Tree.{Tree}
use Rattle.file_tree.specs.declared.call.Call.{Call}
use Rattle.file_tree.specs.declared.reply.Reply.TheVariants as reply
use Rattle.cluster_history.specs.Changes.{is_ok}
use Rattle.gfs2_layout.specs.Holding.{Holding}
use Rattle.gfs2_layout.specs.declared.rindex.Rindex.{Rindex}
use Rattle.glock_names.specs.Views.{Seen, group_of_entry}
use Rattle.glock_names.specs.declared.views.Group.{Group}
use Rattle.image_model.specs.Flat.{follow}
use Rattle.image_model.specs.Image.{Image}
use Rattle.image_model.specs.Owners.{Owners, holding}
use Rattle.image_model.specs.Stands.{Layout, flat_of}
use Rattle.image_changes.specs.Instances.{IsAt}
use Rattle.name_moves.specs.Groups.{has_some, holds_of_those, is_block_of}
use Rattle.move_ends.specs.Holds.{Hold, AreHeld, hold_of_group}
use Rattle.room_search.specs.Blocks.{blocks_of_first, free_in_all, group_of_node, have_too_few, states_by}
use Rattle.move_ends.specs.Ends.{IsElsewhere, from_path, inode_holds, to_path}
use Rattle.name_moves.specs.Inserting.{SeesForName}
use Rattle.name_moves.specs.Becoming.{LosesAll, NeedsAfter, losses}
use Rattle.name_moves.specs.Paths.{SeesPath}

-- ---- what goes, and what is needed

-- what stands at the new name
abbrev pub replaced_in : Image → Owners → Layout → Call → Option ℕ
replaced_in im o l call = follow (flat_of im o) l.root (to_path call)

-- the names that go from the directory of the new name: what stands there, and the moved one where that is its own
abbrev pub lost_in : Image → Owners → Layout → Call → ℕ → ℕ → List (List ℕ)
lost_in im o l call source target = losses (is_some (replaced_in im o l call)) (source == target) (last_of (from_path call)) (last_of (to_path call))

-- The call needs so many blocks: those that the directory at the new name takes, once what stood there and, where it is its own, the moved name have gone from
-- it, in this order. None where the tree refuses the call, or the name stays. It is one number, however the names go.
pub data IsNeed (im : Image) (o : Owners) (l : Layout) (t : Tree) (call : Call) : ℕ → Type 0 where
  refused : is_ok (apply call t).reply ≡ false → IsNeed im o l t call 0
  stays : is_same_path (from_path call) (to_path call) ≡ true → IsNeed im o l t call 0
  moves : (source target need : ℕ) → is_ok (apply call t).reply ≡ true → IsElsewhere call → IsAt im o l (parent_of (from_path call)) source → IsAt im o l (parent_of (to_path call)) target
      → NeedsAfter (lost_in im o l call source target) (holding im o target) (last_of (to_path call)) need → IsNeed im o l t call need

-- ---- locks

-- the block goes with what stands at the new name
abbrev pub goes_with : Image → Owners → Option ℕ → ℕ → Bool
goes_with im o None b = false
goes_with im o (Some c) b = is_block_of (holding im o c) b

-- it is this group
abbrev pub is_this : Option Group → Rindex → Bool
is_this None g = false
is_this (Some own) g = own.addr == g.address

-- the group has some of what goes, or blocks are needed and it is the node's own
abbrev pub comes_first : Image → Owners → Layout → Call → ℕ → ℕ → Rindex → Bool
comes_first im o l call node need g = has_some (goes_with im o (replaced_in im o l call)) g || (not (need == 0) && is_this (group_of_node (map group_of_entry l.groups) node) g)

-- those groups, as a view has them
abbrev pub first_in : Image → Owners → Layout → Call → ℕ → ℕ → List Group
first_in im o l call node need = map group_of_entry (filter (comes_first im o l call node need) l.groups)

-- Those of these groups, by rising number; and where they have too few free blocks together, those of all groups, by rising number again.
abbrev pub block_holds : Image → Owners → Layout → Call → ℕ → ℕ → List Hold
block_holds im o l call node need =
    holds_of_those (comes_first im o l call node need) l.groups ++ (if have_too_few (states_by o) (first_in im o l call node need) need then map hold_of_group (map group_of_entry l.groups) else [])

-- the blocks that are taken: the least free ones of these groups, and where they have too few together, of all groups in order
abbrev pub taken_in : Image → Owners → Layout → Call → ℕ → ℕ → List ℕ
taken_in im o l call node need = blocks_of_first o l (first_in im o l call node need) need

-- the name goes to another place, as the tree takes the call
abbrev pub moves_in : Tree → Call → Bool
moves_in t call = is_ok (apply call t).reply && not (is_same_path (from_path call) (to_path call))

-- the locks that the call takes, in their order, where it needs so many blocks: those of the inodes on its paths, and where a name moves those of groups
abbrev pub call_holds : Image → Owners → Layout → Tree → Call → ℕ → ℕ → List Hold
call_holds im o l t call node need = inode_holds im o l call ++ (if moves_in t call then block_holds im o l call node need else [])

-- Of the locks that the call takes this is so: of those of the inodes alone, with which its list begins however many blocks it needs; or of the whole list, and so many it needs.
pub data IsSoOfList (im : Image) (o : Owners) (l : Layout) (t : Tree) (call : Call) (node : ℕ) (P : List Hold → Type 0) : Type 0 where
  of_inodes : P (inode_holds im o l call) → IsSoOfList im o l t call node P
  of_all : (need : ℕ) → IsNeed im o l t call need → P (call_holds im o l t call node need) → IsSoOfList im o l t call node P

-- ---- too few blocks

-- The tree would take the call, but fewer blocks are free, in all groups, than it needs. Each lock of the inodes and of each group is held. The view has the dinode of each inode on both paths, and of
-- the directory that is to get the new name each block that is looked at to tell how that comes in: as the directory is, and once those names have gone that go from it. What the call frees isn't counted.
pub record IsTooFew (v : Seen) (im : Image) (o : Owners) (l : Layout) (t : Tree) (call : Call) (need free : ℕ) : Type 0 where
  pub taken : (apply call t).reply ≡ reply.Ok
  pub source : ℕ
  pub source_at : IsAt im o l (parent_of (from_path call)) source
  pub target : ℕ
  pub target_at : IsAt im o l (parent_of (to_path call)) target
  pub on_paths : AreHeld v (inode_holds im o l call)
  pub groups : AreHeld v (map hold_of_group (map group_of_entry l.groups))
  pub seen_from : SeesPath v im o l (from_path call)
  pub seen_to : SeesPath v im o l (to_path call)
  pub looked : SeesForName v (holding im o target) (last_of (to_path call))
  pub without : Holding
  pub lost : LosesAll (lost_in im o l call source target) (holding im o target) without
  pub looked_then : SeesForName v without (last_of (to_path call))
  pub needs : IsNeed im o l t call need
  pub free_are : free ≡ length (free_in_all (states_by o) (map group_of_entry l.groups))
  pub fewer : free < need
