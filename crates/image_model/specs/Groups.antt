-- Resource groups: where they lie, and what their headers and bitmaps say. A group is given by its entry in the list of groups.
use Rattle.std.specs.Prelude.{ℕ, ◌≡◌, ◌+◌, ◌*◌, ◌/◌, ◌<◌, ◌≤◌, List, [], length, map, slice_get, slice_index_or, Some}
use Rattle.std.specs.List.{range_with_len}
use Rattle.gfs2_layout.specs.Bytes.{slice}
use Rattle.gfs2_layout.specs.Structures.{rindex_of}
use Rattle.gfs2_layout.specs.declared.rindex.Rindex.{Rindex}
use Rattle.gfs2_layout.specs.Bitmap.{bitmap_room}
use Rattle.gfs2_layout.specs.Groups.{group_header, states_in, count_of}
use Rattle.gfs2_layout.specs.Headers.{HasHeader}
use Rattle.gfs2_layout.specs.Device.{superblock_place}
use Rattle.image_model.specs.Image.{Image, Blocks}
use Rattle.image_model.specs.Owners.{Owner, Owners, Free, Root, Master, Named}

-- ---- the list of groups

abbrev pub entry_length : ℕ
entry_length = 96

-- the groups that are listed: the whole entries one after another
unfoldable pub groups_in : List ℕ → List Rindex
groups_in bytes = map (λ i. rindex_of (slice (entry_length * i) entry_length bytes)) (range_with_len 0 (length bytes / entry_length))

-- group i of these is g
abbrev pub IsGroupAt : List Rindex → ℕ → Rindex → Type 0
IsGroupAt groups i g = slice_get groups i ≡ Some g

-- g is one of these
abbrev pub IsListed : List Rindex → Rindex → Type 0
IsListed groups g = (i : ℕ) × IsGroupAt groups i g

-- ---- where a group lies

-- the first block behind its data blocks
abbrev pub end_of : Rindex → ℕ
end_of g = g.data0 + g.data_blocks

-- the block is its header, or one of its bitmap
pub record IsHeaderOf (g : Rindex) (b : ℕ) : Type 0 where
  pub low : g.address ≤ b
  pub high : b < g.address + g.length

pub record IsDataOf (g : Rindex) (b : ℕ) : Type 0 where
  pub low : g.data0 ≤ b
  pub high : b < end_of g

-- the block is of the group, or one of at most three behind it, which belong to nobody
pub record IsNear (g : Rindex) (b : ℕ) : Type 0 where
  pub low : g.address ≤ b
  pub high : b < end_of g + 3

-- a group that lies on the device, above the superblock, and whose bitmap has bits for its data blocks
pub record GroupFits (im : Image) (g : Rindex) : Type 0 where
  pub above : superblock_place im.size < g.address
  pub some : 1 ≤ g.length
  pub first : g.data0 ≡ g.address + g.length
  pub whole : g.bitbytes * 4 ≡ g.data_blocks
  pub bits : g.data_blocks ≤ bitmap_room im.size g.length
  pub inside : end_of g ≤ im.count

-- the groups fit, rise without overlapping, and leave at most three blocks behind each
pub record GroupsFit (im : Image) (groups : List Rindex) : Type 0 where
  pub each : (g : Rindex) → IsListed groups g → GroupFits im g
  pub rise : (i j : ℕ) (g h : Rindex) → IsGroupAt groups i g → IsGroupAt groups j h → i < j → end_of g ≤ h.address
  pub rest : (b : ℕ) → superblock_place im.size < b → b < im.count → (g : Rindex) × IsListed groups g × IsNear g b

-- ---- its bits and counts

-- its header and bitmap blocks
abbrev pub group_blocks : Blocks → Rindex → List (List ℕ)
group_blocks at g = map at (range_with_len g.address g.length)

-- the state of a block by its owner: 0 free, 3 a dinode, 1 any other that is used
abbrev pub state_of : Owner → ℕ
state_of (Free g) = 0
state_of Root = 3
state_of Master = 3
state_of (Named parent name) = 3
state_of _ = 1

-- the states of the group's data blocks by their owners
abbrev pub states_of : Owners → Rindex → List ℕ
states_of owners g = map (λ b. state_of (owners b)) (range_with_len g.data0 g.data_blocks)

-- the header repeats the entry, the bits say these states, and the header has their counts. The header's checksum is not looked at
pub record IsGroup (g : Rindex) (blocks : List (List ℕ)) (states : List ℕ) : Type 0 where
  pub header : HasHeader 2 200 (slice_index_or blocks 0 [])
  pub more : (k : ℕ) → 0 < k → k < g.length → HasHeader 3 300 (slice_index_or blocks k [])
  pub data0 : (group_header blocks).data0 ≡ g.data0
  pub data_blocks : (group_header blocks).data_blocks ≡ g.data_blocks
  pub bitbytes : (group_header blocks).bitbytes ≡ g.bitbytes
  pub bits : states_in blocks g.data_blocks ≡ states
  pub free : (group_header blocks).free ≡ count_of 0 states
  pub dinodes : (group_header blocks).dinodes ≡ count_of 3 states
