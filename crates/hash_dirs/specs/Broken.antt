-- What breaks which rule in a hashed directory.
use Rattle.std.specs.Prelude.{ℕ, ◌≡◌, ◌≢◌, ◌*◌, ◌/◌, ◌<◌, false, Contains, List, length}
use Rattle.file_tree.specs.Names.{IsName}
use Rattle.gfs2_layout.specs.Area.{IsArea}
use Rattle.gfs2_layout.specs.Bytes.{u32_at}
use Rattle.gfs2_layout.specs.Headers.{HasHeader}
use Rattle.gfs2_layout.specs.Holding.{Holding, bytes_at}
use Rattle.gfs2_layout.specs.Inode.{depth_in, dinode_in, entry, entry_block, leaf_area, leaf_in, table_count}
use Rattle.gfs2_layout.specs.Records.{Record, is_dots, records_in}
use Rattle.glock_names.specs.Views.{Seen}
use Rattle.resource_groups.specs.Putting.{HasDataBlock}
use Rattle.dinode_tree.specs.Broken as inode
use Rattle.hash_dirs.specs.Leaves.{AreLeaves, records_among}
use Rattle.hash_dirs.specs.Shown.{IsInChain, LeadsToLeaf}

-- `IsBroken h rule b`: block b breaks this rule
pub data IsBroken (h : Holding) : ℕ → ℕ → Type 0 where
  of_inode : (rule b : ℕ) → inode.IsBroken h rule b → IsBroken h rule b
  -- 1: a leaf lacks its header
  no_header : (i from x : ℕ) → LeadsToLeaf h i from x → x ≢ 0 → ¬ (HasHeader 6 600 (bytes_at h x)) → IsBroken h 1 x
  -- 9: records don't fill a leaf, or a name isn't one
  unfilled : (i from x : ℕ) → LeadsToLeaf h i from x → x ≢ 0 → ¬ (IsArea (leaf_area h x)) → IsBroken h 9 x
  no_name : (i from x : ℕ) (r : Record) → LeadsToLeaf h i from x → x ≢ 0 → Contains (records_in (leaf_area h x)) r → is_dots r.name ≡ false → ¬ (IsName r.name) → IsBroken h 9 x
  -- 12: the dinode counts no records where a leaf has one, or others than the leaves have; or no links
  no_entries : (i from x : ℕ) (r : Record) → LeadsToLeaf h i from x → x ≢ 0 → Contains (records_in (leaf_area h x)) r → (dinode_in h).entries ≡ 0 → IsBroken h 12 h.own
  wrong_entries : (leaves : List ℕ) → AreLeaves h leaves → (dinode_in h).entries ≢ length (records_among h leaves) → IsBroken h 12 h.own
  no_links : (dinode_in h).nlink ≡ 0 → IsBroken h 12 h.own
  -- 13: the table's depth is below the first or above the greatest, or the size isn't that of the table
  table_too_small : table_count h < h.size / 16 → IsBroken h 13 h.own
  table_too_large : 8 * h.size < table_count h → IsBroken h 13 h.own
  table_size : (dinode_in h).size ≢ 8 * table_count h → IsBroken h 13 h.own
  -- 14: a pointer leads nowhere, or a leaf's records, depth or count doesn't belong
  no_leaf : (i : ℕ) → i < table_count h → entry h i ≡ 0 → IsBroken h 14 (entry_block h i)
  records_format : (i from x : ℕ) → LeadsToLeaf h i from x → x ≢ 0 → u32_at 28 (bytes_at h x) ≢ 1200 → IsBroken h 14 x
  too_deep : (i from x : ℕ) → LeadsToLeaf h i from x → x ≢ 0 → depth_in h < (leaf_in h x).depth → IsBroken h 14 x
  leaf_entries : (i from x : ℕ) → LeadsToLeaf h i from x → x ≢ 0 → (leaf_in h x).entries ≢ length (records_in (leaf_area h x)) → IsBroken h 14 x
  -- 15: a chain of leaves returns to itself
  comes_again : (i place later x : ℕ) → IsInChain h i place x → IsInChain h i later x → place < later → IsBroken h 15 x

-- The block breaks this rule, as the view shows the directory; or (2) it has the number of a leaf that is no data block of a group, or it is a leaf
-- in which a name leads to a block that is none.
pub data IsWrongIn (v : Seen) (h : Holding) : ℕ → ℕ → Type 0 where
  breaks : (rule b : ℕ) → IsBroken h rule b → IsWrongIn v h rule b
  outside : (i from x : ℕ) → LeadsToLeaf h i from x → x ≢ 0 → ¬ (HasDataBlock v x) → IsWrongIn v h 2 from
  stray : (i from x : ℕ) (r : Record) → LeadsToLeaf h i from x → x ≢ 0 → Contains (records_in (leaf_area h x)) r → is_dots r.name ≡ false → ¬ (HasDataBlock v r.address) → IsWrongIn v h 2 x
