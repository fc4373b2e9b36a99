-- A hashed directory, and what is asked of a view for a name.
use Rattle.std.specs.Prelude.{ℕ, ◌≡◌, ◌≢◌, ◌*◌, ◌/◌, ◌<◌, ◌≤◌, false, List, None, count_by}
use Rattle.std.specs.Str.{bytes_eq}
use Rattle.crc_words.specs.Remainder.{crc32_of}
use Rattle.gfs2_layout.specs.Device.{IsBlockSize}
use Rattle.gfs2_layout.specs.Holding.{Holding}
use Rattle.gfs2_layout.specs.Inode.{IsInode, depth_in, entry, entry_block, leaf_in, records_of, table_count, top_bits, unit}
use Rattle.glock_names.specs.Views.{Seen}
use Rattle.glock_names.specs.declared.steps.Missing.{Missing}
use Rattle.dinode_tree.specs.Reading.{IsNeeded, inode_lock}
use Rattle.resource_groups.specs.Putting.{HasDataBlock}
pub use Rattle.pointer_tables.specs.Directories.{IsInChain, IsPlaced, IsShown}

-- A directory with blocks of one of the four sizes that is an inode sound in itself, its blocks in their places, no two of its records with one name. So is every hashed
-- directory of an image that stands for a tree.
pub record IsSound (h : Holding) : Type 0 where
  pub block_size : IsBlockSize h.size
  pub inode : IsInode h
  pub placed : IsPlaced h
  pub once : (name : List ℕ) → count_by (λ r. bytes_eq name r.name) (records_of h) ≤ 1

-- the index of a name: the top bits of its hash, as many as the table is deep
abbrev pub index_for : Holding → List ℕ → ℕ
index_for h name = top_bits (depth_in h) (crc32_of name)

-- ---- what leads to a leaf

-- the number of a leaf of the chain of pointer i, and the block in which it stands: the pointer's, or the leaf before
pub data LeadsToLeaf (h : Holding) (i : ℕ) : ℕ → ℕ → Type 0 where
  by_pointer : i < table_count h → LeadsToLeaf h i (entry_block h i) (entry h i)
  by_leaf : (place x : ℕ) → IsInChain h i place x → (leaf_in h x).next ≢ 0 → LeadsToLeaf h i x (leaf_in h x).next

-- ---- what is asked for

-- The view hasn't this block, without which the chain of one of these pointers isn't gone along: one on the way to the pointer, or a leaf, which is a
-- data block of a group.
pub data IsNeededFor (v : Seen) (h : Holding) (wanted : ℕ → Type 0) (m : Missing) : Type 0 where
  of_table : (i : ℕ) → wanted i → IsNeeded v h (λ k. k ≡ 8 * i / unit h) 0 m → IsNeededFor v h wanted m
  a_leaf : (i : ℕ) → wanted i → LeadsToLeaf h i m.from m.block → HasDataBlock v m.block → m.lock ≡ inode_lock h.own → m.plain ≡ false → v.block_at m.block ≡ None → IsNeededFor v h wanted m
