-- A hashed directory as a view shows it, and the inode that it is, its leaves aside.
use Rattle.std.specs.Prelude.{ℕ, ◌≡◌, ◌≢◌, ◌+◌, ◌<◌, true, length, IsSome, None, Some}
use Rattle.gfs2_layout.specs.Headers.{HasHeader}
use Rattle.gfs2_layout.specs.Holding.{Holding, Part, Itself, bytes_at, part_at}
use Rattle.gfs2_layout.specs.Inode.{Fits, HasTree, block_count, dinode_in, entry, is_hashed_in, leaf_in, table_count}
use Rattle.glock_names.specs.Views.{Seen}
use Rattle.dinode_tree.specs.Shown as inode

-- ---- chains

-- Block x is the leaf so many behind the one to which pointer i of the table leads. So a chain is followed, whether it is right or wrong; a pointer
-- that is zero has none.
pub data IsInChain (h : Holding) (i : ℕ) : ℕ → ℕ → Type 0 where
  chain_head : i < table_count h → entry h i ≢ 0 → IsInChain h i 0 (entry h i)
  chain_next : (place x : ℕ) → IsInChain h i place x → (leaf_in h x).next ≢ 0 → IsInChain h i (place + 1) (leaf_in h x).next

-- ---- what a view shows

-- The holding may be that of the hashed directory with its dinode in block a, as far as the view tells: it has the dinode's block,
-- each block to which a pointer of it leads, and each leaf of its chains.
pub record IsShown (v : Seen) (a : ℕ) (h : Holding) : Type 0 where
  pub inode : inode.IsShown v a h
  pub hashed : is_hashed_in h ≡ true
  pub leaves : (i place x : ℕ) → IsInChain h i place x → x ≢ 0 → IsSome (h.cell x)

-- ---- an inode, its leaves aside

-- The rules of an inode but those of its leaves: its dinode's, and those of the blocks below the dinode.
pub record IsTreeSound (h : Holding) : Type 0 where
  pub whole : (b : ℕ) (p : Part) → part_at h b ≡ Some p → length (bytes_at h b) ≡ h.size
  pub header : HasHeader 4 400 (bytes_at h h.own)
  pub address : (dinode_in h).num.address ≡ h.own
  pub number : (dinode_in h).num.number ≢ 0
  pub fits : Fits h
  pub tree : HasTree h
  pub blocks : (dinode_in h).blocks ≡ block_count h

-- Where its blocks lie: block 0 is none of them, each is one of the image, and its dinode's is its dinode alone.
pub record IsPlaced (h : Holding) : Type 0 where
  pub own : part_at h h.own ≡ Some Itself
  pub only : (b : ℕ) → part_at h b ≡ Some Itself → b ≡ h.own
  pub nobody : part_at h 0 ≡ None
  pub inside : (b : ℕ) → IsSome (h.cell b) → b < h.count
