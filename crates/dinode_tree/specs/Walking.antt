-- What the code that walks down an inode holds, as what it stands for.
use Rattle.std.specs.Prelude.{ℕ, ◌≡◌, ◌-◌, ◌<◌, ◌≤◌, ◌==◌, false, if◌then◌else◌, List, length, take, drop, flat_map, Option, None, Some}
use Rattle.std.specs.List.{range_with_len}
use Rattle.gfs2_layout.specs.Holding.{Holding, Itself, bytes_at}
use Rattle.gfs2_layout.specs.Inode.{Leads, height_in, span, descend, unit, carried, content_block, content_count}
use Rattle.gfs2_layout.specs.Structures.{dinode_length}
use Rattle.glock_names.specs.Views.{Seen}
use Rattle.glock_names.specs.declared.steps.Missing.{Missing}
use Rattle.dinode_tree.specs.Reading.{IsHeadedDown, IsHeadedWay, reach, block_at, inode_lock}
use Rattle.dinode_tree.specs.declared.inode.Inode.{Inode}
use Rattle.dinode_tree.specs.declared.ways.Link.{Link}

-- the inode's dinode is what the view has in this block
pub record IsIn (v : Seen) (inode : Inode) : Type 0 where
  pub bytes : v.block_at inode.block ≡ Some inode.bytes.now
  pub size : v.size ≡ length inode.bytes.now

-- an inode of which each block is its dinode's: what the dinode says is read from it
abbrev pub held : Inode → Holding
held inode = record { size = length inode.bytes.now; count = 0; own = inode.block; cell = λ b. Some (record { part = Itself; bytes = inode.bytes.now }) }

-- the inode's dinode is that of the holding
pub record IsOf (h : Holding) (inode : Inode) : Type 0 where
  pub own : h.own ≡ inode.block
  pub size : h.size ≡ length inode.bytes.now
  pub bytes : bytes_at h h.own ≡ inode.bytes.now

-- a pointer on the way to the block of content with this index
pub record IsLink (h : Holding) (index : ℕ) (link : Link) : Type 0 where
  pub wanted : link.way.index ≡ index
  pub least : link.way.left ≤ index
  pub left : link.way.left < span h.size link.way.level
  pub leads : (k : ℕ) × Leads h link.way.from k link.way.level (index - link.way.left) link.block
  pub within : index < reach h.size (height_in h)
  pub block : content_block h index ≡ descend h link.way.level link.block link.way.left
  pub headed : IsHeadedDown h link.way.level link.block link.way.left → IsHeadedWay h index

-- none: there is no such block of content
abbrev pub IsStep : Holding → ℕ → Option Link → Type 0
IsStep h index None = block_at h index ≡ None
IsStep h index (Some link) = IsLink h index link

-- the dinode's block is the one that is missing
abbrev pub missing_dinode : ℕ → Missing
missing_dinode a = record { lock = inode_lock a; block = a; plain = false; from = a }

-- what the blocks of content carry, one after another, up to the end of the last
abbrev pub carried_all : Holding → List ℕ
carried_all h = flat_map (λ i. carried h (content_block h i)) (range_with_len 0 (content_count h))

-- the bytes that the content is the front of: those behind the dinode, or what its blocks carry
abbrev pub laid_out : Holding → List ℕ
laid_out h = if height_in h == 0 then drop dinode_length (bytes_at h h.own) else carried_all h

-- the part of these from one place to another
abbrev pub laid_range : Holding → ℕ → ℕ → List ℕ
laid_range h at end = take (end - at) (drop at (laid_out h))

-- so many of the blocks of content carry as much as a block does
abbrev pub ArePieces : Holding → ℕ → Type 0
ArePieces h n = (i : ℕ) → i < n → length (carried h (content_block h i)) ≡ unit h
