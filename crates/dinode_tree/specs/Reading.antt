-- What is read of an inode.
use Rattle.std.specs.Prelude.{ℕ, zero, suc, ◌≡◌, ◌≢◌, ◌⊎◌, ⊤, true, ◌+◌, ◌-◌, ◌*◌, ◌/◌, ◌%◌, ◌<◌, ◌≤◌, ◌==◌, ◌&&◌, nat_lt, false, if◌then◌else◌, List, length, take, drop, Option, None, Some}
use Rattle.gfs2_layout.specs.Headers.{HasHeader}
use Rattle.gfs2_layout.specs.Holding.{Holding, bytes_at}
use Rattle.gfs2_layout.specs.Inode.{Leads, Fits, dinode_in, is_directory_in, header_length, height_in, fan, pointer, span, unit, content_block, content_count, content_of}
use Rattle.gfs2_layout.specs.Structures.{dinode_length, is_regular}
use Rattle.glock_names.specs.Views.{Seen}
use Rattle.glock_names.specs.declared.LockName.{LockName}
use Rattle.glock_names.specs.declared.steps.Missing.{Missing}

-- ---- the blocks of content

-- how many blocks of content the pointers of a dinode of this height reach
abbrev pub reach : ℕ → ℕ → ℕ
reach size zero = 0
reach size (suc level) = fan size dinode_length * span size level

-- where a pointer leads; 0 leads nowhere
abbrev pub target : ℕ → Option ℕ
target pointer = if pointer == 0 then None else Some pointer

-- the block of content with index i; none is a hole, or lies past what the pointers reach
abbrev pub block_at : Holding → ℕ → Option ℕ
block_at h i = if nat_lt i (reach h.size (height_in h)) then target (content_block h i) else None

-- each indirect block from block b down, so many levels, to the block of content with index i below it has its header
abbrev pub IsHeadedDown : Holding → ℕ → ℕ → ℕ → Type 0
IsHeadedDown h zero b i = ⊤
IsHeadedDown h (suc level) b i = HasHeader 5 500 (bytes_at h b) × IsHeadedDown h level (pointer h header_length b (i / span h.size level)) (i % span h.size level)

-- so has each on the way from the dinode to the block of content with index i
abbrev pub IsHeadedWay : Holding → ℕ → Type 0
IsHeadedWay h i =
    let level = height_in h - 1 in
    IsHeadedDown h level (pointer h dinode_length h.own (i / span h.size level)) (i % span h.size level)

-- the block of content with index i, where there is one, has such a way; a directory's has a header of its own
abbrev pub IsHeadedAt : Holding → ℕ → Type 0
IsHeadedAt h i = (b : ℕ) → block_at h i ≡ Some b → IsHeadedWay h i × (is_directory_in h ≡ true → HasHeader 7 700 (bytes_at h b))

-- so have those that begin between two bytes of the content
abbrev pub AreHeaded : Holding → ℕ → ℕ → Type 0
AreHeaded h at end = (i : ℕ) → at ≤ i * unit h → i * unit h < end → IsHeadedAt h i

-- ---- ranges of the content

-- the bytes of the content from `at` on, so many of them or up to its end
abbrev pub content_range : Holding → ℕ → ℕ → List ℕ
content_range h at len = take len (drop at (content_of h))

-- the block of content with index i has bytes of this range
pub record IsInRange (h : Holding) (at len i : ℕ) : Type 0 where
  pub ends : at < (i + 1) * unit h
  pub begins : i * unit h < at + len
  pub within : i < content_count h

-- Each block of content before the one with byte `at` is a whole block, or a hole. It tells at which byte of the content
-- a block begins; of an inode that is sound all blocks are whole, and from byte 0 on there is nothing to tell.
abbrev pub AreWholeBefore : Holding → ℕ → Type 0
AreWholeBefore h at = (i b : ℕ) → i < at / unit h → i < content_count h → block_at h i ≡ Some b → length (bytes_at h b) ≡ h.size

-- ---- blocks that are needed

-- the lock that covers an inode's blocks
abbrev pub inode_lock : ℕ → LockName
inode_lock a = record { kind = 2; number = a }

-- A block without which the block of content with one of the wanted indexes isn't found, or isn't read: the dinode's, or
-- one to which a pointer on the way leads, so many levels above content at least.
pub data IsOnWay (h : Holding) (wanted : ℕ → Type 0) (least : ℕ) (m : Missing) : Type 0 where
  the_dinode : m.block ≡ h.own → m.from ≡ h.own → m.plain ≡ false → IsOnWay h wanted least m
  led_to : (i k level first : ℕ) → wanted i → least ≤ level → Leads h m.from k level first m.block → first ≤ i → i < first + span h.size level
      → m.plain ≡ (level == 0 && is_regular (dinode_in h)) → IsOnWay h wanted least m

-- the view hasn't this block of the inode, which is needed
pub record IsNeeded (v : Seen) (h : Holding) (wanted : ℕ → Type 0) (least : ℕ) (m : Missing) : Type 0 where
  pub lock : m.lock ≡ inode_lock h.own
  pub absent : v.block_at m.block ≡ None
  pub way : IsOnWay h wanted least m

-- ---- a dinode that was looked at

-- it has its header, its own address, a formal number and a mode, and its content fits it or its height
pub record IsRightDinode (h : Holding) : Type 0 where
  pub header : HasHeader 4 400 (bytes_at h h.own)
  pub address : (dinode_in h).num.address ≡ h.own
  pub number : (dinode_in h).num.number ≢ 0
  pub mode : (is_directory_in h ≡ true) ⊎ (is_regular (dinode_in h) ≡ true)
  pub fits : Fits h
