-- What breaks which rule at which block, inside one inode.
use Rattle.std.specs.Prelude.{ℕ, suc, ◌≡◌, ◌≢◌, ◌+◌, ◌*◌, ◌<◌, ◌≤◌, true, false}
use Rattle.gfs2_layout.specs.Headers.{HasHeader}
use Rattle.gfs2_layout.specs.Holding.{Holding, bytes_at}
use Rattle.gfs2_layout.specs.Inode.{Leads, dinode_in, height_in, is_directory_in, fan, span, content_count}
use Rattle.gfs2_layout.specs.Structures.{dinode_length, is_regular}

-- `Needs h b kind format`: the header that the place of block b needs
pub data Needs (h : Holding) : ℕ → ℕ → ℕ → Type 0 where
  of_dinode : Needs h h.own 4 400
  of_indirect : (b k level first x : ℕ) → Leads h b k (suc level) first x → Needs h x 5 500
  of_table : (b k first x : ℕ) → Leads h b k 0 first x → is_directory_in h ≡ true → Needs h x 7 700

-- `IsBroken h rule b`: block b breaks this rule
pub data IsBroken (h : Holding) : ℕ → ℕ → Type 0 where
  -- 1: a block lacks the header that its place needs
  no_header : (b kind format : ℕ) → Needs h b kind format → ¬ (HasHeader kind format (bytes_at h b)) → IsBroken h 1 b
  -- 7: the dinode's own address isn't its block, or its formal number is zero
  other_address : (dinode_in h).num.address ≢ h.own → IsBroken h 7 h.own
  no_number : (dinode_in h).num.number ≡ 0 → IsBroken h 7 h.own
  -- 8: its mode isn't a directory's or a regular file's, or its size, its height and its pointers don't go together
  no_mode : is_directory_in h ≡ false → is_regular (dinode_in h) ≡ false → IsBroken h 8 h.own
  too_high : 10 < height_in h → IsBroken h 8 h.own
  too_large_for_dinode : height_in h ≡ 0 → h.size < dinode_length + (dinode_in h).size → IsBroken h 8 h.own
  too_large_for_height : (level : ℕ) → height_in h ≡ suc level → fan h.size dinode_length * span h.size level < content_count h → IsBroken h 8 h.own
  past_end : (b k level first c : ℕ) → Leads h b k level first c → content_count h ≤ first → IsBroken h 8 h.own
