-- What a view shows of an inode.
use Rattle.std.specs.Prelude.{ℕ, ◌≡◌, List, Some, IsSome}
use Rattle.gfs2_layout.specs.Holding.{Holding, bytes_at}
use Rattle.gfs2_layout.specs.Inode.{Leads}
use Rattle.glock_names.specs.Views.{Seen}

-- those blocks of the inode that the view has hold what they hold in the view
abbrev pub IsAsSeen : Seen → Holding → Type 0
IsAsSeen v h = (b : ℕ) (bytes : List ℕ) → IsSome (h.cell b) → v.block_at b ≡ Some bytes → bytes_at h b ≡ bytes

-- The holding may be that of the inode with its dinode in block a, as far as the view tells: it has the dinode's block and
-- each block to which a pointer of it leads.
pub record IsShown (v : Seen) (a : ℕ) (h : Holding) : Type 0 where
  pub own : h.own ≡ a
  pub size : h.size ≡ v.size
  pub dinode : IsSome (h.cell h.own)
  pub led_to : (b k level first c : ℕ) → Leads h b k level first c → IsSome (h.cell c)
  pub same : IsAsSeen v h

-- the block of which a rule is told is this one
abbrev pub IsAtBlock : ℕ → ℕ → ℕ → Type 0
IsAtBlock a rule b = b ≡ a
