-- What becomes of a directory's table.
use Rattle.std.specs.Prelude.{ℕ, ◌≡◌, ◌+◌, ◌*◌, ◌/◌, ◌<◌, ◌&&◌, Bool, nat_le, nat_lt, List, length, Some}
use Rattle.gfs2_layout.specs.Holding.{Holding, InChain, part_at}
use Rattle.gfs2_layout.specs.Inode.{dinode_in, entry, height_in, table_count}
use Rattle.pointer_tables.specs.Directories.{IsPlaced, IsTreeSound}

-- index i is one of so many from this one on
abbrev pub is_within : ℕ → ℕ → ℕ → Bool
is_within from count i = nat_le from i && nat_lt i (from + count)

-- the bytes of each leaf stay, and no other block becomes one
pub record LeavesStay (h g : Holding) : Type 0 where
  pub leaves : (x hash place : ℕ) → part_at h x ≡ Some (InChain hash place) → g.cell x ≡ h.cell x
  pub parts : (x hash place : ℕ) → part_at g x ≡ Some (InChain hash place) → part_at h x ≡ Some (InChain hash place)

-- The table is twice as long: each pointer has become two neighbouring ones. The dinode says so, and how many blocks more there are.
pub record IsDoubled (h g : Holding) (taken : List ℕ) : Type 0 where
  pub own : g.own ≡ h.own
  pub size : g.size ≡ h.size
  pub sound : IsTreeSound g
  pub placed : IsPlaced g
  pub dinode : dinode_in g ≡ record (dinode_in h) {
    depth = (dinode_in h).depth + 1;
    size = 2 * (dinode_in h).size;
    height = height_in g;
    blocks = (dinode_in h).blocks + length taken;
  }
  pub entries : (i : ℕ) → i < table_count g → entry g i ≡ entry h (i / 2)
  pub stays : LeavesStay h g
