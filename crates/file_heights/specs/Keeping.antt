-- What a change of a file leaves of the blocks that it keeps, besides what is said of their content and of where they stand.
use Rattle.std.specs.Prelude.{ℕ, suc, ◌≡◌, IsSome, take}
use Rattle.gfs2_layout.specs.Holding.{Holding, bytes_at}
use Rattle.gfs2_layout.specs.Inode.{header_length}
use Rattle.dinode_tree.specs.Pads.{KeepsPads}
use Rattle.growth_laws.specs.Files.{IsPlaced}

-- The pads and reserved bytes of the dinode stay; and of each indirect block all that stands before its pointers.
pub record KeepsHeads (h g : Holding) : Type 0 where
  pub pads : KeepsPads (bytes_at h h.own) (bytes_at g h.own)
  pub headers : (b level first : ℕ) → IsPlaced h b (suc level) first → IsSome (g.cell b) → take header_length (bytes_at g b) ≡ take header_length (bytes_at h b)
