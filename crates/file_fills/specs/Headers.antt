-- What stands before the pointers of a file's blocks.
use Rattle.std.specs.Prelude.{ℕ, suc, ◌≡◌, IsSome, List, take, Contains}
use Rattle.gfs2_layout.specs.Holding.{Holding, bytes_at}
use Rattle.gfs2_layout.specs.Inode.{header_length}
use Rattle.gfs2_layout.specs.declared.dinode.Dinode.{Dinode}
use Rattle.dinode_tree.specs.Pads.{dinode_over}
use Rattle.growth_laws.specs.Files.{IsPlaced}
use Rattle.file_walks.specs.New.{new_bytes}

-- Whatever dinode is put over either, the bytes are the same: so the two begin with the same bytes but for those of a dinode's fields. Pads and reserved bytes are no field.
abbrev pub HaveSamePads : List ℕ → List ℕ → Type 0
HaveSamePads one other = (d : Dinode) (behind : List ℕ) → dinode_over d one behind ≡ dinode_over d other behind

-- Pads and reserved bytes of the dinode stay. Each indirect block that was there keeps its header, pads too; that of a block that was taken is a new one's.
pub record KeepsHeaders (h g : Holding) (taken : List ℕ) : Type 0 where
  pub pads : HaveSamePads (bytes_at h h.own) (bytes_at g h.own)
  pub old : (b level first : ℕ) → IsSome (h.cell b) → IsPlaced g b (suc level) first → take header_length (bytes_at g b) ≡ take header_length (bytes_at h b)
  pub new : (b level first : ℕ) → Contains taken b → IsPlaced g b (suc level) first → take header_length (bytes_at g b) ≡ take header_length (new_bytes h.size 1)
