-- What carries the content of an inode, before it is cut at the inode's size.
use Rattle.std.specs.Prelude.{ℕ, ◌==◌, if◌then◌else◌, List, drop, flat_map}
use Rattle.std.specs.List.{range_with_len}
use Rattle.gfs2_layout.specs.Structures.{dinode_length}
use Rattle.gfs2_layout.specs.Holding.{Holding, bytes_at}
use Rattle.gfs2_layout.specs.Inode.{height_in, content_block, content_count, carried}

-- what its first so many blocks of content carry
abbrev pub pieces_before : Holding → ℕ → List ℕ
pieces_before h n = flat_map (λ i. carried h (content_block h i)) (range_with_len 0 n)

abbrev pub carrier_of : Holding → List ℕ
carrier_of h = if height_in h == 0 then drop dinode_length (bytes_at h h.own) else pieces_before h (content_count h)
