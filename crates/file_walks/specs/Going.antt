-- What the code that walks down holds, as what it stands for.
use Rattle.std.specs.Prelude.{ℕ, ◌≡◌, ◌+◌, ◌-◌, ◌*◌, if◌then◌else◌, List, length, Option, None, Some}
use Rattle.gfs2_layout.specs.Bytes.{u64_at}
use Rattle.gfs2_layout.specs.Holding.{Holding, bytes_at}
use Rattle.gfs2_layout.specs.Inode.{content_count, header_length, height_in, pieces}
use Rattle.gfs2_layout.specs.Structures.{is_directory}
use Rattle.gfs2_layout.specs.declared.dinode.Dinode.{Dinode}
use Rattle.file_walks.specs.Walks.{IsPlace, IsPassed}
use Rattle.file_walks.specs.declared.walks.Stop.{Stop}
use Rattle.file_walks.specs.declared.walks.Way.{Way}

-- how much of the content a block carries, by what the dinode says, and how many blocks of content its size asks for
abbrev pub unit_in : ℕ → Dinode → ℕ
unit_in size d = if is_directory d then size - header_length else size

abbrev pub count_in : ℕ → Dinode → ℕ
count_in size d = pieces d.size (unit_in size d)

-- the way begins at the inode's dinode
pub record IsWayIn (h : Holding) (way : Way) : Type 0 where
  pub own : way.inode ≡ h.own
  pub height : way.height ≡ height_in h
  pub count : way.count ≡ content_count h

-- these are the bytes of a block of the inode
pub record AreBytesOf (h : Holding) (b : ℕ) (bytes : List ℕ) : Type 0 where
  pub size : length bytes ≡ h.size
  pub same : bytes_at h b ≡ bytes

-- the first stop of a walk; none where the tree has no such place
abbrev pub IsBegun : Holding → ℕ → ℕ → Option Stop → Type 0
IsBegun h level j None = ¬ (IsPlace h level j)
IsBegun h level j (Some stop) = IsPlace h level j × IsPassed h level j stop

-- the stop of pointer k of a block, whose bytes are these, with its pointers from a byte on
abbrev pub stop_at : ℕ → ℕ → ℕ → ℕ → List ℕ → Stop
stop_at from start k level bytes = record { pointer = record { from = from; start = start; index = k }; level = level; block = u64_at (start + 8 * k) bytes }
