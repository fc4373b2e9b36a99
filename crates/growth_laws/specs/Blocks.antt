-- Steps as the bytes of blocks: a pointer put into a block, and a block that comes or goes.
use Rattle.std.specs.Prelude.{ℕ, suc, ◌≡◌, ◌+◌, ◌*◌, ◌==◌, if◌then◌else◌, List, length, replicate, Option, None, Some}
use Rattle.std.specs.Int.{w64}
use Rattle.gfs2_layout.specs.Bytes.{u64_at, with_number}
use Rattle.gfs2_layout.specs.Headers.{HasHeader}
use Rattle.gfs2_layout.specs.Holding.{Pointed, Cell, Holding}
use Rattle.gfs2_layout.specs.Inode.{header_length}
use Rattle.gfs2_layout.specs.Structures.{dinode_length}

-- where the pointers of a block of the inode begin
abbrev pub start_in : Holding → ℕ → ℕ
start_in h x = if x == h.own then dinode_length else header_length

-- a block's bytes with another pointer k
abbrev pub with_pointer : ℕ → ℕ → ℕ → List ℕ → List ℕ
with_pointer start k to bytes = with_number w64 (start + 8 * k) to bytes

-- a block with other bytes, and the same part
abbrev pub rewritten : (List ℕ → List ℕ) → Option Cell → Option Cell
rewritten f None = None
rewritten f (Some c) = Some (record c { bytes = f c.bytes })

-- the inode's blocks with other bytes in one of them
abbrev pub rewritten_cells : Holding → ℕ → List ℕ → ℕ → Option Cell
rewritten_cells h x bytes y = if y == x then rewritten (λ old. bytes) (h.cell y) else h.cell y

-- the inode's blocks with another pointer in one of them
abbrev pub repointed : Holding → ℕ → ℕ → ℕ → ℕ → Option Cell
repointed h from k to x = if x == from then rewritten (with_pointer (start_in h from) k to) (h.cell x) else h.cell x

-- A new block, whole: of zeros on the level of content, and further up with its header and pointers that lead nowhere.
pub record IsNewBlock (size level : ℕ) (bytes : List ℕ) : Type 0 where
  pub whole : length bytes ≡ size
  pub zeros : level ≡ 0 → bytes ≡ replicate size 0
  pub header : (below : ℕ) → level ≡ suc below → HasHeader 5 500 bytes
  pub leads_nowhere : (below j : ℕ) → level ≡ suc below → u64_at (header_length + 8 * j) bytes ≡ 0

-- with block b, of these bytes, to which pointer k of a block leads
abbrev pub filled_cells : Holding → ℕ → ℕ → ℕ → ℕ → ℕ → List ℕ → ℕ → Option Cell
filled_cells h from k level first b bytes x = if x == b then Some (record { part = Pointed from k level first; bytes = bytes }) else repointed h from k b x

-- without block b, to which pointer k of a block led
abbrev pub freed_cells : Holding → ℕ → ℕ → ℕ → ℕ → Option Cell
freed_cells h from k b x = if x == b then None else repointed h from k 0 x
