-- The header of a block of metadata.
use Rattle.std.specs.Prelude.{ℕ, ◌≡◌, List}
use Rattle.gfs2_layout.specs.Bytes.{u32_at}
use Rattle.gfs2_layout.specs.Structures.{magic}

-- the block begins with the magic, this kind and this format
pub record HasHeader (kind format : ℕ) (bytes : List ℕ) : Type 0 where
  pub magic_is : u32_at 0 bytes ≡ magic
  pub kind_is : u32_at 4 bytes ≡ kind
  pub format_is : u32_at 16 bytes ≡ format
