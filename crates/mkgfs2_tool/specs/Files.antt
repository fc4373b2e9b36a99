-- The blocks of a new file: its dinode, the blocks of pointers level by level from the top, and its content, each number counted from the dinode on.
use Rattle.std.specs.Prelude.{ℕ, zero, suc, ◌≡◌, ◌≤◌, ◌⊎◌, ◌+◌, ◌-◌, ◌*◌, ◌/◌, ◌^◌, ◌==◌, min, nat_le, if◌then◌else◌, List}
use Rattle.gfs2_layout.specs.Structures.{dinode_length}
use Rattle.std.specs.List.{range_with_len}
use Rattle.mkgfs2_tool.specs.Groups.{parts}
use Rattle.mkgfs2_tool.specs.declared.files.Shape.{Shape}
use Rattle.mkgfs2_tool.specs.declared.files.Part.{Part}
use Rattle.mkgfs2_tool.specs.declared.files.Part.TheVariants.{Top, Pointers, Content}

-- a block is of one of the four sizes, and there are no more bytes than the largest journal has
pub record IsShape (f : Shape) : Type 0 where
  pub size : (f.size ≡ 512) ⊎ ((f.size ≡ 1024) ⊎ ((f.size ≡ 2048) ⊎ (f.size ≡ 4096)))
  pub bytes : f.bytes ≤ 2 ^ 28

-- how many pointers of eight bytes stand in a dinode, behind its own bytes, and in a block of pointers, behind 24
abbrev pub dinode_pointers : ℕ → ℕ
dinode_pointers size = (size - dinode_length) / 8

abbrev pub block_pointers : ℕ → ℕ
block_pointers size = (size - 24) / 8

abbrev pub content_blocks : Shape → ℕ
content_blocks f = parts f.bytes f.size

-- The least height at which the content fits: at 0 it stands in the dinode. No file of a new image is higher than three.
abbrev pub height : Shape → ℕ
height f =
    if nat_le f.bytes (f.size - dinode_length) then 0
    else if nat_le (content_blocks f) (dinode_pointers f.size) then 1
    else if nat_le (content_blocks f) (dinode_pointers f.size * block_pointers f.size) then 2
    else 3

-- how many blocks there are at a level: the lowest is the content, and each block above it leads to as many as it has pointers
abbrev pub level_blocks : Shape → ℕ → ℕ
level_blocks f level = parts (content_blocks f) (block_pointers f.size ^ (height f - level))

-- the number of the first block at a level; the dinode is level 0
abbrev pub level_start : Shape → ℕ → ℕ
level_start f zero = 0
level_start f (suc zero) = 1
level_start f (suc (suc level)) = level_start f (suc level) + level_blocks f (suc level)

-- how many blocks the file has in all
abbrev pub file_blocks : Shape → ℕ
file_blocks f = level_start f (1 + height f)

-- how many pointers a block at a level has
abbrev pub fan : Shape → ℕ → ℕ
fan f level = if level == 0 then dinode_pointers f.size else block_pointers f.size

-- the blocks that the pointers of a block lead to, where this is block `index` of its level
abbrev pub children : Shape → ℕ → ℕ → List ℕ
children f level index = range_with_len (level_start f (1 + level) + index * fan f level) (min (fan f level) (level_blocks f (1 + level) - index * fan f level))

-- ---- what a block of a file is

-- block `n` is at this level, which is the first that reaches so far
abbrev pub part_at : Shape → ℕ → ℕ → Part
part_at f level n = if level == height f then Content (n - level_start f level) else Pointers level (n - level_start f level)

abbrev pub part : Shape → ℕ → Part
part f n =
    if n == 0 then Top
    else if nat_le (level_start f 2) n then (if nat_le (level_start f 3) n then part_at f 3 n else part_at f 2 n)
    else part_at f 1 n
