-- The sizes of blocks, and the place of the superblock on a device.
use Rattle.std.specs.Prelude.{ℕ, ◌≡◌, ◌⊎◌, ◌/◌}

-- the four block sizes, in bytes
abbrev pub IsBlockSize : ℕ → Type 0
IsBlockSize n = (n ≡ 512) ⊎ (n ≡ 1024) ⊎ (n ≡ 2048) ⊎ (n ≡ 4096)

-- the superblock stands at byte 65,536
abbrev pub superblock_place : ℕ → ℕ
superblock_place size = 65536 / size
