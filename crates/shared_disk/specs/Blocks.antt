-- Blocks of one size in a row of bytes.
use Rattle.std.specs.Prelude.{ℕ, ◌*◌, List, take, drop}

-- the block with this number
abbrev pub block_in : ℕ → List ℕ → ℕ → List ℕ
block_in size bytes k = take size (drop (k * size) bytes)
