-- The four sizes of blocks, as a test.
use Rattle.std.specs.Prelude.{ℕ, ◌==◌, ◌||◌, Bool}

abbrev pub is_block_size : ℕ → Bool
is_block_size n = n == 512 || (n == 1024 || (n == 2048 || n == 4096))
