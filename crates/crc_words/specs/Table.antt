-- What the tables of the fast bodies hold.
use Rattle.std.specs.Prelude.{◌≡◌, ℕ, ◌+◌, ◌*◌, ◌<◌, List, slice_index}
use Rattle.crc_words.specs.Remainder.{after_bits}

-- eight rows of 256: row r holds at place b what b is after 8 * (r + 1) steps, and after `delay` more
pub record IsTable (polynomial delay : ℕ) (table : List ℕ) : Type 0 where
  pub entries : (row byte : ℕ) → row < 8 → byte < 256 → slice_index table (256 * row + byte) ≡ after_bits polynomial (8 * row + 8 + delay) byte
