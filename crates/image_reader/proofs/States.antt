-- The states of a group's blocks, counted.
use Rattle.std.proofs.Common.{◌≡◌, ℕ, ◌+◌, ◌==◌, cond, List, arith}
use Rattle.std.proofs.lemmas.List.FromFn.{sum_by-map-range_with_len_more}
use Rattle.gfs2_layout.specs.Bitmap.{state_at}
use Rattle.gfs2_layout.specs.Groups.{count_of}
use Rattle.image_reader.specs.Reading.{states_of}

-- one more block
pub states_more : (state : ℕ) (bits : List ℕ) (n : ℕ) → count_of state (states_of bits (n + 1)) ≡ count_of state (states_of bits n) + cond (state_at bits n == state) 1 0
states_more state bits n = sum_by-map-range_with_len_more (λ s. cond (s == state) 1 0) (state_at bits) 0 n n (omega arith)
