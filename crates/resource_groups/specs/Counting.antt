-- The states of the first places of a bitmap.
use Rattle.std.specs.Prelude.{ℕ, List, map}
use Rattle.std.specs.List.{range_with_len}
use Rattle.gfs2_layout.specs.Bitmap.{state_at}

abbrev pub states_upto : List ℕ → ℕ → List ℕ
states_upto bits n = map (state_at bits) (range_with_len 0 n)
