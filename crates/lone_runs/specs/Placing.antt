-- Blocks that are apart.
use Rattle.std.specs.Prelude.{ℕ, ◌≡◌, ◌<◌, List, length, slice_index}

-- no two of these numbers are one
abbrev pub AreApart : List ℕ → Type 0
AreApart xs = (p q : ℕ) → p < length xs → q < length xs → slice_index xs p ≡ slice_index xs q → p ≡ q
