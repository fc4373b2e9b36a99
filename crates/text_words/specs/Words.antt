-- The words of a printed line.
use Rattle.std.specs.Prelude.{ℕ, List, ◌∷◌}
use Rattle.std.specs.Fmt.{decimal}

-- a word, after the space that parts it from what stands before
abbrev pub word : List ℕ → List ℕ
word bytes = 32 ∷ bytes

-- a number as a word, in decimal without leading zeros
abbrev pub number : ℕ → List ℕ
number n = word (decimal n)
