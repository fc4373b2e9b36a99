-- The number that a word writes.
use Rattle.std.specs.Prelude.{ℕ, ◌≡◌, ◌≢◌, ◌^◌, ◌<◌, ◌&&◌, nat_le, if◌then◌else◌, List, Option, Some, None, MatchOption}
use Rattle.std.specs.Str.{bytes_eq}
use Rattle.std.specs.Str.Parse.{digits_value}
use Rattle.std.specs.Fmt.{decimal}

-- the number that a word writes in decimal, without a sign or a leading zero, if it is at least the one and at most the other
abbrev pub number_in : ℕ → ℕ → List ℕ → Option ℕ
number_in low high w =
    let n = digits_value 10 w in
    if bytes_eq w (decimal n) && nat_le low n && nat_le n high then Some n else None

-- a word writes a number below 2 ^ 64 in decimal, or none
abbrev pub IsNumber : List ℕ → Option ℕ → Type 0
IsNumber w r = MatchOption r ((n : ℕ) → n < 2 ^ 64 → w ≢ decimal n) (λ n. w ≡ decimal n)
