-- A part of a list of bytes, and the list with other bytes in that part.
use Rattle.std.specs.Prelude.{ℕ, ◌+◌, List, ◌++◌, take, drop}
use Rattle.std.specs.List.{refill}

abbrev pub part : List ℕ → ℕ → ℕ → List ℕ
part bytes at len = take len (drop at bytes)

-- w takes the place of the len bytes from `at` on, as far as it goes
abbrev pub with_part : List ℕ → ℕ → ℕ → List ℕ → List ℕ
with_part bytes at len w = take at bytes ++ (refill len (part bytes at len) w ++ drop (at + len) bytes)
