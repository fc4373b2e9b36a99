-- What `fill` writes.
use Rattle.std.specs.Prelude.{ℕ, ◌≡◌, ◌<◌, ◌≤◌, [], ◌∷◌, ◌++◌, codes, replicate, Some}
use Rattle.std.specs.Fmt.{decimal}
use Rattle.hex.specs.Hex.{encode_lower}
use Rattle.script_lang.specs.Words.{transfer_limit, content_in}

-- `fill`, a byte in hexadecimal and a count, parted by colons, write this byte so many times
abbrev pub FillsBytes : Type 0
FillsBytes = (byte n : ℕ) → byte < 256 → 1 ≤ n → n ≤ transfer_limit → content_in (codes "fill:" ++ encode_lower (byte ∷ []) ++ codes ":" ++ decimal n) ≡ Some (replicate n byte)
