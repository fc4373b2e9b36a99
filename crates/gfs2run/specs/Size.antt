-- The block size that a command's words ask for.
use Rattle.std.specs.Prelude.{ℕ, if◌then◌else◌, List, [], ◌∷◌, codes, Option, Some, None}
use Rattle.std.specs.Str.{bytes_eq}

-- the block size that a word writes
abbrev pub size_written : List ℕ → Option ℕ
size_written w =
    if bytes_eq w (codes "512") then Some 512
    else if bytes_eq w (codes "1024") then Some 1024
    else if bytes_eq w (codes "2048") then Some 2048
    else if bytes_eq w (codes "4096") then Some 4096
    else None

-- that of the first of these words
abbrev pub first_size : List (List ℕ) → Option ℕ
first_size [] = None
first_size (w ∷ ws) = size_written w

-- that behind the first `--bsize`
abbrev pub size_given : List (List ℕ) → Option ℕ
size_given [] = None
size_given (w ∷ ws) = if bytes_eq w (codes "--bsize") then first_size ws else size_given ws
