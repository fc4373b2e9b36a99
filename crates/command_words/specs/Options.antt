-- Options: a name and a value, each a word of its own.
use Rattle.std.specs.Prelude.{ℕ, ◌+◌, ◌==◌, ◌||◌, Bool, if◌then◌else◌, List, [], ◌∷◌, Option, Some, None, is_some, option_map, Result, Ok, Err}
use Rattle.std.specs.Str.{bytes_eq}
use Rattle.number_words.specs.Numbers.{number_in}
use Rattle.uuid.specs.Text.{parsed}
use Rattle.command_words.specs.declared.command.Usage.{Usage}

-- ---- values

-- what an option takes: a number that is at least the one and at most the other, the size of the disk's blocks, or an identifier of sixteen bytes
pub data Takes : Type 0 where
  Number : ℕ → ℕ → Takes
  BlockSize : Takes
  Identifier : Takes

pub data Value : Type 0 where
  Whole : ℕ → Value
  Bytes : List ℕ → Value

abbrev pub is_block_size : ℕ → Bool
is_block_size n = (n == 512) || (n == 1024) || (n == 2048) || (n == 4096)

-- the number that a word writes, if blocks may have this size and the disk's have it
abbrev pub size_in : ℕ → List ℕ → Option ℕ
size_in block_size w = if is_block_size block_size then number_in block_size block_size w else None

-- the value that a word is, on a disk with blocks of this size
abbrev pub value_in : ℕ → Takes → List ℕ → Option Value
value_in block_size (Number low high) w = option_map Whole (number_in low high w)
value_in block_size BlockSize w = option_map Whole (size_in block_size w)
value_in block_size Identifier w = option_map Bytes (parsed w)

-- ---- options

-- an option of a command: its name, and what it takes
pub record Row : Type 0 where
  pub name : List ℕ
  pub takes : Takes

abbrev pub row : List ℕ → Takes → Row
row name takes = record { name = name; takes = takes }

abbrev pub row_named : List ℕ → List Row → Option Row
row_named name [] = None
row_named name (r ∷ rs) = if bytes_eq name r.name then Some r else row_named name rs

-- an option that was given
pub record Given : Type 0 where
  pub name : List ℕ
  pub value : Value

abbrev pub value_of : List ℕ → List Given → Option Value
value_of name [] = None
value_of name (g ∷ gs) = if bytes_eq name g.name then Some g.value else value_of name gs

-- the option of this name, if the command has it and it was not given yet
abbrev pub row_left : List Row → List Given → List ℕ → Option Row
row_left table given name = if is_some (value_of name given) then None else row_named name table

-- ---- their reading

-- the words are none of the forms: the word at this place cannot stand there, or is missing
abbrev pub wrong : {A : Type 0} → ℕ → Result A Usage
wrong place = Err (record { word = place })

-- what follows from what stands at this place, which is wrong where nothing can be read there
abbrev pub at_place : {A B : Type 0} → ℕ → Option A → (A → Result B Usage) → Result B Usage
at_place place None rest = wrong place
at_place place (Some a) rest = rest a

-- the options that the words from this place on give, the last first, and before them those that were given already:
-- as often as there are words, a name that may still be given, and then a word that is its value
abbrev pub options_read : ℕ → List Row → List Given → ℕ → List (List ℕ) → Result (List Given) Usage
options_read block_size table given place [] = Ok given
options_read block_size table given place (name ∷ []) = at_place place (row_left table given name) (λ r. wrong (place + 1))
options_read block_size table given place (name ∷ w ∷ ws) =
    at_place place (row_left table given name) (λ r.
    at_place (place + 1) (value_in block_size r.takes w) (λ v.
    options_read block_size table (record { name = name; value = v } ∷ given) (place + 2) ws))
