-- Lines, words, and what a word is read as.
use Rattle.std.specs.Prelude.{ℕ, suc, zero, ◌+◌, ◌==◌, ◌&&◌, ◌||◌, not, nat_le, Bool, if◌then◌else◌, List, [], ◌∷◌, length, replicate, codes, slice_index, Option, Some, None, option_map, Result, Ok, Err}
use Rattle.std.specs.List.{slice_split, onto_first, list_all}
use Rattle.std.specs.Str.{bytes_eq}
use Rattle.number_words.specs.Numbers.{number_in}
use Rattle.hex.specs.Hex.{decode_of, encode_lower}
use Rattle.file_tree.specs.PathText.{PathRead, Reads, Faulty, path_read}

-- the lines of a text: each ends with a newline, which the last may lack
abbrev pub lines_in : List ℕ → List (List ℕ)
lines_in [] = []
lines_in (b ∷ bs) = if b == 10 then [] ∷ lines_in bs else onto_first b (lines_in bs)

-- the words of a line, parted by single spaces
abbrev pub words_in : List ℕ → List (List ℕ)
words_in line = slice_split (λ b. b == 32) line

-- the column, from 1, of a word's first byte; past the last word it is one past the line's end
abbrev pub column_of : ℕ → List (List ℕ) → ℕ
column_of k [] = 0
column_of zero (w ∷ ws) = 1
column_of (suc k) (w ∷ ws) = length w + 1 + column_of k ws

-- the path that a word spells
abbrev pub path_of : PathRead → Option (List (List ℕ))
path_of (Reads path) = Some path
path_of (Faulty fault) = None

abbrev pub path_in : List ℕ → Option (List (List ℕ))
path_in w = path_of (path_read w)

-- the bytes that pairs of lower-case digits write
abbrev pub bytes_of : {E : Type 0} → List ℕ → Result (List ℕ) E → Option (List ℕ)
bytes_of w (Ok bytes) = if bytes_eq w (encode_lower bytes) then Some bytes else None
bytes_of w (Err e) = None

abbrev pub hex_in : List ℕ → Option (List ℕ)
hex_in w = bytes_of w (decode_of w)

-- a hexadecimal digit in lower case
abbrev pub is_lower_digit : ℕ → Bool
is_lower_digit b = (nat_le 48 b && nat_le b 57) || (nat_le 97 b && nat_le b 102)

-- how many bytes one read or write has at most
abbrev pub transfer_limit : ℕ
transfer_limit = 16384

-- a byte so many times
abbrev pub filled : Option (List ℕ) → Option ℕ → Option (List ℕ)
filled (Some (byte ∷ [])) (Some n) = Some (replicate n byte)
filled _ _ = None

abbrev pub within_transfer : Option (List ℕ) → Option (List ℕ)
within_transfer None = None
within_transfer (Some bytes) = if nat_le 1 (length bytes) && nat_le (length bytes) transfer_limit then Some bytes else None

-- `fill`, a byte and a count, parted by colons, or else the bytes themselves
abbrev pub content_from : List ℕ → List (List ℕ) → Option (List ℕ)
content_from w (fill ∷ byte ∷ count ∷ []) = if bytes_eq fill (codes "fill") then filled (hex_in byte) (number_in 1 transfer_limit count) else None
content_from w _ = within_transfer (hex_in w)

-- the content that a word writes
abbrev pub content_in : List ℕ → Option (List ℕ)
content_in w = content_from w (slice_split (λ b. b == 58) w)

-- ---- a client's name: 1 to 16 lower-case letters and digits, the first a letter, and no word that begins a line

abbrev pub is_lower : ℕ → Bool
is_lower b = nat_le 97 b && nat_le b 122

abbrev pub is_digit : ℕ → Bool
is_digit b = nat_le 48 b && nat_le b 57

abbrev pub is_letter_or_digit : ℕ → Bool
is_letter_or_digit b = is_lower b || is_digit b

-- the words that a line may begin with
abbrev pub begins_line : List ℕ → Bool
begins_line w = bytes_eq w (codes "wait") || bytes_eq w (codes "crash") || bytes_eq w (codes "join")

abbrev pub is_client_name : List ℕ → Bool
is_client_name w = nat_le 1 (length w) && nat_le (length w) 16 && is_lower (slice_index w 0) && list_all is_letter_or_digit w && not (begins_line w)

abbrev pub client_in : List ℕ → Option (List ℕ)
client_in w = if is_client_name w then Some w else None

-- ---- what the words of a line are read as

-- a value, or the number, from 0, of the first wrong word; the one after the last is wrong where a word is missing
pub data LineRead (A : Type 0) : Type 0 where
  Got : A → LineRead A
  Wrong : ℕ → LineRead A

-- what follows a word
abbrev pub later : {A : Type 0} → LineRead A → LineRead A
later (Got a) = Got a
later (Wrong k) = Wrong (suc k)

-- no further word
abbrev pub ends : {A : Type 0} → A → List (List ℕ) → LineRead A
ends a [] = Got a
ends a (w ∷ ws) = Wrong 0

abbrev pub if_word : {A B : Type 0} → Option (A × List (List ℕ)) → (A → List (List ℕ) → LineRead B) → LineRead B
if_word None rest = Wrong 0
if_word (Some p) rest = later (rest p.0 p.1)

-- the first word, read as a value, and the words behind it
abbrev pub first_as : {A : Type 0} → (List ℕ → Option A) → List (List ℕ) → Option (A × List (List ℕ))
first_as value [] = None
first_as value (w ∷ ws) = option_map (λ a. (a, ws)) (value w)

-- a word that is read as a value, and then the rest
abbrev pub a_word : {A B : Type 0} → (List ℕ → Option A) → (A → List (List ℕ) → LineRead B) → List (List ℕ) → LineRead B
a_word value rest ws = if_word (first_as value ws) rest

-- this very word
abbrev pub the_word : List ℕ → List ℕ → Option (List ℕ)
the_word wanted w = if bytes_eq w wanted then Some w else None

-- ---- a line's words as they are taken from it

-- the parts that stand behind a part of a text: nothing is left, or a separator and then these
abbrev pub parts_behind : ℕ → List ℕ → List (List ℕ)
parts_behind separator [] = []
parts_behind separator (b ∷ bs) = slice_split (λ b'. b' == separator) bs

-- the words that stand behind a word of a line
abbrev pub words_behind : List ℕ → List (List ℕ)
words_behind bs = parts_behind 32 bs
