-- The place that is told of a wrong text is that of its first wrong word.
use Rattle.std.specs.Prelude.{ℕ, zero, suc, ◌≡◌, ◌+◌, ◌-◌, ◌<◌, ◌≤◌, ◌⊎◌, List, [], ◌∷◌, length, take, drop, ⊤}
use Rattle.script_lang.specs.Script.{ScriptValue}
use Rattle.script_lang.specs.Words.{lines_in, words_in, column_of}
use Rattle.script_lang.specs.Grammar.{script_limit, script_read, Script, Bad}

-- ---- two texts alike, line by line and word by word

-- the first of these lines has the same words as the first of the others, up to and with the word of this number, from 0, or it
-- ends before that word as the other does; or neither is there
abbrev pub AlikeWith : ℕ → List (List ℕ) → List (List ℕ) → Type 0
AlikeWith word [] [] = ⊤
AlikeWith word (l ∷ ls) (m ∷ ms) = take (suc word) (words_in l) ≡ take (suc word) (words_in m)
AlikeWith word _ _ = ⊥

-- the same words before the word of this number; before the first word of a line there is none
abbrev pub AlikeBefore : ℕ → List (List ℕ) → List (List ℕ) → Type 0
AlikeBefore zero ls ms = ⊤
AlikeBefore (suc word) (l ∷ ls) (m ∷ ms) = take (suc word) (words_in l) ≡ take (suc word) (words_in m)
AlikeBefore (suc word) _ _ = ⊥

-- the same lines before the line of this number, from 1, and there the same words up to and with this one
abbrev pub GoesOnWith : ℕ → ℕ → List ℕ → List ℕ → Type 0
GoesOnWith line word text other =
    (take (line - 1) (lines_in text) ≡ take (line - 1) (lines_in other)) × AlikeWith word (drop (line - 1) (lines_in text)) (drop (line - 1) (lines_in other))

-- the same lines, and there the same words before this one
abbrev pub GoesOnBefore : ℕ → ℕ → List ℕ → List ℕ → Type 0
GoesOnBefore line word text other =
    (take (line - 1) (lines_in text) ≡ take (line - 1) (lines_in other)) × AlikeBefore word (drop (line - 1) (lines_in text)) (drop (line - 1) (lines_in other))

-- how many words the first of these lines has
abbrev pub words_at : List (List ℕ) → ℕ
words_at [] = 0
words_at (l ∷ ls) = length (words_in l)

-- the column of a word; a line that is missing would begin at the first
abbrev pub column_in : ℕ → List (List ℕ) → ℕ
column_in word [] = 1
column_in word (l ∷ ls) = column_of word (words_in l)

-- ---- the limit of bytes

-- how many bytes the lines have, each with its end
abbrev pub bytes_in : List (List ℕ) → ℕ
bytes_in [] = 0
bytes_in (l ∷ ls) = length l + 1 + bytes_in ls

-- the text is longer than a script may be, and the first byte too many stands in this line or ends it, and in none before
abbrev pub IsCutOff : List ℕ → ℕ → Type 0
IsCutOff text line = (script_limit < length text) × ((script_limit < bytes_in (take line (lines_in text))) × (bytes_in (take (line - 1) (lines_in text)) ≤ script_limit))

-- how many bytes make a script of what stands before a place, at most
abbrev pub room : ℕ
room = 64

-- so many fit behind what stands before the place
abbrev pub HasRoom : List ℕ → ℕ → ℕ → Type 0
HasRoom text line column = bytes_in (take (line - 1) (lines_in text)) + column + room ≤ script_limit

-- ---- the law

-- some script goes on from the words before this one
pub record SomeScript (text : List ℕ) (line word : ℕ) : Type 0 where
  pub other : List ℕ
  pub alike : GoesOnBefore line word text other
  pub script : ScriptValue
  pub reads : script_read other ≡ Script script

-- no script goes on from the words up to and with this one
abbrev pub NoScript : List ℕ → ℕ → ℕ → Type 0
NoScript text line word = (other : List ℕ) (s : ScriptValue) → GoesOnWith line word text other → script_read other ≡ Script s → ⊥

-- the word of number k, from 0, in line l, or the one behind its last word, is the word of this number in this line, or stands before it
abbrev pub IsUpTo : List ℕ → ℕ → ℕ → ℕ → ℕ → Type 0
IsUpTo text line word l k = (1 ≤ l) × (k ≤ words_at (drop (l - 1) (lines_in text))) × ((l < line) ⊎ ((l ≡ line) × (k ≤ word)))

-- at this place is the first wrong word
pub record IsFirstWrong (text : List ℕ) (line column : ℕ) : Type 0 where
  -- one of the text's lines, or the one behind the last, and one of its words, or the one behind the last
  pub first_line : 1 ≤ line
  pub within_lines : line ≤ length (lines_in text) + 1
  pub word : ℕ
  pub within_words : word ≤ words_at (drop (line - 1) (lines_in text))
  pub told : column ≡ column_in word (drop (line - 1) (lines_in text))
  -- no script goes on from it; or it is the first word of the line in which the limit of bytes comes, whatever that word is
  pub stops : (IsCutOff text line × (word ≡ 0)) ⊎ NoScript text line word
  -- some script goes on from the words before each word up to it, where the limit of bytes leaves room for one
  pub begins : (l k : ℕ) → IsUpTo text line word l k → HasRoom text l (column_in k (drop (l - 1) (lines_in text))) → SomeScript text l k

abbrev pub FirstWrongIsTold : Type 0
FirstWrongIsTold = (text : List ℕ) (line column : ℕ) → script_read text ≡ Bad line column → IsFirstWrong text line column
