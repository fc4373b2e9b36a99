-- The place of a wrong word is that of the first.
use Rattle.std.specs.Prelude.{ℕ, ◌≡◌, ◌+◌, List, [], ◌∷◌, ◌++◌, length, Ok, ⊤}
use Rattle.command_words.specs.declared.command.Command.{Command}
use Rattle.command_words.specs.Commands.{words_read}

-- with some words behind them these are a form
pub record BeginsForm (block_size : ℕ) (words : List (List ℕ)) : Type 0 where
  pub behind : List (List ℕ)
  pub command : Command
  pub reads : words_read block_size (words ++ behind) ≡ Ok command

-- no form begins with these words and the next, if there is one
abbrev pub StopsAt : ℕ → List (List ℕ) → List (List ℕ) → Type 0
StopsAt block_size before [] = ⊤
StopsAt block_size before (w ∷ ws) = BeginsForm block_size (before ++ w ∷ []) → ⊥

-- a form begins with the words before this place, counted from 1, but none with the word at it too; or there is no word at it
pub record IsFirstWrong (block_size : ℕ) (words : List (List ℕ)) (place : ℕ) : Type 0 where
  pub before : List (List ℕ)
  pub from_here : List (List ℕ)
  pub parts : words ≡ before ++ from_here
  pub counted : place ≡ length before + 1
  pub begins : BeginsForm block_size before
  pub stops : StopsAt block_size before from_here
