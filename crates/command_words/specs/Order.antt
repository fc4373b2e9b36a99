-- Options may come in any order.
use Rattle.std.specs.Prelude.{ℕ, ◌≡◌, List, [], ◌∷◌, ◌++◌, Ok}
use Rattle.command_words.specs.declared.command.Command.{Command}
use Rattle.command_words.specs.Commands.{words_read}

-- an option as it is written: its name, and the word behind it
pub record Written : Type 0 where
  pub name : List ℕ
  pub word : List ℕ

abbrev pub words_of : List Written → List (List ℕ)
words_of [] = []
words_of (o ∷ os) = o.name ∷ o.word ∷ words_of os

-- where two options that stand side by side change places, the words ask for the same
abbrev pub MayChangePlaces : List ℕ → Type 0
MayChangePlaces command_word =
    (block_size : ℕ) (front : List Written) (x y : Written) (back : List Written) (command : Command)
    → words_read block_size (command_word ∷ words_of (front ++ x ∷ y ∷ back)) ≡ Ok command
    → words_read block_size (command_word ∷ words_of (front ++ y ∷ x ∷ back)) ≡ Ok command
