-- One step of reading options.
use Rattle.std.proofs.Common.{◌≡◌, ℕ, ◌+◌, Bool, true, false, if◌then◌else◌, List, [], ◌∷◌, Option, Some, None, Result, Ok, Err, refl, sym, ap, ◌∙◌}
use Rattle.std.specs.Prelude.{is_some}
use Rattle.std.specs.Str.{bytes_eq}
use Rattle.std.proofs.lemmas.Slice.Eq.{bytes_eq-Decides}
use Rattle.command_words.specs.declared.command.Usage.{Usage}
use Rattle.command_words.specs.declared.command.Command.{Command}
use Rattle.command_words.specs.Options.{Value, value_in, value_of, Row, row_named, row_left, Given, at_place, options_read}
use Rattle.command_words.specs.Commands.{command_of}

-- the option that is found under a name has this name
pub has_name : (name : List ℕ) (table : List Row) (r : Row) → row_named name table ≡ Some r → name ≡ r.name
has_name name [] r is = absurd (cc)
has_name name (q ∷ qs) r is = by_test (bytes_eq name q.name) refl (has_name name qs r) is
  where
    by_test : (b : Bool) → bytes_eq name q.name ≡ b → (row_named name qs ≡ Some r → name ≡ r.name) → (if b then Some q else row_named name qs) ≡ Some r → name ≡ r.name
    by_test true same behind found = let is_q : q ≡ r = cc in (bytes_eq-Decides name q.name).0 same ∙ ap (λ (t : Row). t.name) is_q
    by_test false other behind found = behind found

-- whether an option may still be given
module _ (table : List Row) (given : List Given) (name : List ℕ) where
  pub given_before : is_some (value_of name given) ≡ true → row_left table given name ≡ None
  given_before before = rw before refl

  pub not_given : is_some (value_of name given) ≡ false → row_left table given name ≡ row_named name table
  not_given fresh = rw fresh refl

-- a name that may be given, and a word that is its value
pub one_more : (block_size : ℕ) (table : List Row) (given : List Given) (place : ℕ) (name w : List ℕ) (ws : List (List ℕ)) (r : Row) → row_left table given name ≡ Some r
    → (v : Value) → value_in block_size r.takes w ≡ Some v
    → options_read block_size table given place (name ∷ w ∷ ws) ≡ options_read block_size table (record { name = name; value = v } ∷ given) (place + 2) ws
one_more block_size table given place name w ws r left v some = rw (left, some) refl

-- ---- what was read, if all was well

module _ {A B : Type 0} where
  pub not_both : {r : Result A Usage} {a : A} {u : Usage} → r ≡ Ok a → r ≡ Err u → B
  not_both good bad = absurd (cc)

  pub was_read : (place : ℕ) (o : Option A) (rest : A → Result B Usage) (b : B) → at_place place o rest ≡ Ok b → (a : A) × ((o ≡ Some a) × (rest a ≡ Ok b))
  was_read place None rest b good = absurd (cc)
  was_read place (Some a) rest b good = (a, (refl, good))

-- what was read of the options of a command
pub options_of_command : (command : List Given → Command) (read : Result (List Given) Usage) (c : Command) → command_of command read ≡ Ok c → (g : List Given) × ((read ≡ Ok g) × (command g ≡ c))
options_of_command command (Ok g) c good = (g, (refl, cc))
options_of_command command (Err u) c good = absurd (cc)

-- ---- an option at the head of the words

-- what was given, and one option more
abbrev pub given_as : List ℕ → Value → List Given → List Given
given_as name v given = record { name = name; value = v } ∷ given

-- a name and its value stood at the head
pub record Head (block_size : ℕ) (table : List Row) (given : List Given) (place : ℕ) (name w : List ℕ) (ws : List (List ℕ)) (r : List Given) : Type 0 where
  pub option : Row
  pub left : row_left table given name ≡ Some option
  pub value : Value
  pub reads : value_in block_size option.takes w ≡ Some value
  pub rest : options_read block_size table (given_as name value given) (place + 2) ws ≡ Ok r

pub head : (block_size : ℕ) (table : List Row) (given : List Given) (place : ℕ) (name w : List ℕ) (ws : List (List ℕ)) (r : List Given)
    → options_read block_size table given place (name ∷ w ∷ ws) ≡ Ok r → Head block_size table given place name w ws r
head block_size table given place name w ws r good =
    let option = was_read place (row_left table given name) _ r good in
    let value = was_read (place + 1) (value_in block_size option.0.takes w) _ r option.1.1 in
    record { option = option.0; left = option.1.0; value = value.0; reads = value.1.0; rest = value.1.1 }

module _ (table : List Row) (given : List Given) (name : List ℕ) (option : Row) (left : row_left table given name ≡ Some option) where
  -- an option that may be given was not given yet
  pub fresh : value_of name given ≡ None
  fresh = by_test (value_of name given) left
    where
      by_test : (v : Option Value) → (if is_some v then None else row_named name table) ≡ Some option → v ≡ None
      by_test None e = refl
      by_test (Some v) e = absurd (cc)

  -- and is one of the table
  pub named_if_left : row_named name table ≡ Some option
  named_if_left = sym (not_given table given name (ap is_some fresh)) ∙ left
