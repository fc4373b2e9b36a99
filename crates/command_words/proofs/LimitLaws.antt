-- What was given is within the limits of its option.
use Rattle.std.proofs.Common.{◌≡◌, ℕ, ◌+◌, Bool, true, false, ◌&&◌, if◌then◌else◌, List, [], ◌∷◌, Option, Some, None, Result, Ok, Err, refl, sym, ap, ◌∙◌, subst, arith}
use Rattle.std.specs.Prelude.{nat_le, unwrap_or, option_map, codes, IfOk, IfSome}
use Rattle.std.specs.Fmt.{decimal}
use Rattle.std.specs.Str.{bytes_eq}
use Rattle.std.specs.Str.Parse.{digits_value}
use Rattle.std.proofs.lemmas.Bool.Decides.{nat_tests}
use Rattle.std.proofs.lemmas.Slice.Eq.{bytes_eq-Decides}
use Rattle.number_words.specs.Numbers.{number_in}
use Rattle.command_words.specs.declared.command.Usage.{Usage}
use Rattle.command_words.specs.declared.command.Command.{Command}
use Rattle.command_words.specs.declared.command.Command.TheVariants.{Make, Run, Replay, Show, Load}
use Rattle.command_words.specs.Options.{Number, Value, Whole, Bytes, value_in, value_of, Row, row, row_named, row_left, Given, at_place, options_read}
use Rattle.command_words.specs.Commands.{largest, make_options, run_options, load_options, as_number, number_of, make_of, run_of, load_of, command_of, load_read, words_read}
use Rattle.command_words.specs.Limits.{IsBetween, IsMakeWithin, IsRunWithin, IsWithinLimits}
use Rattle.command_words.proofs.OptionLaws.{not_both, was_read, given_as, head, named_if_left}

number_between : (low high : ℕ) (w : List ℕ) (n : ℕ) → number_in low high w ≡ Some n → IsBetween low high n
number_between low high w n is = by_tests (bytes_eq w (decimal v)) (nat_le low v) (nat_le v high) refl refl is
  where
    v : ℕ
    v = digits_value 10 w

    by_tests : (a b c : Bool) → nat_le low v ≡ b → nat_le v high ≡ c → (if a && b && c then Some v else None) ≡ Some n → IsBetween low high n
    by_tests true true true above below e = let same : v ≡ n = cc in grind (arith, nat_tests)
    by_tests true true false above below e = absurd (cc)
    by_tests true false c above below e = absurd (cc)
    by_tests false b c above below e = absurd (cc)

-- ---- each value that was given is one of its option

module _ (block_size : ℕ) (table : List Row) where
  -- this value is what a word writes for the option of this name
  pub record IsOfOption (name : List ℕ) (v : Value) : Type 0 where
    pub option : Row
    pub named : row_named name table ≡ Some option
    pub word : List ℕ
    pub reads : value_in block_size option.takes word ≡ Some v

  pub record AreOfOptions (given : List Given) : Type 0 where
    pub values : (name : List ℕ) (v : Value) → value_of name given ≡ Some v → IsOfOption name v

  more_of_options : (given : List Given) (name : List ℕ) (v : Value) → AreOfOptions given → IsOfOption name v → AreOfOptions (given_as name v given)
  more_of_options given name v are is = record { values = λ n u. by_test n u (bytes_eq n name) refl }
    where
      by_test : (n : List ℕ) (u : Value) (b : Bool) → bytes_eq n name ≡ b → (if b then Some v else value_of n given) ≡ Some u → IsOfOption n u
      by_test n u true same e =
          let value : v ≡ u = cc in
          let this : IsOfOption n v = subst (λ (m : List ℕ). IsOfOption m v) (sym ((bytes_eq-Decides n name).0 same)) is in
          subst (λ (x : Value). IsOfOption n x) value this
      by_test n u false other e = are.values n u e

  all_of_options : (ws : List (List ℕ)) (given : List Given) (place : ℕ) (r : List Given) → AreOfOptions given → options_read block_size table given place ws ≡ Ok r → AreOfOptions r
  all_of_options [] given place r are good = let same : given ≡ r = cc in subst AreOfOptions same are
  all_of_options (name ∷ []) given place r are good =
      let option = was_read place (row_left table given name) _ r good in
      not_both option.1.1 refl
  all_of_options (name ∷ w ∷ ws) given place r are good =
      let first = head block_size table given place name w ws r good in
      let is : IsOfOption name first.value = record { option = first.option; named = named_if_left table given name first.option first.left; word = w; reads = first.reads } in
      all_of_options ws (given_as name first.value given) (place + 2) r (more_of_options given name first.value are is) first.rest

  none_of_options : AreOfOptions []
  none_of_options = record { values = λ name v e. absurd (cc) }

  -- the number of an option is within its limits
  module _ (given : List Given) (are : AreOfOptions given) (name : List ℕ) (low high : ℕ) (named : row_named name table ≡ Some (row name (Number low high))) where
    given_between : IfSome (number_of name given) (IsBetween low high)
    given_between = by_value (value_of name given) refl
      where
        by_value : (o : Option Value) → value_of name given ≡ o → IfSome (as_number o) (IsBetween low high)
        by_value None e = tt
        by_value (Some (Bytes bytes)) e = tt
        by_value (Some (Whole n)) e =
            let is = are.values name (Whole n) e in
            let option : is.option ≡ row name (Number low high) = cc (is.named, named) in
            by_number (number_in low high is.word) refl (ap (λ (r : Row). value_in block_size r.takes is.word) (sym option) ∙ is.reads)
          where
            by_number : (o : Option ℕ) → number_in low high (are.values name (Whole n) e).word ≡ o → option_map Whole o ≡ Some (Whole n) → IsBetween low high n
            by_number None reads whole = absurd (cc)
            by_number (Some m) reads whole = let same : m ≡ n = cc in subst (IsBetween low high) same (number_between low high (are.values name (Whole n) e).word m reads)

    pub or_default_between : (default : ℕ) → IsBetween low high default → IsBetween low high (unwrap_or (number_of name given) default)
    or_default_between default between = by_value (number_of name given) given_between
      where
        by_value : (o : Option ℕ) → IfSome o (IsBetween low high) → IsBetween low high (unwrap_or o default)
        by_value None none = between
        by_value (Some n) some = some

-- ---- commands

module _ (block_size : ℕ) where
  options_within : (table : List Row) (place : ℕ) (ws : List (List ℕ)) (command : List Given → Command)
      → ((given : List Given) → AreOfOptions block_size table given → IsWithinLimits (command given))
      → IfOk (command_of command (options_read block_size table [] place ws)) IsWithinLimits
  options_within table place ws command within = by_read (options_read block_size table [] place ws) refl
    where
      by_read : (r : Result (List Given) Usage) → options_read block_size table [] place ws ≡ r → IfOk (command_of command r) IsWithinLimits
      by_read (Ok given) e = within given (all_of_options block_size table ws [] place given (none_of_options block_size table) e)
      by_read (Err u) e = tt

  make_within : (given : List Given) → AreOfOptions block_size make_options given → IsMakeWithin (make_of given)
  make_within given are =
      let number = or_default_between block_size make_options given are in
      record {
        journals = number (codes "--journals") 1 8 refl 1 (omega arith, omega arith);
        journal_blocks = number (codes "--journal-blocks") 512 65536 refl 1024 (omega arith, omega arith);
        groups = number (codes "--groups") 1 64 refl 1 (omega arith, omega arith);
        time = number (codes "--time") 0 largest refl 0 (omega arith, omega arith);
      }

  run_within : (given : List Given) → AreOfOptions block_size run_options given → IsRunWithin (run_of given)
  run_within given are =
      let number = or_default_between block_size run_options given are in
      record {
        schedule = given_between block_size run_options given are (codes "--schedule") 0 largest refl;
        steps = number (codes "--steps") 1 10000000 refl 1000000 (omega arith, omega arith);
        time = number (codes "--time") 0 largest refl 0 (omega arith, omega arith);
        frames = number (codes "--frames") 512 4096 refl 1024 (omega arith, omega arith);
      }

  load_within : (ws : List (List ℕ)) → IfOk (load_read block_size ws) IsWithinLimits
  load_within [] = tt
  load_within (w ∷ ws) = by_number (number_in 0 largest w) refl
    where
      by_number : (o : Option ℕ) → number_in 0 largest w ≡ o → IfOk (at_place 2 o (λ n. command_of (λ given. Load (load_of n given)) (options_read block_size load_options [] 3 ws))) IsWithinLimits
      by_number None e = tt
      by_number (Some n) e =
          options_within load_options 3 ws (λ given. Load (load_of n given)) (λ given are. record {
            number = number_between 0 largest w n e;
            steps = or_default_between block_size load_options given are (codes "--steps") 1 10000000 refl 1000000 (omega arith, omega arith);
          })

  choice : (b : Bool) (p q : Result Command Usage) → IfOk p IsWithinLimits → IfOk q IsWithinLimits → IfOk (if b then p else q) IsWithinLimits
  choice true p q first second = first
  choice false p q first second = second

  pub within_limits : (ws : List (List ℕ)) → IfOk (words_read block_size ws) IsWithinLimits
  within_limits [] = tt
  within_limits (w ∷ ws) =
      choice (bytes_eq w (codes "mkfs")) _ _ (options_within make_options 2 ws (λ given. Make (make_of given)) make_within)
      (choice (bytes_eq w (codes "run")) _ _ (options_within run_options 2 ws (λ given. Run (run_of given)) run_within)
      (choice (bytes_eq w (codes "replay")) _ _ (options_within [] 2 ws (λ given. Replay) (λ given are. tt))
      (choice (bytes_eq w (codes "show")) _ _ (options_within [] 2 ws (λ given. Show) (λ given are. tt))
      (choice (bytes_eq w (codes "load")) _ _ (load_within ws) tt))))
