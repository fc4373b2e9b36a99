-- The order of options does not matter.
use Rattle.std.proofs.Common.{◌≡◌, ℕ, ◌+◌, Bool, true, false, if◌then◌else◌, List, [], ◌∷◌, ◌++◌, Option, Some, None, Result, Ok, refl, sym, ap, ◌∙◌, subst}
use Rattle.std.specs.Prelude.{is_some, unwrap_or, replicate, codes}
use Rattle.std.specs.Str.{bytes_eq}
use Rattle.std.proofs.lemmas.Bool.{false≢true}
use Rattle.std.proofs.lemmas.Slice.Eq.{bytes_eq-Decides}
use Rattle.number_words.specs.Numbers.{number_in}
use Rattle.command_words.specs.declared.command.Usage.{Usage}
use Rattle.command_words.specs.declared.command.Command.{Command}
use Rattle.command_words.specs.declared.command.Command.TheVariants.{Make, Run, Replay, Show, Load}
use Rattle.command_words.specs.Options.{Value, value_of, Row, row_named, row_left, Given, options_read}
use Rattle.command_words.specs.Commands.{largest, make_options, run_options, load_options, as_number, as_bytes, make_of, run_of, load_of, command_of, load_read}
use Rattle.command_words.specs.Order.{Written, words_of, MayChangePlaces}
use Rattle.command_words.proofs.OptionLaws.{not_given, one_more, not_both, was_read, options_of_command, given_as, head, fresh, named_if_left}

-- two names that differ
other_way : (a b : List ℕ) → bytes_eq a b ≡ false → bytes_eq b a ≡ false
other_way a b e = by_test (bytes_eq b a) refl
  where
    by_test : (t : Bool) → bytes_eq b a ≡ t → t ≡ false
    by_test false f = refl
    by_test true f = absurd (false≢true (sym e ∙ (bytes_eq-Decides a b).1 (sym ((bytes_eq-Decides b a).0 f))))

-- ---- what was given matters by what stands for each name alone

pub record Alike (g h : List Given) : Type 0 where
  pub same : (name : List ℕ) → value_of name g ≡ value_of name h

alike_more : (g h : List Given) (name : List ℕ) (v : Value) → Alike g h → Alike (given_as name v g) (given_as name v h)
alike_more g h name v alike = record { same = λ n. ap (λ (o : Option Value). if bytes_eq n name then Some v else o) (alike.same n) }

-- ---- options, read

module _ (block_size : ℕ) (table : List Row) where
  abbrev gives : List Given → ℕ → List (List ℕ) → Result (List Given) Usage
  gives = options_read block_size table

  same_left : (g h : List Given) (name : List ℕ) → Alike g h → row_left table g name ≡ row_left table h name
  same_left g h name alike = ap (λ (v : Option Value). if is_some v then None else row_named name table) (alike.same name)

  -- what was read from either
  pub record BothGive (r : List Given) (h : List Given) (place : ℕ) (ws : List (List ℕ)) : Type 0 where
    pub given : List Given
    pub reads : options_read block_size table h place ws ≡ Ok given
    pub alike : Alike r given

  alike_read : (ws : List (List ℕ)) (g h : List Given) (place : ℕ) (r : List Given) → Alike g h → gives g place ws ≡ Ok r → BothGive r h place ws
  alike_read [] g h place r alike good =
      let is : g ≡ r = cc in
      record { given = h; reads = refl; alike = subst (λ (t : List Given). Alike t h) is alike }
  alike_read (name ∷ []) g h place r alike good =
      let option = was_read place (row_left table g name) _ r good in
      not_both option.1.1 refl
  alike_read (name ∷ w ∷ ws) g h place r alike good =
      let first = head block_size table g place name w ws r good in
      let left : row_left table h name ≡ Some first.option = sym (same_left g h name alike) ∙ first.left in
      let behind = alike_read ws (given_as name first.value g) (given_as name first.value h) (place + 2) r (alike_more g h name first.value alike) first.rest in
      record { given = behind.given; reads = one_more block_size table h place name w ws first.option left first.value first.reads ∙ behind.reads; alike = behind.alike }

  -- ---- two options side by side

  left_if_fresh : (given : List Given) (name : List ℕ) (option : Row) → value_of name given ≡ None → row_named name table ≡ Some option → row_left table given name ≡ Some option
  left_if_fresh given name option none named = not_given table given name (ap is_some none) ∙ named

  -- a name that is fresh behind another is another, and was fresh before
  apart : (given : List Given) (name other : List ℕ) (v : Value) → value_of other (given_as name v given) ≡ None → (bytes_eq other name ≡ false) × (value_of other given ≡ None)
  apart given name other v none = by_test (bytes_eq other name) refl none
    where
      by_test : (b : Bool) → bytes_eq other name ≡ b → (if b then Some v else value_of other given) ≡ None → (bytes_eq other name ≡ false) × (value_of other given ≡ None)
      by_test true e is = absurd (cc)
      by_test false e is = (e, is)

  two_alike : (given : List Given) (a b : List ℕ) (v u : Value) → bytes_eq b a ≡ false → Alike (given_as b u (given_as a v given)) (given_as a v (given_as b u given))
  two_alike given a b v u differ = record { same = λ n. by_tests n (bytes_eq n a) (bytes_eq n b) refl refl }
    where
      by_tests : (n : List ℕ) (x y : Bool) → bytes_eq n a ≡ x → bytes_eq n b ≡ y
          → (if bytes_eq n b then Some u else if bytes_eq n a then Some v else value_of n given) ≡ (if bytes_eq n a then Some v else if bytes_eq n b then Some u else value_of n given)
      by_tests n true true is_a is_b =
          let same : b ≡ a = sym ((bytes_eq-Decides n b).0 is_b) ∙ (bytes_eq-Decides n a).0 is_a in
          absurd (false≢true (sym differ ∙ (bytes_eq-Decides b a).1 same))
      by_tests n true false is_a no_b = rw (is_a, no_b) refl
      by_tests n false true no_a is_b = rw (no_a, is_b) refl
      by_tests n false false no_a no_b = rw (no_a, no_b) refl

  pair_read : (given : List Given) (place : ℕ) (x y : Written) (ws : List (List ℕ)) (r : List Given) → gives given place (x.name ∷ x.word ∷ y.name ∷ y.word ∷ ws) ≡ Ok r
      → BothGive r given place (y.name ∷ y.word ∷ x.name ∷ x.word ∷ ws)
  pair_read given place x y ws r good =
      let one = head block_size table given place x.name x.word (y.name ∷ y.word ∷ ws) r good in
      let two = head block_size table (given_as x.name one.value given) (place + 2) y.name y.word ws r one.rest in
      let others = apart given x.name y.name one.value (fresh table (given_as x.name one.value given) y.name two.option two.left) in
      let y_named = named_if_left table (given_as x.name one.value given) y.name two.option two.left in
      let y_left = left_if_fresh given y.name two.option others.1 y_named in
      let differ = other_way y.name x.name others.0 in
      let x_fresh : value_of x.name (given_as y.name two.value given) ≡ None = rw differ (fresh table given x.name one.option one.left) in
      let x_left = left_if_fresh (given_as y.name two.value given) x.name one.option x_fresh (named_if_left table given x.name one.option one.left) in
      let behind = alike_read ws (given_as y.name two.value (given_as x.name one.value given)) (given_as x.name one.value (given_as y.name two.value given)) (place + 2 + 2) r
      (two_alike given x.name y.name one.value two.value others.0) two.rest in
      record {
        given = behind.given;
        reads =
            one_more block_size table given place y.name y.word (x.name ∷ x.word ∷ ws) two.option y_left two.value two.reads
            ∙ one_more block_size table (given_as y.name two.value given) (place + 2) x.name x.word ws one.option x_left one.value one.reads
            ∙ behind.reads;
        alike = behind.alike;
      }

  order_read : (front : List Written) (given : List Given) (place : ℕ) (x y : Written) (back : List Written) (r : List Given)
      → gives given place (words_of (front ++ x ∷ y ∷ back)) ≡ Ok r → BothGive r given place (words_of (front ++ y ∷ x ∷ back))
  order_read [] given place x y back r good = pair_read given place x y (words_of back) r good
  order_read (o ∷ os) given place x y back r good =
      let one = head block_size table given place o.name o.word (words_of (os ++ x ∷ y ∷ back)) r good in
      let behind = order_read os (given_as o.name one.value given) (place + 2) x y back r one.rest in
      record {
        given = behind.given;
        reads = one_more block_size table given place o.name o.word (words_of (os ++ y ∷ x ∷ back)) one.option one.left one.value one.reads ∙ behind.reads;
        alike = behind.alike;
      }

  -- an odd number of words gives no options
  odd_wrong : {A : Type 0} (os : List Written) (given : List Given) (place : ℕ) (w : List ℕ) (r : List Given) → gives given place (w ∷ words_of os) ≡ Ok r → A
  odd_wrong [] given place w r good =
      let option = was_read place (row_left table given w) _ r good in
      not_both option.1.1 refl
  odd_wrong (o ∷ os) given place w r good =
      let one = head block_size table given place w o.name (o.word ∷ words_of os) r good in
      odd_wrong os (given_as w one.value given) (place + 2) o.word r one.rest

-- ---- commands

command_kept : (command : List Given → Command) → ((g h : List Given) → Alike g h → command g ≡ command h) → (block_size : ℕ) (table : List Row)
    (front : List Written) (x y : Written) (back : List Written) (c : Command)
    → command_of command (options_read block_size table [] 2 (words_of (front ++ x ∷ y ∷ back))) ≡ Ok c
    → command_of command (options_read block_size table [] 2 (words_of (front ++ y ∷ x ∷ back))) ≡ Ok c
command_kept command respects block_size table front x y back c good =
    let was = options_of_command command (options_read block_size table [] 2 (words_of (front ++ x ∷ y ∷ back))) c good in
    let now = order_read block_size table front [] 2 x y back was.0 was.1.0 in
    ap (command_of command) now.reads ∙ ap (λ (d : Command). Ok d) (sym (respects was.0 now.given now.alike) ∙ was.1.1)

make_alike : (g h : List Given) → Alike g h → Make (make_of g) ≡ Make (make_of h)
make_alike g h alike =
    let number = λ (name : List ℕ) (default : ℕ). ap (λ (v : Option Value). unwrap_or (as_number v) default) (alike.same name) in
    let journals = number (codes "--journals") 1 in
    let journal_blocks = number (codes "--journal-blocks") 1024 in
    let groups = number (codes "--groups") 1 in
    let uuid = ap (λ (v : Option Value). unwrap_or (as_bytes v) (replicate 16 0)) (alike.same (codes "--uuid")) in
    let time = number (codes "--time") 0 in
    λ i. Make (record { journals = journals i; journal_blocks = journal_blocks i; groups = groups i; uuid = uuid i; time = time i })

run_alike : (g h : List Given) → Alike g h → Run (run_of g) ≡ Run (run_of h)
run_alike g h alike =
    let schedule = ap as_number (alike.same (codes "--schedule")) in
    let steps = ap as_number (alike.same (codes "--steps")) in
    let time = ap (λ (v : Option Value). unwrap_or (as_number v) 0) (alike.same (codes "--time")) in
    let frames = ap as_number (alike.same (codes "--frames")) in
    λ i. Run (record { schedule = schedule i; steps = steps i; time = time i; frames = frames i })

-- `load` has one option, and an even number of words behind it is no form
load_wrong : {A : Type 0} (block_size : ℕ) (os : List Written) (c : Command) → load_read block_size (words_of os) ≡ Ok c → A
load_wrong block_size [] c good = not_both good refl
load_wrong block_size (o ∷ os) c good =
    let number = was_read 2 (number_in 0 largest o.name) _ c good in
    let options = options_of_command (λ given. Load (load_of number.0 given)) (options_read block_size load_options [] 3 (o.word ∷ words_of os)) c number.1.1 in
    odd_wrong block_size load_options os [] 3 o.word options.0 options.1.0

-- one choice on both sides
either : (b : Bool) (p q r s : Result Command Usage) (c : Command) → (p ≡ Ok c → r ≡ Ok c) → (q ≡ Ok c → s ≡ Ok c) → (if b then p else q) ≡ Ok c → (if b then r else s) ≡ Ok c
either true p q r s c first second good = first good
either false p q r s c first second good = second good

pub may_change_places : (command_word : List ℕ) → MayChangePlaces command_word
may_change_places w block_size front x y back c =
    either (bytes_eq w (codes "mkfs")) _ _ _ _ c (command_kept (λ given. Make (make_of given)) make_alike block_size make_options front x y back c)
    (either (bytes_eq w (codes "run")) _ _ _ _ c (command_kept (λ given. Run (run_of given)) run_alike block_size run_options front x y back c)
    (either (bytes_eq w (codes "replay")) _ _ _ _ c (command_kept (λ given. Replay) (λ g h alike. refl) block_size [] front x y back c)
    (either (bytes_eq w (codes "show")) _ _ _ _ c (command_kept (λ given. Show) (λ g h alike. refl) block_size [] front x y back c)
    (either (bytes_eq w (codes "load")) _ _ _ _ c (load_wrong block_size (front ++ x ∷ y ∷ back) c) (λ good. not_both good refl)))))
