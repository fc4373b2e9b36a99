-- The place of a wrong word is that of the first.
use Rattle.std.proofs.Common.{◌≡◌, ℕ, ◌+◌, ◌==◌, ◌||◌, Bool, true, false, if◌then◌else◌, List, [], ◌∷◌, ◌++◌, length, Option, Some, None, Result, Ok, Err, refl, sym, ap, ◌∙◌, subst, append_assoc, length-append, replicate, arith}
use Rattle.std.specs.Prelude.{codes, ⊤, is_some}
use Rattle.std.specs.Fmt.{digits}
use Rattle.std.specs.Str.{bytes_eq}
use Rattle.std.specs.List.{AllByRecursion}
use Rattle.std.proofs.lemmas.Bool.{false≢true}
use Rattle.std.proofs.lemmas.Bool.Decides.{Decides-eqb}
use Rattle.number_words.specs.Numbers.{number_in}
use Rattle.uuid.specs.Text.{by_index}
use Rattle.command_words.specs.declared.command.Usage.{Usage}
use Rattle.command_words.specs.declared.command.Command.{Command}
use Rattle.command_words.specs.declared.command.Command.TheVariants.{Make, Run, Replay, Show, Load}
use Rattle.command_words.specs.Options.{Takes, BlockSize, Value, Whole, Bytes, is_block_size, value_in, Row, row_named, row_left, Given, value_of, wrong, at_place, options_read}
use Rattle.command_words.specs.Commands.{largest, make_options, run_options, load_options, make_of, run_of, load_of, command_of, words_read}
use Rattle.command_words.specs.Places.{BeginsForm, StopsAt, IsFirstWrong}
use Rattle.command_words.proofs.OptionLaws.{one_more, not_both, was_read, options_of_command}

same_place : {A : Type 0} (p q : ℕ) → wrong {A = A} p ≡ wrong q → q ≡ p
same_place p q e =
    let P : Usage = record { word = p } in
    let Q : Usage = record { word = q } in
    let same : Q ≡ P = cc in
    ap (λ (u : Usage). u.word) same

-- ---- options

-- some word is a value of the option
abbrev CanTake : ℕ → Takes → Type 0
CanTake block_size takes = (w : List ℕ) × ((v : Value) × (value_in block_size takes w ≡ Some v))

abbrev CanBeGiven : ℕ → Row → Type 0
CanBeGiven block_size r = CanTake block_size r.takes

module _ (block_size : ℕ) (table : List Row) (can : (name : List ℕ) (r : Row) → row_named name table ≡ Some r → CanBeGiven block_size r) where
  -- no options begin with these words and the next, if there is one
  abbrev NoOptions : List Given → ℕ → List (List ℕ) → List (List ℕ) → Type 0
  NoOptions given place before [] = ⊤
  NoOptions given place before (w ∷ ws) = (rest : List (List ℕ)) (r : List Given) → options_read block_size table given place (before ++ w ∷ rest) ≡ Ok r → ⊥

  pub record Stop (given : List Given) (place : ℕ) (ws : List (List ℕ)) (at : ℕ) : Type 0 where
    pub before : List (List ℕ)
    pub from_here : List (List ℕ)
    pub parts : ws ≡ before ++ from_here
    pub counted : at ≡ place + length before
    pub behind : List (List ℕ)
    pub options : List Given
    pub begins : options_read block_size table given place (before ++ behind) ≡ Ok options
    pub stops : NoOptions given place before from_here

  -- an option that is left can be given
  can_left : (given : List Given) (name : List ℕ) (r : Row) → row_left table given name ≡ Some r → CanBeGiven block_size r
  can_left given name r left = by_test (value_of name given) left
    where
      by_test : (v : Option Value) → (if is_some v then None else row_named name table) ≡ Some r → CanBeGiven block_size r
      by_test None e = can name r e
      by_test (Some v) e = absurd (cc)

  module _ (given : List Given) (place at : ℕ) (name : List ℕ) where
    name_stops : (ws : List (List ℕ)) → row_left table given name ≡ None → at ≡ place → Stop given place (name ∷ ws) at
    name_stops ws none here = record {
      before = [];
      from_here = name ∷ ws;
      parts = refl;
      counted = omega (arith, here);
      behind = [];
      options = given;
      begins = refl;
      stops = refused;
    }
      where
        refused : (rest : List (List ℕ)) (r : List Given) → options_read block_size table given place (name ∷ rest) ≡ Ok r → ⊥
        refused [] r good = let read = was_read place (row_left table given name) _ r good in absurd (cc)
        refused (w ∷ rest) r good = let read = was_read place (row_left table given name) _ r good in absurd (cc)

    module _ (r : Row) (left : row_left table given name ≡ Some r) where
      -- the words up to the name, with a value that it can have behind them
      name_begins : (x : CanBeGiven block_size r) → options_read block_size table given place (name ∷ x.0 ∷ []) ≡ Ok (record { name = name; value = x.1.0 } ∷ given)
      name_begins x = one_more block_size table given place name x.0 [] r left x.1.0 x.1.1

      word_missing : at ≡ place + 1 → Stop given place (name ∷ []) at
      word_missing here =
          let x = can_left given name r left in
          record { before = name ∷ []; from_here = []; parts = refl; counted = here; behind = x.0 ∷ []; options = record { name = name; value = x.1.0 } ∷ given; begins = name_begins x; stops = tt }

      word_stops : (w : List ℕ) (ws : List (List ℕ)) → value_in block_size r.takes w ≡ None → at ≡ place + 1 → Stop given place (name ∷ w ∷ ws) at
      word_stops w ws none here =
          let x = can_left given name r left in
          record { before = name ∷ []; from_here = w ∷ ws; parts = refl; counted = here; behind = x.0 ∷ []; options = record { name = name; value = x.1.0 } ∷ given; begins = name_begins x; stops = refused }
        where
          refused : (rest : List (List ℕ)) (g : List Given) → options_read block_size table given place (name ∷ w ∷ rest) ≡ Ok g → ⊥
          refused rest g good =
              let option = was_read place (row_left table given name) _ g good in
              let same : option.0 ≡ r = cc in
              let value = was_read (place + 1) (value_in block_size option.0.takes w) _ g option.1.1 in
              let other : value_in block_size r.takes w ≡ Some value.0 = ap (λ (q : Row). value_in block_size q.takes w) (sym same) ∙ value.1.0 in
              absurd (cc)

      stops_later : (w : List ℕ) (ws : List (List ℕ)) (v : Value) → value_in block_size r.takes w ≡ Some v → Stop (record { name = name; value = v } ∷ given) (place + 2) ws at → Stop given place (name ∷ w ∷ ws) at
      stops_later w ws v some later = record {
        before = name ∷ w ∷ later.before;
        from_here = later.from_here;
        parts = ap (λ (l : List (List ℕ)). name ∷ w ∷ l) later.parts;
        counted = omega (arith, later.counted);
        behind = later.behind;
        options = later.options;
        begins = one_more block_size table given place name w (later.before ++ later.behind) r left v some ∙ later.begins;
        stops = carried later.from_here later.stops;
      }
        where
          carried : (l : List (List ℕ)) → NoOptions (record { name = name; value = v } ∷ given) (place + 2) later.before l → NoOptions given place (name ∷ w ∷ later.before) l
          carried [] none = tt
          carried (u ∷ l) none = λ rest g good. none rest g (sym (one_more block_size table given place name w (later.before ++ u ∷ rest) r left v some) ∙ good)

  -- what stands behind a name and its value stops here
  abbrev StopsBehind : List Given → ℕ → ℕ → List ℕ → List (List ℕ) → Type 0
  StopsBehind given place at name ws =
      (v : Value) → options_read block_size table (record { name = name; value = v } ∷ given) (place + 2) ws ≡ wrong at → Stop (record { name = name; value = v } ∷ given) (place + 2) ws at

  pub stop : (ws : List (List ℕ)) (given : List Given) (place at : ℕ) → options_read block_size table given place ws ≡ wrong at → Stop given place ws at
  stop [] given place at bad = not_both {B = Stop given place [] at} refl bad
  stop (name ∷ []) given place at bad = by_row (row_left table given name) refl bad
    where
      by_row : (o : Option Row) → row_left table given name ≡ o → at_place {B = List Given} place o (λ r. wrong (place + 1)) ≡ wrong at → Stop given place (name ∷ []) at
      by_row None none e = name_stops given place at name [] none (same_place {A = List Given} place at e)
      by_row (Some r) left e = word_missing given place at name r left (same_place {A = List Given} (place + 1) at e)
  stop (name ∷ w ∷ ws) given place at bad = by_row (row_left table given name) refl (λ v e. stop ws (record { name = name; value = v } ∷ given) (place + 2) at e) bad
    where
      by_value : (r : Row) → row_left table given name ≡ Some r → (o : Option Value) → value_in block_size r.takes w ≡ o → StopsBehind given place at name ws
          → at_place (place + 1) o (λ v. options_read block_size table (record { name = name; value = v } ∷ given) (place + 2) ws) ≡ wrong at → Stop given place (name ∷ w ∷ ws) at
      by_value r left None none later e = word_stops given place at name r left w ws none (same_place {A = List Given} (place + 1) at e)
      by_value r left (Some v) some later e = stops_later given place at name r left w ws v some (later v e)

      by_row : (o : Option Row) → row_left table given name ≡ o → StopsBehind given place at name ws
          → at_place place o (λ r. at_place (place + 1) (value_in block_size r.takes w) (λ v. options_read block_size table (record { name = name; value = v } ∷ given) (place + 2) ws)) ≡ wrong at → Stop given place (name ∷ w ∷ ws) at
      by_row None none later e = name_stops given place at name (w ∷ ws) none (same_place {A = List Given} place at e)
      by_row (Some r) left later e = by_value r left (value_in block_size r.takes w) refl later e

-- ---- every option can be given

one_of_table : (P : Row → Type 0) (table : List Row) → AllByRecursion P table → (name : List ℕ) (r : Row) → row_named name table ≡ Some r → P r
one_of_table P [] all name r is = absurd (cc)
one_of_table P (q ∷ qs) all name r is = by_test (bytes_eq name q.name) (one_of_table P qs all.1 name r) is
  where
    by_test : (b : Bool) → (row_named name qs ≡ Some r → P r) → (if b then Some q else row_named name qs) ≡ Some r → P r
    by_test true behind found = let is_q : q ≡ r = cc in subst P is_q all.0
    by_test false behind found = behind found

can_take_size : (n : ℕ) → is_block_size n ≡ true → CanTake n BlockSize
unfolding digits
can_take_size n is = by_tests (n == 512) (n == 1024) (n == 2048) (n == 4096) (Decides-eqb n 512).0 (Decides-eqb n 1024).0 (Decides-eqb n 2048).0 (Decides-eqb n 4096).0 is
  where
    at : (m : ℕ) → CanTake m BlockSize → n ≡ m → CanTake n BlockSize
    at m can e = subst (λ (k : ℕ). CanTake k BlockSize) (sym e) can

    by_tests : (a b c d : Bool) → (a ≡ true → n ≡ 512) → (b ≡ true → n ≡ 1024) → (c ≡ true → n ≡ 2048) → (d ≡ true → n ≡ 4096) → (a || b || c || d) ≡ true → CanTake n BlockSize
    by_tests true b c d ea eb ec ed e = at 512 (codes "512", (Whole 512, refl)) (ea refl)
    by_tests false true c d ea eb ec ed e = at 1024 (codes "1024", (Whole 1024, refl)) (eb refl)
    by_tests false false true d ea eb ec ed e = at 2048 (codes "2048", (Whole 2048, refl)) (ec refl)
    by_tests false false false true ea eb ec ed e = at 4096 (codes "4096", (Whole 4096, refl)) (ed refl)
    by_tests false false false false ea eb ec ed e = absurd (false≢true e)

can_make : (n : ℕ) → is_block_size n ≡ true → AllByRecursion (CanBeGiven n) make_options
unfolding digits by_index
can_make n is =
    (can_take_size n is, ((codes "1", (Whole 1, refl)), ((codes "512", (Whole 512, refl)), ((codes "1", (Whole 1, refl)), ((replicate 32 48, (Bytes (replicate 16 0), refl)), ((codes "0", (Whole 0, refl)), tt))))))

can_run : (n : ℕ) → AllByRecursion (CanBeGiven n) run_options
unfolding digits
can_run n = ((codes "0", (Whole 0, refl)), ((codes "1", (Whole 1, refl)), ((codes "0", (Whole 0, refl)), ((codes "512", (Whole 512, refl)), tt))))

can_load : (n : ℕ) → AllByRecursion (CanBeGiven n) load_options
unfolding digits
can_load n = ((codes "1", (Whole 1, refl)), tt)

-- ---- commands

options_wrong : (command : List Given → Command) (read : Result (List Given) Usage) (at : ℕ) → command_of command read ≡ wrong at → read ≡ wrong at
options_wrong command (Ok g) at bad = absurd (cc)
options_wrong command (Err u) at bad =
    let place : Usage = record { word = at } in
    let same : u ≡ place = cc in
    ap (λ (v : Usage). Err v) same

-- the words behind these are options of this table
module _ (block_size : ℕ) (start : List (List ℕ)) (command : List Given → Command) (table : List Row) (all : AllByRecursion (CanBeGiven block_size) table)
    (reads : (ws : List (List ℕ)) → words_read block_size (start ++ ws) ≡ command_of command (options_read block_size table [] (length start + 1) ws)) where
  pub command_stop : (ws : List (List ℕ)) (at : ℕ) → words_read block_size (start ++ ws) ≡ wrong at → IsFirstWrong block_size (start ++ ws) at
  command_stop ws at bad =
      let stopped = stop block_size table (one_of_table (CanBeGiven block_size) table all) ws [] (length start + 1) at (options_wrong command _ at (sym (reads ws) ∙ bad)) in
      record {
        before = start ++ stopped.before;
        from_here = stopped.from_here;
        parts = ap (λ (l : List (List ℕ)). start ++ l) stopped.parts ∙ sym (append_assoc start stopped.before stopped.from_here);
        counted = omega (arith, stopped.counted, length-append start stopped.before);
        begins = record {
          behind = stopped.behind;
          command = command stopped.options;
          reads =
              ap (words_read block_size) (append_assoc start stopped.before stopped.behind)
              ∙ reads (stopped.before ++ stopped.behind) ∙ ap (command_of command) stopped.begins;
        };
        stops = carried stopped.before stopped.from_here stopped.stops;
      }
    where
      carried : (before l : List (List ℕ)) → NoOptions block_size table (one_of_table (CanBeGiven block_size) table all) [] (length start + 1) before l → StopsAt block_size (start ++ before) l
      carried before [] none = tt
      carried before (w ∷ l) none = λ form.
          let whole : (start ++ before ++ w ∷ []) ++ form.behind ≡ start ++ (before ++ w ∷ form.behind) =
          append_assoc (start ++ before) (w ∷ []) form.behind ∙ append_assoc start before (w ∷ form.behind) in
          let read = options_of_command command _ form.command (sym (reads (before ++ w ∷ form.behind)) ∙ ap (words_read block_size) (sym whole) ∙ form.reads) in
          none form.behind read.0 read.1.0

some_form : (n : ℕ) → BeginsForm n []
some_form n = record { behind = codes "show" ∷ []; command = Show; reads = refl }

module _ (n : ℕ) (is_size : is_block_size n ≡ true) (w : List ℕ) (at : ℕ) where
  abbrev Wrong : List (List ℕ) → Type 0
  Wrong ws = words_read n (w ∷ ws) ≡ wrong at → IsFirstWrong n (w ∷ ws) at

  module _ (no_make : bytes_eq w (codes "mkfs") ≡ false) (no_run : bytes_eq w (codes "run") ≡ false) (no_replay : bytes_eq w (codes "replay") ≡ false) (no_show : bytes_eq w (codes "show") ≡ false) where
    no_command : bytes_eq w (codes "load") ≡ false → (ws : List (List ℕ)) → Wrong ws
    no_command no_load ws bad =
        let first : wrong {A = Command} 1 ≡ wrong at = rw (no_make, no_run, no_replay, no_show, no_load) at bad in
        record {
          before = [];
          from_here = w ∷ ws;
          parts = refl;
          counted = same_place {A = Command} 1 at first;
          begins = some_form n;
          stops = λ form. let refused : wrong {A = Command} 1 ≡ Ok form.command = rw (no_make, no_run, no_replay, no_show, no_load) at form.reads in absurd (cc);
        }

    module _ (load : bytes_eq w (codes "load") ≡ true) where
      zero_loads : BeginsForm n (w ∷ [])
      unfolding digits
      zero_loads = record { behind = codes "0" ∷ []; command = Load (load_of 0 []); reads = rw (no_make, no_run, no_replay, no_show, load) refl }

      load_wrong : (ws : List (List ℕ)) → Wrong ws
      load_wrong [] bad =
          let second : wrong {A = Command} 2 ≡ wrong at = rw (no_make, no_run, no_replay, no_show, load) at bad in
          record { before = w ∷ []; from_here = []; parts = refl; counted = same_place {A = Command} 2 at second; begins = zero_loads; stops = tt }
      load_wrong (m ∷ ws) bad = by_number (number_in 0 largest m) refl
        where
          by_number : (o : Option ℕ) → number_in 0 largest m ≡ o → IsFirstWrong n (w ∷ m ∷ ws) at
          by_number None none =
              let second : wrong {A = Command} 2 ≡ wrong at = rw (no_make, no_run, no_replay, no_show, load, none) at bad in
              record {
                before = w ∷ [];
                from_here = m ∷ ws;
                parts = refl;
                counted = same_place {A = Command} 2 at second;
                begins = zero_loads;
                stops = λ form. let refused : wrong {A = Command} 2 ≡ Ok form.command = rw (no_make, no_run, no_replay, no_show, load, none) at form.reads in absurd (cc);
              }
          by_number (Some k) some =
              command_stop n (w ∷ m ∷ []) (λ given. Load (load_of k given)) load_options (can_load n) (λ l. rw (no_make, no_run, no_replay, no_show, load, some) refl) ws at bad

  by_command : (ws : List (List ℕ)) → Wrong ws
  by_command ws bad = make (bytes_eq w (codes "mkfs")) refl
    where
      last : bytes_eq w (codes "mkfs") ≡ false → bytes_eq w (codes "run") ≡ false → bytes_eq w (codes "replay") ≡ false → bytes_eq w (codes "show") ≡ false
          → (b : Bool) → bytes_eq w (codes "load") ≡ b → IsFirstWrong n (w ∷ ws) at
      last e1 e2 e3 e4 true e5 = load_wrong e1 e2 e3 e4 e5 ws bad
      last e1 e2 e3 e4 false e5 = no_command e1 e2 e3 e4 e5 ws bad

      show : bytes_eq w (codes "mkfs") ≡ false → bytes_eq w (codes "run") ≡ false → bytes_eq w (codes "replay") ≡ false → (b : Bool) → bytes_eq w (codes "show") ≡ b → IsFirstWrong n (w ∷ ws) at
      show e1 e2 e3 true e4 = command_stop n (w ∷ []) (λ given. Show) [] tt (λ l. rw (e1, e2, e3, e4) refl) ws at bad
      show e1 e2 e3 false e4 = last e1 e2 e3 e4 (bytes_eq w (codes "load")) refl

      replay : bytes_eq w (codes "mkfs") ≡ false → bytes_eq w (codes "run") ≡ false → (b : Bool) → bytes_eq w (codes "replay") ≡ b → IsFirstWrong n (w ∷ ws) at
      replay e1 e2 true e3 = command_stop n (w ∷ []) (λ given. Replay) [] tt (λ l. rw (e1, e2, e3) refl) ws at bad
      replay e1 e2 false e3 = show e1 e2 e3 (bytes_eq w (codes "show")) refl

      run : bytes_eq w (codes "mkfs") ≡ false → (b : Bool) → bytes_eq w (codes "run") ≡ b → IsFirstWrong n (w ∷ ws) at
      run e1 true e2 = command_stop n (w ∷ []) (λ given. Run (run_of given)) run_options (can_run n) (λ l. rw (e1, e2) refl) ws at bad
      run e1 false e2 = replay e1 e2 (bytes_eq w (codes "replay")) refl

      make : (b : Bool) → bytes_eq w (codes "mkfs") ≡ b → IsFirstWrong n (w ∷ ws) at
      make true e1 = command_stop n (w ∷ []) (λ given. Make (make_of given)) make_options (can_make n is_size) (λ l. rw e1 refl) ws at bad
      make false e1 = run e1 (bytes_eq w (codes "run")) refl

pub first_wrong : (n : ℕ) → is_block_size n ≡ true → (words : List (List ℕ)) (place : ℕ) → words_read n words ≡ wrong place → IsFirstWrong n words place
first_wrong n is_size [] place bad = record { before = []; from_here = []; parts = refl; counted = same_place {A = Command} 1 place bad; begins = some_form n; stops = tt }
first_wrong n is_size (w ∷ ws) place bad = by_command n is_size w place ws bad
