-- The place that is told is that of the first wrong word.
use Rattle.std.proofs.Common.{◌≡◌, ◌⊎◌, inl, inr, ℕ, zero, suc, ◌+◌, ◌-◌, ◌<◌, ◌≤◌, List, [], ◌∷◌, ◌++◌, length, take, drop, refl, sym, ap, ◌∙◌, subst, arith, append_assoc, length-append}
use Rattle.std.specs.List.{AllByRecursion}
use Rattle.std.proofs.lemmas.List.{length-take, take-append-le}
use Rattle.script_lang.specs.Script.{ScriptValue}
use Rattle.script_lang.specs.Words.{lines_in, words_in, column_of, LineRead, Got, Wrong}
use Rattle.script_lang.specs.Grammar.{script_limit, line_limit, nothing, line_read, script_from, Script}
use Rattle.script_laws.specs.Places.{AlikeWith, AlikeBefore, column_in, words_at, bytes_in, IsCutOff, HasRoom, NoScript, SomeScript, IsUpTo, IsFirstWrong, FirstWrongIsTold}
use Rattle.script_laws.proofs.WordsBack.{some_words}
use Rattle.script_laws.proofs.ScriptsBack.{Reach, reach-append}
use Rattle.script_laws.proofs.Stops.{same_number}
use Rattle.script_laws.proofs.Strange.{strange, Passes, after-first}
use Rattle.script_laws.proofs.Walk.{Cause, TooManyLines, TooManyBytes, WrongWord, CauseIn, Refused, walk, take-front, drop-front, take-one, bytes_in-append, lines_before, lines_from, no_script, missing_refused, line_refused, word_refused}
use Rattle.script_laws.proofs.Begins.{Solid, Completion, begins-later, begins-nodes}
use Rattle.script_laws.proofs.FreshNames.{fresh_name}
use Rattle.script_laws.proofs.Stages.{NoEnd, AtStart, WithNodes, Ready, stage, finish}
use Rattle.script_laws.proofs.Texts.{all_left, all_right, all_both, all_take, take-again, text_of, lines-back, lines-whole, words-solid, joined, words-joined, joined-whole, joined-length, column-words, script_of}

-- ---- from the lines before one

-- the first of some lines that are read are read too
reach-take : (k : ℕ) (ls : List (List ℕ)) (s t : ScriptValue) → Reach s ls t → (u : ScriptValue) × Reach s (take k ls) u
reach-take zero [] s t reach = (s, refl)
reach-take zero (l ∷ ls) s t reach = (s, refl)
reach-take (suc k) [] s t reach = (s, refl)
reach-take (suc k) (l ∷ ls) s t reach = let more = reach-take k ls reach.0 t reach.1.1 in (more.0, (reach.0, (reach.1.0, more.1)))

-- some script goes on from lines that are read
goes_on : (text : List ℕ) (n : ℕ) (lines : List (List ℕ)) (t : ScriptValue) → n - 1 ≡ length lines → take (n - 1) (lines_in text) ≡ lines → AllByRecursion NoEnd lines → length lines ≤ line_limit
    → Reach nothing lines t → HasRoom text n 1 → SomeScript text n 0
goes_on text n lines t many are whole few reach has =
    let f = finish lines t few reach in
    let all = all_both NoEnd lines f.more whole f.whole in
    let space : bytes_in lines + 1 + 64 ≤ script_limit = omega (arith, has, ap bytes_in are) in
    record {
      other = text_of (lines ++ f.more);
      alike = (are ∙ sym ((λ i. take (many i) (lines-back (lines ++ f.more) all i)) ∙ take-front lines f.more), tt);
      script = f.into;
      reads =
          script_of (lines ++ f.more) f.into (reach-append lines f.more nothing t f.into reach f.reach) all (omega (arith, bytes_in-append lines f.more, f.short, space))
          (omega (arith, length-append lines f.more, f.few)) f.one;
    }

-- ---- from the words before one

-- words that make a line of those before a wrong one
completes : (front : List (List ℕ)) (into : ScriptValue) → Reach nothing front into → (w : List ℕ) (ws : List (List ℕ)) (j : ℕ) → line_read into (w ∷ ws) ≡ Wrong (suc j)
    → (j ≤ length ws) × Completion 16 (λ v. line_read into (w ∷ v)) (take j ws)
completes front into reach w ws j wrong = elim (stage front into reach) [
  | AtStart none is ↦ begins-nodes into (ap (λ (s : ScriptValue). s.nodes) is) w ws j wrong
  | WithNodes single has ↦
      let nodes : into.nodes ≡ has.0 = ap (λ (s : ScriptValue). s.nodes) has.1.2 in
      begins-later into (omega (arith, nodes, has.1.0)) (omega (arith, nodes, has.1.1)) (fresh_name into) w ws j wrong
  | Ready is ↦ begins-later into is.0 is.1 (fresh_name into) w ws j wrong
]

-- a line of a text, behind lines that are read, of whose first words none is refused
module _ (text : List ℕ) (n : ℕ) (front : List (List ℕ)) (into : ScriptValue) (l : List ℕ) (back : List (List ℕ)) (parts : lines_in text ≡ front ++ l ∷ back) (counted : n ≡ 1 + length front)
    (reach : Reach nothing front into) (fits : n ≤ line_limit) (j : ℕ) (there : suc j ≤ length (words_in l)) (passes : Passes (line_read into (words_in l)) (suc j)) where
  before_line : n - 1 ≡ length front
  before_line = omega (arith, counted)

  before_there : take (n - 1) (lines_in text) ≡ front
  before_there = (λ i. take (before_line i) (parts i)) ∙ take-front front (l ∷ back)

  from_there : drop (n - 1) (lines_in text) ≡ l ∷ back
  from_there = (λ i. drop (before_line i) (parts i)) ∙ drop-front front (l ∷ back)

  whole_parts : AllByRecursion NoEnd (front ++ l ∷ back)
  whole_parts = subst (AllByRecursion NoEnd) parts (lines-whole text)

  front_whole : AllByRecursion NoEnd front
  front_whole = all_left NoEnd front (l ∷ back) whole_parts

  l_whole : NoEnd l
  l_whole = (all_right NoEnd front (l ∷ back) whole_parts).0

  abbrev w : List ℕ
  w = (some_words l).0

  abbrev ws : List (List ℕ)
  ws = (some_words l).1.0

  words_are : words_in l ≡ w ∷ ws
  words_are = (some_words l).1.1

  few : j ≤ length ws
  few = omega (arith, there, ap length words_are)

  solid : Solid w × AllByRecursion Solid ws
  solid = let all = subst (AllByRecursion Solid) words_are (words-solid l l_whole) in (all.0, all.1)

  -- in place of the next word a strange one would be wrong
  c : Completion 16 (λ v. line_read into (w ∷ v)) (take j ws)
  c =
      let wrong = after-first into w ws j few (subst (λ (v : List (List ℕ)). Passes (line_read into v) (suc j)) words_are passes) in
      subst (Completion 16 (λ v. line_read into (w ∷ v))) (sym (take-again j ws (strange ∷ []) few)) (completes front into reach w (take j ws ++ strange ∷ []) j wrong).1

  abbrev behind : List (List ℕ)
  behind = take j ws ++ c.more

  behind_solid : AllByRecursion Solid behind
  behind_solid = all_both Solid (take j ws) c.more (all_take Solid j ws solid.1) c.solid

  abbrev new_line : List ℕ
  new_line = joined w behind

  new_words : words_in new_line ≡ w ∷ behind
  new_words = words-joined w behind solid.0 behind_solid

  abbrev column : ℕ
  column = column_of (suc j) (words_in l)

  new_length : length new_line + 1 ≤ column + 16
  new_length =
      let size = joined-length w behind in
      let split = bytes_in-append (take j ws) c.more in
      let told : column ≡ column_of (suc j) (w ∷ ws) = ap (column_of (suc j)) words_are in
      let before = column-words (suc j) (w ∷ ws) in
      let short : bytes_in c.more ≤ 16 = c.short in
      omega (arith, size, split, told, before, short)

  abbrev lines : List (List ℕ)
  lines = front ++ new_line ∷ []

  reach_line : Reach nothing lines c.value
  reach_line = reach-append front (new_line ∷ []) nothing into c.value reach (c.value, (ap (line_read into) new_words ∙ c.reads, refl))

  count_lines : length lines ≡ n
  count_lines = omega (arith, length-append front (new_line ∷ []), counted)

  pub word_begins : HasRoom text n column → SomeScript text n (suc j)
  word_begins has =
      let f = finish lines c.value (omega (arith, count_lines, fits)) reach_line in
      let whole = all_both NoEnd front (new_line ∷ f.more) front_whole (joined-whole w behind solid.0 behind_solid, f.whole) in
      let read = subst (λ (ls : List (List ℕ)). Reach nothing ls f.into) (append_assoc front (new_line ∷ []) f.more) (reach-append lines f.more nothing c.value f.into reach_line f.reach) in
      let space : bytes_in front + column + 64 ≤ script_limit = omega (arith, has, ap bytes_in before_there) in
      let back_again = lines-back (front ++ new_line ∷ f.more) whole in
      let same_lines : take (n - 1) (lines_in (text_of (front ++ new_line ∷ f.more))) ≡ front = (λ i. take (before_line i) (back_again i)) ∙ take-front front (new_line ∷ f.more) in
      let new_from : drop (n - 1) (lines_in (text_of (front ++ new_line ∷ f.more))) ≡ new_line ∷ f.more = (λ i. drop (before_line i) (back_again i)) ∙ drop-front front (new_line ∷ f.more) in
      let alike_words : take (suc j) (words_in l) ≡ take (suc j) (words_in new_line) =
      ap (take (suc j)) words_are ∙ ap (λ (v : List (List ℕ)). w ∷ v) (take-again j ws c.more few) ∙ sym (ap (take (suc j)) new_words) in
      let alike : AlikeBefore (suc j) (l ∷ back) (new_line ∷ f.more) = alike_words in
      let here : AlikeBefore (suc j) (drop (n - 1) (lines_in text)) (drop (n - 1) (lines_in (text_of (front ++ new_line ∷ f.more)))) =
      subst (λ (ls : List (List ℕ)). AlikeBefore (suc j) ls (drop (n - 1) (lines_in (text_of (front ++ new_line ∷ f.more))))) (sym from_there) (subst (AlikeBefore (suc j) (l ∷ back)) (sym new_from) alike) in
      record {
        other = text_of (front ++ new_line ∷ f.more);
        alike = (before_there ∙ sym same_lines, here);
        script = f.into;
        reads =
            script_of (front ++ new_line ∷ f.more) f.into read whole (omega (arith, bytes_in-append front (new_line ∷ f.more), f.short, space, new_length))
            (omega (arith, length-append front (new_line ∷ f.more), f.few, count_lines, length-append front (new_line ∷ []))) f.one;
      }

-- a line among those that are read
record ReadLine (ls : List (List ℕ)) (s : ScriptValue) (k : ℕ) : Type 0 where
  pub front : List (List ℕ)
  pub line : List ℕ
  pub back : List (List ℕ)
  pub before : ScriptValue
  pub after : ScriptValue
  pub parts : ls ≡ front ++ line ∷ back
  pub many : length front ≡ k
  pub reach : Reach s front before
  pub reads : line_read before (words_in line) ≡ Got after

read_line : (k : ℕ) (ls : List (List ℕ)) (s t : ScriptValue) → Reach s ls t → k < length ls → ReadLine ls s k
read_line k [] s t reach within = absurd (omega (arith, within))
read_line zero (l ∷ ls) s t reach within = record { front = []; line = l; back = ls; before = s; after = reach.0; parts = refl; many = refl; reach = refl; reads = reach.1.0 }
read_line (suc k) (l ∷ ls) s t reach within =
    let r = read_line k ls reach.0 t reach.1.1 (omega (arith, within)) in
    record {
      front = l ∷ r.front;
      line = r.line;
      back = r.back;
      before = r.before;
      after = r.after;
      parts = ap (λ (ms : List (List ℕ)). l ∷ ms) r.parts;
      many = omega (arith, r.many);
      reach = (reach.0, (reach.1.0, r.reach));
      reads = r.reads;
    }

-- ---- the place that is told

first_column : (l : List ℕ) → column_of 0 (words_in l) ≡ 1
first_column l = ap (column_of 0) (some_words l).1.1

first_in : (ls : List (List ℕ)) → column_in 0 ls ≡ 1
first_in [] = refl
first_in (l ∷ ls) = first_column l

module _ (text : List ℕ) (line column : ℕ) (bad : Refused (length text) nothing 1 0 (lines_in text) line column) where
  read_whole : AllByRecursion NoEnd bad.front
  read_whole = all_left NoEnd bad.front bad.back (subst (AllByRecursion NoEnd) bad.parts (lines-whole text))

  -- before each line up to the one that is told
  line_begins : (l : ℕ) → 1 ≤ l → l ≤ line → HasRoom text l (column_in 0 (drop (l - 1) (lines_in text))) → SomeScript text l 0
  line_begins l first within has =
      let read = reach-take (l - 1) bad.front nothing bad.into bad.reach in
      let low : l - 1 ≤ length bad.front = omega (arith, within, first, bad.counted) in
      let size : length (take (l - 1) bad.front) ≡ l - 1 = omega (arith, length-take (l - 1) bad.front, low) in
      goes_on text l (take (l - 1) bad.front) read.0 (sym size) (ap (take (l - 1)) bad.parts ∙ take-append-le (l - 1) bad.front bad.back low) (all_take NoEnd (l - 1) bad.front read_whole)
      (omega (arith, size, low, bad.few)) read.1 (subst (HasRoom text l) (first_in (drop (l - 1) (lines_in text))) has)

  -- before each later word of the lines above it
  above_begins : (l j : ℕ) → 1 ≤ l → l < line → suc j ≤ words_at (drop (l - 1) (lines_in text)) → HasRoom text l (column_in (suc j) (drop (l - 1) (lines_in text))) → SomeScript text l (suc j)
  above_begins l j first above within has =
      let r = read_line (l - 1) bad.front nothing bad.into bad.reach (omega (arith, first, above, bad.counted)) in
      let parts : lines_in text ≡ r.front ++ r.line ∷ (r.back ++ bad.back) = bad.parts ∙ ap (λ (ms : List (List ℕ)). ms ++ bad.back) r.parts ∙ append_assoc r.front (r.line ∷ r.back) bad.back in
      let counted : l ≡ 1 + length r.front = omega (arith, r.many, first) in
      let at : l - 1 ≡ length r.front = sym r.many in
      let from : drop (l - 1) (lines_in text) ≡ r.line ∷ (r.back ++ bad.back) = (λ i. drop (at i) (parts i)) ∙ drop-front r.front (r.line ∷ (r.back ++ bad.back)) in
      let there : suc j ≤ length (words_in r.line) = subst (λ (ls : List (List ℕ)). suc j ≤ words_at ls) from within in
      word_begins text l r.front r.before r.line (r.back ++ bad.back) parts counted r.reach (omega (arith, above, bad.counted, bad.few)) j there
      (λ i is. let both : (let x : LineRead ScriptValue = Got r.after in x) ≡ Wrong i = sym r.reads ∙ is in cc)
      (subst (λ (ls : List (List ℕ)). HasRoom text l (column_in (suc j) ls)) from has)

  line_first : 1 ≤ line
  line_first = omega (arith, bad.counted)

  line_within : line ≤ length (lines_in text) + 1
  line_within = omega (arith, bad.counted, ap length bad.parts, length-append bad.front bad.back)

  -- what is told where the lines from there on are these
  module _ (back : List (List ℕ)) (back_is : bad.back ≡ back) where
    from_line : drop (line - 1) (lines_in text) ≡ back
    from_line = lines_from text line column bad ∙ back_is

    -- each word above it, and each before it in its line
    up_to : (word : ℕ) → ((j : ℕ) → suc j ≤ word → suc j ≤ words_at back → HasRoom text line (column_in (suc j) back) → SomeScript text line (suc j))
        → (l k : ℕ) → IsUpTo text line word l k → HasRoom text l (column_in k (drop (l - 1) (lines_in text))) → SomeScript text l k
    up_to word before l zero (first, within, inl above) has = line_begins l first (omega (arith, above)) has
    up_to word before l zero (first, within, inr (here, low)) has = line_begins l first (omega (arith, here)) has
    up_to word before l (suc j) (first, within, inl above) has = above_begins l j first above within has
    up_to word before l (suc j) (first, within, inr (here, low)) has =
        let at : drop (l - 1) (lines_in text) ≡ back = ap (λ (n : ℕ). drop (n - 1) (lines_in text)) here ∙ from_line in
        subst (λ (n : ℕ). SomeScript text n (suc j)) (sym here)
        (before j low (subst (λ (ls : List (List ℕ)). suc j ≤ words_at ls) at within)
        (subst (λ (n : ℕ). HasRoom text n (column_in (suc j) back)) here (subst (λ (ls : List (List ℕ)). HasRoom text l (column_in (suc j) ls)) at has)))

    told_at : (word : ℕ) → column ≡ column_in word back → column ≡ column_in word (drop (line - 1) (lines_in text))
    told_at word is = is ∙ ap (column_in word) (sym from_line)

    word_at : (word : ℕ) → word ≤ words_at back → word ≤ words_at (drop (line - 1) (lines_in text))
    word_at word within = subst (λ (ms : List (List ℕ)). word ≤ words_at ms) (sym from_line) within

    abbrev Refuses : ℕ → Type 0
    Refuses word = (total b : ℕ) (ls : List (List ℕ)) (u : ScriptValue) → AlikeWith word back ls → script_from total bad.into line b ls ≡ Script u → ⊥

    stops_at : (word : ℕ) → Refuses word → NoScript text line word
    stops_at word refuses = no_script text line column bad word
        (subst (λ (ms : List (List ℕ)). (total b : ℕ) (ls : List (List ℕ)) (u : ScriptValue) → AlikeWith word ms ls → script_from total bad.into line b ls ≡ Script u → ⊥) (sym back_is) refuses)

    -- the first word of a line, or where a missing one would stand
    at_first : column ≡ column_in 0 back → (IsCutOff text line × (zero ≡ 0)) ⊎ NoScript text line 0 → IsFirstWrong text line column
    at_first is stops = record {
      first_line = line_first;
      within_lines = line_within;
      word = 0;
      within_words = word_at 0 (omega arith);
      told = told_at 0 is;
      stops = stops;
      begins = up_to 0 (λ j low. absurd (omega (arith, low)));
    }

  cut_off : (l : List ℕ) (back : List (List ℕ)) → bad.back ≡ l ∷ back → script_limit < length text → script_limit ≤ 0 + bytes_in bad.front + length l → IsCutOff text line
  cut_off l back back_is long here =
      let counted : line ≡ suc (length bad.front) = omega (arith, bad.counted) in
      let lines : take line (lines_in text) ≡ bad.front ++ l ∷ [] =
      (λ i. take (counted i) (bad.parts i)) ∙ ap (λ (ls : List (List ℕ)). take (suc (length bad.front)) (bad.front ++ ls)) back_is ∙ take-one bad.front l back in
      let bytes : bytes_in (take line (lines_in text)) ≡ bytes_in bad.front + bytes_in (l ∷ []) = ap bytes_in lines ∙ bytes_in-append bad.front (l ∷ []) in
      let within : bytes_in (take (line - 1) (lines_in text)) ≤ script_limit = omega (arith, ap bytes_in (lines_before text line column bad), bad.within long (omega arith)) in
      (long, (omega (arith, bytes, here), within))

  -- a later word of a line
  at_word : (l : List ℕ) (back : List (List ℕ)) → bad.back ≡ l ∷ back → line ≤ line_limit → (j : ℕ) → line_read bad.into (words_in l) ≡ Wrong (suc j) → column ≡ column_of (suc j) (words_in l) → IsFirstWrong text line column
  at_word l back back_is fits j wrong is =
      let words_are = (some_words l).1.1 in
      let there = completes bad.front bad.into bad.reach (some_words l).0 (some_words l).1.0 j (subst (λ (v : List (List ℕ)). line_read bad.into v ≡ Wrong (suc j)) words_are wrong) in
      record {
        first_line = line_first;
        within_lines = line_within;
        word = suc j;
        within_words = word_at (l ∷ back) back_is (suc j) (omega (arith, there.0, ap length words_are));
        told = told_at (l ∷ back) back_is (suc j) is;
        stops = inr (stops_at (l ∷ back) back_is (suc j) (word_refused bad.into line l back (suc j) wrong));
        begins = up_to (l ∷ back) back_is (suc j) (λ i low within has.
            word_begins text line bad.front bad.into l back (bad.parts ∙ ap (λ (ls : List (List ℕ)). bad.front ++ ls) back_is) (omega (arith, bad.counted)) bad.reach fits i within
            (λ k refused. omega (arith, low, same_number (suc j) k (sym wrong ∙ refused))) has);
      }

  by_cause : (l : List ℕ) (back : List (List ℕ)) → bad.back ≡ l ∷ back → Cause (length text) bad.into line (0 + bytes_in bad.front) l column → IsFirstWrong text line column
  by_cause l back back_is (TooManyLines past is) =
      at_first (l ∷ back) back_is (is ∙ sym (first_column l)) (inr (stops_at (l ∷ back) back_is 0 (line_refused bad.into line l back past)))
  by_cause l back back_is (TooManyBytes long here is) = at_first (l ∷ back) back_is (is ∙ sym (first_column l)) (inl (cut_off l back back_is long here, refl))
  by_cause l back back_is (WrongWord fits zero wrong is) = at_first (l ∷ back) back_is is (inr (stops_at (l ∷ back) back_is 0 (word_refused bad.into line l back 0 wrong)))
  by_cause l back back_is (WrongWord fits (suc j) wrong is) = at_word l back back_is fits j wrong is

  by_back : (back : List (List ℕ)) → bad.back ≡ back → CauseIn (length text) bad.into line (0 + bytes_in bad.front) back column → IsFirstWrong text line column
  by_back [] back_is cause = at_first [] back_is cause.1 (inr (stops_at [] back_is 0 (missing_refused bad.into line cause.0)))
  by_back (l ∷ back) back_is cause = by_cause l back back_is cause

  pub is_first : IsFirstWrong text line column
  is_first = by_back bad.back refl bad.cause

pub first_wrong : FirstWrongIsTold
first_wrong text line column is = is_first text line column (walk (lines_in text) (length text) nothing 1 0 line column (omega arith) is)
