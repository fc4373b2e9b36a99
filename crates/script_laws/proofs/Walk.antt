-- Where the reading of a text stops, and why.
use Rattle.std.proofs.Common.{◌≡◌, ℕ, suc, ◌+◌, ◌-◌, ◌<◌, ◌≤◌, ◌==◌, Bool, true, false, if◌then◌else◌, List, [], ◌∷◌, ◌++◌, length, take, drop, refl, sym, ap, ◌∙◌, subst, arith}
use Rattle.std.specs.Prelude.{◌||◌, nat_lt}
use Rattle.std.proofs.lemmas.Bool.Decides.{nat_tests}
use Rattle.std.proofs.lemmas.List.{take-append-drop}
use Rattle.script_lang.specs.Script.{ScriptValue}
use Rattle.script_lang.specs.Words.{lines_in, words_in, column_of, LineRead, Got, Wrong}
use Rattle.script_lang.specs.Grammar.{script_limit, line_limit, nothing, has_byte_past_limit, line_read, script_from, script_read, Script, Bad}
use Rattle.script_laws.specs.Places.{AlikeWith, bytes_in, NoScript}
use Rattle.script_laws.proofs.ScriptsBack.{Reach}
use Rattle.script_laws.proofs.Stops.{stops-line}

-- why a line is refused that is read into this script
pub data Cause (total : ℕ) (t : ScriptValue) (n before : ℕ) (l : List ℕ) (column : ℕ) : Type 0 where
  TooManyLines : line_limit < n → column ≡ 1 → Cause total t n before l column
  TooManyBytes : script_limit < total → script_limit ≤ before + length l → column ≡ 1 → Cause total t n before l column
  WrongWord : n ≤ line_limit → (k : ℕ) → line_read t (words_in l) ≡ Wrong k → column ≡ column_of k (words_in l) → Cause total t n before l column

-- or why one is missing
abbrev pub CauseIn : ℕ → ScriptValue → ℕ → ℕ → List (List ℕ) → ℕ → Type 0
CauseIn total t n before [] column = (length t.clients ≡ 0) × (column ≡ 1)
CauseIn total t n before (l ∷ ls) column = Cause total t n before l column

pub record Refused (total : ℕ) (s : ScriptValue) (n before : ℕ) (ls : List (List ℕ)) (line column : ℕ) : Type 0 where
  pub front : List (List ℕ)
  pub back : List (List ℕ)
  pub into : ScriptValue
  pub parts : ls ≡ front ++ back
  pub reach : Reach s front into
  pub counted : line ≡ n + length front
  pub few : n + length front ≤ line_limit + 1
  -- where the text is longer than the limit, this doesn't come in the lines before
  pub within : script_limit < total → before ≤ script_limit → before + bytes_in front ≤ script_limit
  pub cause : CauseIn total into line (before + bytes_in front) back column

bad_line : (a b c d : ℕ) → Bad a b ≡ Bad c d → (c ≡ a) × (d ≡ b)
bad_line a b c d is = (cc, cc)

pub walk : (ls : List (List ℕ)) (total : ℕ) (s : ScriptValue) (n before line column : ℕ) → n ≤ line_limit + 1 → script_from total s n before ls ≡ Bad line column → Refused total s n before ls line column
walk [] total s n before line column few bad = by_test (length s.clients == 0) refl bad
  where
    by_test : (t : Bool) → (length s.clients == 0) ≡ t → (if t then Bad n 1 else Script s) ≡ Bad line column → Refused total s n before [] line column
    by_test true e is =
        let at = bad_line n 1 line column is in
        record { front = []; back = []; into = s; parts = refl; reach = refl; counted = omega (arith, at.0); few = omega (arith, few); within = λ long fits. omega (arith, fits); cause = (grind (arith, nat_tests), at.1) }
    by_test false e is = cc
walk (l ∷ ls) total s n before line column few bad =
    by_line (nat_lt line_limit n) (has_byte_past_limit total before l) (line_read s (words_in l)) refl refl refl bad (λ t. walk ls total t (n + 1) (before + length l + 1) line column)
  where
    here : line ≡ n → Cause total s line (before + 0) l column → Refused total s n before (l ∷ ls) line column
    here at cause = record { front = []; back = l ∷ ls; into = s; parts = refl; reach = refl; counted = omega (arith, at); few = omega (arith, few); within = λ long fits. omega (arith, fits); cause = cause }

    by_line : (many long : Bool) (r : LineRead ScriptValue) → nat_lt line_limit n ≡ many → has_byte_past_limit total before l ≡ long → line_read s (words_in l) ≡ r
        → (if many || long then Bad n 1 else elim r [ Got t ↦ script_from total t (n + 1) (before + length l + 1) ls | Wrong k ↦ Bad n (column_of k (words_in l)) ]) ≡ Bad line column
        → ((t : ScriptValue) → n + 1 ≤ line_limit + 1 → script_from total t (n + 1) (before + length l + 1) ls ≡ Bad line column → Refused total t (n + 1) (before + length l + 1) ls line column)
        → Refused total s n before (l ∷ ls) line column
    by_line true long r many_is long_is r_is is later =
        let at = bad_line n 1 line column is in
        let past : line_limit < n = grind (arith, nat_tests) in
        here at.0 (TooManyLines (omega (arith, past, at.0)) at.1)
    by_line false true r many_is long_is r_is is later =
        let at = bad_line n 1 line column is in
        let more : script_limit < total = grind (arith, nat_tests) in
        let within : script_limit ≤ before + length l = grind (arith, nat_tests) in
        here at.0 (TooManyBytes more (omega (arith, within)) at.1)
    by_line false false (Wrong k) many_is long_is r_is is later =
        let at = bad_line n (column_of k (words_in l)) line column is in
        let fits : n ≤ line_limit = grind (arith, nat_tests) in
        here at.0 (WrongWord (omega (arith, fits, at.0)) k r_is at.1)
    by_line false false (Got t) many_is long_is r_is is later =
        let fits : n ≤ line_limit = grind (arith, nat_tests) in
        let rest = later t (omega (arith, fits)) is in
        let same : before + length l + 1 + bytes_in rest.front ≡ before + bytes_in (l ∷ rest.front) = omega arith in
        let goes_past : script_limit < total → before + length l + 1 ≤ script_limit = λ more. grind (arith, nat_tests) in
        record {
          front = l ∷ rest.front;
          back = rest.back;
          into = rest.into;
          parts = ap (λ (m : List (List ℕ)). l ∷ m) rest.parts;
          reach = (t, (r_is, rest.reach));
          counted = omega (arith, rest.counted);
          few = omega (arith, rest.few);
          within = λ more fits. subst (λ (b : ℕ). b ≤ script_limit) same (rest.within more (goes_past more));
          cause = subst (λ (b : ℕ). CauseIn total rest.into line b rest.back column) same rest.cause;
        }

-- ---- a script that begins with these lines goes on from what they are read into

pub follow : (front back : List (List ℕ)) (total n before : ℕ) (s t u : ScriptValue) → Reach s front t → script_from total s n before (front ++ back) ≡ Script u
    → (b : ℕ) × (script_from total t (n + length front) b back ≡ Script u)
follow [] back total n before s t u reach is =
    let same : n ≡ n + 0 = omega arith in
    (before, subst (λ (m : ℕ). script_from total t m before back ≡ Script u) same (subst (λ (v : ScriptValue). script_from total v n before back ≡ Script u) reach is))
follow (l ∷ front) back total n before s t u reach is =
    by_test (nat_lt line_limit n || has_byte_past_limit total before l) refl (follow front back total (n + 1) (before + length l + 1) reach.0 t u reach.1.1)
  where
    by_test : (test : Bool) → (nat_lt line_limit n || has_byte_past_limit total before l) ≡ test
        → (script_from total reach.0 (n + 1) (before + length l + 1) (front ++ back) ≡ Script u → (b : ℕ) × (script_from total t (n + 1 + length front) b back ≡ Script u)) → (b : ℕ) × (script_from total t (n + length (l ∷ front)) b back ≡ Script u)
    by_test true e later = let both : Bad n 1 ≡ Script u = rw e at is in cc
    by_test false e later =
        let next : script_from total reach.0 (n + 1) (before + length l + 1) (front ++ back) ≡ Script u = rw (e, reach.1.0) at is in
        let more = later next in
        let same : n + 1 + length front ≡ n + length (l ∷ front) = omega arith in
        (more.0, subst (λ (m : ℕ). script_from total t m more.0 back ≡ Script u) same more.1)

-- ---- lists in two parts

pub take-front : (front back : List (List ℕ)) → take (length front) (front ++ back) ≡ front
take-front [] back = refl
take-front (l ∷ front) back = ap (λ (m : List (List ℕ)). l ∷ m) (take-front front back)

pub drop-front : (front back : List (List ℕ)) → drop (length front) (front ++ back) ≡ back
drop-front [] back = refl
drop-front (l ∷ front) back = drop-front front back

pub take-one : (front : List (List ℕ)) (l : List ℕ) (back : List (List ℕ)) → take (suc (length front)) (front ++ l ∷ back) ≡ front ++ l ∷ []
take-one [] l back = refl
take-one (m ∷ front) l back = ap (λ (ls : List (List ℕ)). m ∷ ls) (take-one front l back)

pub bytes_in-append : (ls ms : List (List ℕ)) → bytes_in (ls ++ ms) ≡ bytes_in ls + bytes_in ms
bytes_in-append [] ms = omega arith
bytes_in-append (l ∷ ls) ms = omega (arith, bytes_in-append ls ms)

-- ---- the wrong word of a text

module _ (text : List ℕ) (line column : ℕ) (bad : Refused (length text) nothing 1 0 (lines_in text) line column) where
  pub before_line : line - 1 ≡ length bad.front
  before_line = omega (arith, bad.counted)

  pub lines_before : take (line - 1) (lines_in text) ≡ bad.front
  lines_before = (λ i. take (before_line i) (bad.parts i)) ∙ take-front bad.front bad.back

  pub lines_from : drop (line - 1) (lines_in text) ≡ bad.back
  lines_from = (λ i. drop (before_line i) (bad.parts i)) ∙ drop-front bad.front bad.back

  -- another text with the same lines before this one goes on from the same script
  another : (other : List ℕ) (u : ScriptValue) → take (line - 1) (lines_in text) ≡ take (line - 1) (lines_in other) → script_read other ≡ Script u
      → (b : ℕ) × (script_from (length other) bad.into line b (drop (line - 1) (lines_in other)) ≡ Script u)
  another other u same is =
      let parts : lines_in other ≡ bad.front ++ drop (line - 1) (lines_in other) =
      sym (take-append-drop (line - 1) (lines_in other)) ∙ ap (λ (ls : List (List ℕ)). ls ++ drop (line - 1) (lines_in other)) (sym same ∙ lines_before) in
      let whole : script_from (length other) nothing 1 0 (bad.front ++ drop (line - 1) (lines_in other)) ≡ Script u = ap (script_from (length other) nothing 1 0) (sym parts) ∙ is in
      let next = follow bad.front (drop (line - 1) (lines_in other)) (length other) 1 0 nothing bad.into u bad.reach whole in
      (next.0, subst (λ (m : ℕ). script_from (length other) bad.into m next.0 (drop (line - 1) (lines_in other)) ≡ Script u) (sym bad.counted) next.1)

  -- whatever the other goes on with, it is refused there
  abbrev Refuses : ℕ → Type 0
  Refuses word = (total b : ℕ) (ls : List (List ℕ)) (u : ScriptValue) → AlikeWith word bad.back ls → script_from total bad.into line b ls ≡ Script u → ⊥

  pub no_script : (word : ℕ) → Refuses word → NoScript text line word
  no_script word refuses other u alike is =
      let next = another other u alike.0 is in
      refuses (length other) next.0 (drop (line - 1) (lines_in other)) u (subst (λ (ls : List (List ℕ)). AlikeWith word ls (drop (line - 1) (lines_in other))) lines_from alike.1) next.1

-- ---- each cause

module _ (t : ScriptValue) (line : ℕ) where
  pub missing_refused : length t.clients ≡ 0 → (total b : ℕ) (ls : List (List ℕ)) (u : ScriptValue) → AlikeWith 0 [] ls → script_from total t line b ls ≡ Script u → ⊥
  missing_refused none total b [] u alike is =
      let zero_is : (length t.clients == 0) ≡ true = grind (arith, nat_tests) in
      let both : Bad line 1 ≡ Script u = rw zero_is at is in cc
  missing_refused none total b (m ∷ ms) u alike is = alike

  pub line_refused : (l : List ℕ) (back : List (List ℕ)) → line_limit < line → (total b : ℕ) (ls : List (List ℕ)) (u : ScriptValue) → AlikeWith 0 (l ∷ back) ls → script_from total t line b ls ≡ Script u → ⊥
  line_refused l back past total b [] u alike is = alike
  line_refused l back past total b (m ∷ ms) u alike is =
      let over : nat_lt line_limit line ≡ true = grind (arith, nat_tests) in
      let both : Bad line 1 ≡ Script u = rw over at is in cc

  pub word_refused : (l : List ℕ) (back : List (List ℕ)) (k : ℕ) → line_read t (words_in l) ≡ Wrong k → (total b : ℕ) (ls : List (List ℕ)) (u : ScriptValue) → AlikeWith k (l ∷ back) ls → script_from total t line b ls ≡ Script u → ⊥
  word_refused l back k wrong total b [] u alike is = alike
  word_refused l back k wrong total b (m ∷ ms) u alike is = by_test (nat_lt line_limit line || has_byte_past_limit total b m) refl
    where
      by_test : (test : Bool) → (nat_lt line_limit line || has_byte_past_limit total b m) ≡ test → ⊥
      by_test true e = let both : Bad line 1 ≡ Script u = rw e at is in cc
      by_test false e =
          let read : line_read t (words_in m) ≡ Wrong k = stops-line t (words_in l) (words_in m) k wrong alike in
          let both : Bad line (column_of k (words_in m)) ≡ Script u = rw (e, read) at is in cc
