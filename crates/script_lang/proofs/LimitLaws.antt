-- A text past the limit of bytes is refused at the line that passes it, whatever follows.
use Rattle.std.proofs.Common.{◌≡◌, ℕ, ◌+◌, ◌<◌, ◌≤◌, Bool, true, false, List, [], ◌∷◌, ◌++◌, length, refl, sym, ap, ◌∙◌, arith, append_assoc, append-nil, length-append}
use Rattle.std.specs.Prelude.{◌||◌, nat_lt, ◌==◌, if◌then◌else◌}
use Rattle.std.specs.List.{onto_first}
use Rattle.std.proofs.lemmas.Bool.Decides.{nat_tests}
use Rattle.script_lang.specs.Script.{ScriptValue}
use Rattle.script_lang.specs.Words.{lines_in, words_in, column_of, LineRead, Got, Wrong}
use Rattle.script_lang.specs.Grammar.{script_limit, line_limit, has_byte_past_limit, line_read, script_from, nothing, Script, Bad}
use Rattle.script_lang.specs.Laws.{LimitDecides}

-- ---- a line that was begun

abbrev prepend : List ℕ → List (List ℕ) → List (List ℕ)
prepend [] ls = ls
prepend (c ∷ cs) [] = (c ∷ cs) ∷ []
prepend (c ∷ cs) (l ∷ ls) = ((c ∷ cs) ++ l) ∷ ls

prepend_byte : (begun : List ℕ) (b : ℕ) (ls : List (List ℕ)) → prepend begun (onto_first b ls) ≡ prepend (begun ++ b ∷ []) ls
prepend_byte [] b [] = refl
prepend_byte [] b (l ∷ ls) = refl
prepend_byte (c ∷ cs) b [] = refl
prepend_byte (c ∷ cs) b (l ∷ ls) = ap (λ (m : List ℕ). m ∷ ls) (sym (append_assoc (c ∷ cs) (b ∷ []) l))

prepend_end : (begun : List ℕ) (ls : List (List ℕ)) → prepend begun ([] ∷ ls) ≡ begun ∷ ls
prepend_end [] ls = refl
prepend_end (c ∷ cs) ls = ap (λ (m : List ℕ). m ∷ ls) (append-nil (c ∷ cs))

-- ---- the line that passes the limit

or_true : (b : Bool) → (b || true) ≡ true
or_true true = refl
or_true false = refl

passes : (total before : ℕ) (l : List ℕ) → script_limit < total → script_limit ≤ before + length l → has_byte_past_limit total before l ≡ true
passes total before l long at = grind (arith, nat_tests)

refused : (total : ℕ) (s : ScriptValue) (n before : ℕ) (l : List ℕ) (ls : List (List ℕ)) → script_limit < total → script_limit ≤ before + length l
    → script_from total s n before (l ∷ ls) ≡ Bad n 1
refused total s n before l ls long at = rw (passes total before l long at) (rw (or_true (nat_lt line_limit n)) refl)

-- ---- what follows changes nothing

within : (total n before : ℕ) (l : List ℕ) → script_limit < total → (nat_lt line_limit n || has_byte_past_limit total before l) ≡ false → before + length l + 1 ≤ script_limit
within total n before l long fine = grind (arith, nat_tests)

module _ (total : ℕ) (s : ScriptValue) (n before : ℕ) (l : List ℕ) (ls : List (List ℕ)) where
  step_refused : (nat_lt line_limit n || has_byte_past_limit total before l) ≡ true → script_from total s n before (l ∷ ls) ≡ Bad n 1
  step_refused is = rw is refl

  step_wrong : (k : ℕ) → (nat_lt line_limit n || has_byte_past_limit total before l) ≡ false → line_read s (words_in l) ≡ Wrong k
      → script_from total s n before (l ∷ ls) ≡ Bad n (column_of k (words_in l))
  step_wrong k is read = rw is (rw read refl)

  step_got : (t : ScriptValue) → (nat_lt line_limit n || has_byte_past_limit total before l) ≡ false → line_read s (words_in l) ≡ Got t
      → script_from total s n before (l ∷ ls) ≡ script_from total t (n + 1) (before + length l + 1) ls
  step_got t is read = rw is (rw read refl)

-- for what is left of the text
abbrev FollowsNothing : ℕ → List ℕ → List ℕ → Type 0
FollowsNothing total front rest = (begun : List ℕ) (s : ScriptValue) (n before : ℕ) → before ≤ script_limit → script_limit < before + length begun + length front
    → script_from total s n before (prepend begun (lines_in (front ++ rest))) ≡ script_from total s n before (prepend begun (lines_in front))

after_line : (total : ℕ) (front rest begun : List ℕ) (s : ScriptValue) (n before : ℕ) → script_limit < total → FollowsNothing total front rest → script_limit < before + length begun + (length front + 1)
    → script_from total s n before (begun ∷ lines_in (front ++ rest)) ≡ script_from total s n before (begun ∷ lines_in front)
after_line total front rest begun s n before long later size =
    by_test (nat_lt line_limit n || has_byte_past_limit total before begun) (line_read s (words_in begun)) refl refl
  where
    by_test : (test : Bool) (read : LineRead ScriptValue) → (nat_lt line_limit n || has_byte_past_limit total before begun) ≡ test → line_read s (words_in begun) ≡ read
        → script_from total s n before (begun ∷ lines_in (front ++ rest)) ≡ script_from total s n before (begun ∷ lines_in front)
    by_test true read is told = step_refused total s n before begun (lines_in (front ++ rest)) is ∙ sym (step_refused total s n before begun (lines_in front) is)
    by_test false (Wrong k) is told = step_wrong total s n before begun (lines_in (front ++ rest)) k is told ∙ sym (step_wrong total s n before begun (lines_in front) k is told)
    by_test false (Got t) is told =
        step_got total s n before begun (lines_in (front ++ rest)) t is told
        ∙ later [] t (n + 1) (before + length begun + 1) (within total n before begun long is) (omega (arith, size))
        ∙ sym (step_got total s n before begun (lines_in front) t is told)

cut : (total : ℕ) (rest begun : List ℕ) (s : ScriptValue) (n before : ℕ) (ls : List (List ℕ)) → script_limit < total → before ≤ script_limit → script_limit < before + length begun
    → script_from total s n before (prepend begun ls) ≡ Bad n 1
cut total rest [] s n before ls long start size = absurd (omega (arith, start, size))
cut total rest (c ∷ cs) s n before [] long start size = refused total s n before (c ∷ cs) [] long (omega (arith, size))
cut total rest (c ∷ cs) s n before (l ∷ ls) long start size = refused total s n before ((c ∷ cs) ++ l) ls long (omega (arith, size, length-append (c ∷ cs) l))

follows_nothing : (total : ℕ) (front rest : List ℕ) → script_limit < total → FollowsNothing total front rest
follows_nothing total [] rest long begun s n before start size =
    cut total rest begun s n before (lines_in rest) long start (omega (arith, size)) ∙ sym (cut total rest begun s n before [] long start (omega (arith, size)))
follows_nothing total (b ∷ bs) rest long begun s n before start size = by_byte (b == 10) (follows_nothing total bs rest long)
  where
    by_byte : (is : Bool) → FollowsNothing total bs rest
        → script_from total s n before (prepend begun (if is then [] ∷ lines_in (bs ++ rest) else onto_first b (lines_in (bs ++ rest))))
        ≡ script_from total s n before (prepend begun (if is then [] ∷ lines_in bs else onto_first b (lines_in bs)))
    by_byte true later =
        ap (script_from total s n before) (prepend_end begun (lines_in (bs ++ rest))) ∙ after_line total bs rest begun s n before long later (omega (arith, size))
        ∙ sym (ap (script_from total s n before) (prepend_end begun (lines_in bs)))
    by_byte false later =
        ap (script_from total s n before) (prepend_byte begun b (lines_in (bs ++ rest)))
        ∙ later (begun ++ b ∷ []) s n before start (omega (arith, size, length-append begun (b ∷ [])))
        ∙ sym (ap (script_from total s n before) (prepend_byte begun b (lines_in bs)))

-- ---- totals past the limit are alike

past : (total other before : ℕ) (l : List ℕ) → script_limit < total → script_limit < other → has_byte_past_limit total before l ≡ has_byte_past_limit other before l
past total other before l long too = grind (arith, nat_tests)

alike : (total other : ℕ) (ls : List (List ℕ)) (s : ScriptValue) (n before : ℕ) → script_limit < total → script_limit < other → script_from total s n before ls ≡ script_from other s n before ls
alike total other [] s n before long too = refl
alike total other (l ∷ ls) s n before long too =
    by_test (nat_lt line_limit n || has_byte_past_limit total before l) (line_read s (words_in l)) refl refl (λ t. alike total other ls t (n + 1) (before + length l + 1) long too)
  where
    same : (nat_lt line_limit n || has_byte_past_limit other before l) ≡ (nat_lt line_limit n || has_byte_past_limit total before l)
    same = ap (λ (b : Bool). nat_lt line_limit n || b) (sym (past total other before l long too))

    by_test : (test : Bool) (read : LineRead ScriptValue) → (nat_lt line_limit n || has_byte_past_limit total before l) ≡ test → line_read s (words_in l) ≡ read
        → ((t : ScriptValue) → script_from total t (n + 1) (before + length l + 1) ls ≡ script_from other t (n + 1) (before + length l + 1) ls)
        → script_from total s n before (l ∷ ls) ≡ script_from other s n before (l ∷ ls)
    by_test true read is told later = step_refused total s n before l ls is ∙ sym (step_refused other s n before l ls (same ∙ is))
    by_test false (Wrong k) is told later = step_wrong total s n before l ls k is told ∙ sym (step_wrong other s n before l ls k (same ∙ is) told)
    by_test false (Got t) is told later = step_got total s n before l ls t is told ∙ later t ∙ sym (step_got other s n before l ls t (same ∙ is) told)

-- ---- no script is that long

never : (total : ℕ) (front begun : List ℕ) (s t : ScriptValue) (n before : ℕ) → script_limit < total → before ≤ script_limit → script_limit < before + length begun + length front
    → script_from total s n before (prepend begun (lines_in front)) ≡ Script t → ⊥
never total [] begun s t n before long start size is = let both : Bad n 1 ≡ Script t = sym (cut total [] begun s n before [] long start (omega (arith, size))) ∙ is in cc
never total (b ∷ bs) begun s t n before long start size told = by_byte (b == 10) (never total bs) told
  where
    by_byte : (is : Bool)
        → ((begun' : List ℕ) (s' t' : ScriptValue) (n' before' : ℕ) → script_limit < total → before' ≤ script_limit → script_limit < before' + length begun' + length bs
        → script_from total s' n' before' (prepend begun' (lines_in bs)) ≡ Script t' → ⊥)
        → script_from total s n before (prepend begun (if is then [] ∷ lines_in bs else onto_first b (lines_in bs))) ≡ Script t → ⊥
    by_byte false later is =
        later (begun ++ b ∷ []) s t n before long start (omega (arith, size, length-append begun (b ∷ []))) (sym (ap (script_from total s n before) (prepend_byte begun b (lines_in bs))) ∙ is)
    by_byte true later is =
        by_test (nat_lt line_limit n || has_byte_past_limit total before begun) (line_read s (words_in begun)) refl refl (sym (ap (script_from total s n before) (prepend_end begun (lines_in bs))) ∙ is)
      where
        by_test : (test : Bool) (read : LineRead ScriptValue) → (nat_lt line_limit n || has_byte_past_limit total before begun) ≡ test → line_read s (words_in begun) ≡ read
            → script_from total s n before (begun ∷ lines_in bs) ≡ Script t → ⊥
        by_test true read fine told is = let both : Bad n 1 ≡ Script t = sym (step_refused total s n before begun (lines_in bs) fine) ∙ is in cc
        by_test false (Wrong k) fine told is =
            let both : Bad n (column_of k (words_in begun)) ≡ Script t = sym (step_wrong total s n before begun (lines_in bs) k fine told) ∙ is in cc
        by_test false (Got u) fine told is =
            later [] u t (n + 1) (before + length begun + 1) long (within total n before begun long fine) (omega (arith, size)) (sym (step_got total s n before begun (lines_in bs) u fine told) ∙ is)

pub limit_decides : LimitDecides
limit_decides text rest long =
    let longer : script_limit < length (text ++ rest) = omega (arith, long, length-append text rest) in (
      alike (length (text ++ rest)) (length text) (lines_in (text ++ rest)) nothing 1 0 longer long ∙ follows_nothing (length text) text rest long [] nothing 1 0 (omega arith) (omega (arith, long)),
      λ s is. never (length text) text [] nothing s 1 0 long (omega arith) (omega (arith, long)) is,
    )
