-- Texts of lines, and lines of words.
use Rattle.std.proofs.Common.{◌≡◌, ℕ, zero, suc, ◌+◌, ◌≤◌, ◌==◌, Bool, true, false, not, List, [], ◌∷◌, ◌++◌, length, take, refl, ap, ◌∙◌, arith, append_assoc, length-append}
use Rattle.std.specs.Prelude.{codes}
use Rattle.std.specs.List.{AllByRecursion, list_all, flat_map, onto_first}
use Rattle.std.proofs.lemmas.Bool.{and_parts, not-true}
use Rattle.script_lang.specs.Script.{ScriptValue}
use Rattle.script_lang.specs.Words.{lines_in, words_in, column_of}
use Rattle.script_lang.specs.Grammar.{script_limit, line_limit, nothing, script_read, script_from, Script}
use Rattle.script_laws.specs.Places.{bytes_in}
use Rattle.script_laws.proofs.Inks.{both, all-append, all-weaker}
use Rattle.script_laws.proofs.WordsBack.{words-parts}
use Rattle.script_laws.proofs.Begins.{Solid, is_solid}
use Rattle.script_laws.proofs.Stages.{NoEnd}
use Rattle.script_laws.proofs.ScriptsBack.{Reach, read_all}

-- ---- parts of lists

pub all_left : {A : Type 0} (P : A → Type 0) (xs ys : List A) → AllByRecursion P (xs ++ ys) → AllByRecursion P xs
all_left P [] ys all = tt
all_left P (x ∷ xs) ys all = (all.0, all_left P xs ys all.1)

pub all_right : {A : Type 0} (P : A → Type 0) (xs ys : List A) → AllByRecursion P (xs ++ ys) → AllByRecursion P ys
all_right P [] ys all = all
all_right P (x ∷ xs) ys all = all_right P xs ys all.1

pub all_both : {A : Type 0} (P : A → Type 0) (xs ys : List A) → AllByRecursion P xs → AllByRecursion P ys → AllByRecursion P (xs ++ ys)
all_both P [] ys one two = two
all_both P (x ∷ xs) ys one two = (one.0, all_both P xs ys one.1 two)

pub all_take : {A : Type 0} (P : A → Type 0) (k : ℕ) (xs : List A) → AllByRecursion P xs → AllByRecursion P (take k xs)
all_take P zero [] all = tt
all_take P zero (x ∷ xs) all = tt
all_take P (suc k) [] all = tt
all_take P (suc k) (x ∷ xs) all = (all.0, all_take P k xs all.1)

pub take-again : {A : Type 0} (k : ℕ) (xs ys : List A) → k ≤ length xs → take k xs ≡ take k (take k xs ++ ys)
take-again zero [] ys within = refl
take-again zero (x ∷ xs) ys within = refl
take-again (suc k) [] ys within = absurd (omega arith)
take-again {A} (suc k) (x ∷ xs) ys within = ap (λ (l : List A). x ∷ l) (take-again k xs ys (omega arith))

-- ---- lines

not_ten : (b : ℕ) → not (b == 10) ≡ true → (b == 10) ≡ false
not_ten b is = not-true (b == 10) is

lines-more : (l rest : List ℕ) → NoEnd l → lines_in (l ++ 10 ∷ rest) ≡ l ∷ lines_in rest
lines-more [] rest all = refl
lines-more (b ∷ bs) rest all =
    let parts = and_parts (not (b == 10)) (list_all (λ b. not (b == 10)) bs) all in
    rw (not_ten b parts.0) (ap (onto_first b) (lines-more bs rest parts.1))

abbrev pub text_of : List (List ℕ) → List ℕ
text_of ls = flat_map (λ l. l ++ codes "\n") ls

pub lines-back : (ls : List (List ℕ)) → AllByRecursion NoEnd ls → lines_in (text_of ls) ≡ ls
lines-back [] all = refl
lines-back (l ∷ ls) all =
    ap lines_in (append_assoc l (10 ∷ []) (text_of ls)) ∙ lines-more l (text_of ls) all.0 ∙ ap (λ (more : List (List ℕ)). l ∷ more) (lines-back ls all.1)

pub text-length : (ls : List (List ℕ)) → length (text_of ls) ≡ bytes_in ls
text-length [] = refl
text-length (l ∷ ls) = omega (arith, length-append (l ++ codes "\n") (text_of ls), length-append l (codes "\n"), text-length ls)

onto-whole : (b : ℕ) (ls : List (List ℕ)) → (b == 10) ≡ false → AllByRecursion NoEnd ls → AllByRecursion NoEnd (onto_first b ls)
onto-whole b [] other all = (rw other refl, tt)
onto-whole b (l ∷ ls) other all = (both (not (b == 10)) (list_all (λ b. not (b == 10)) l) (ap not other) all.0, all.1)

pub lines-whole : (text : List ℕ) → AllByRecursion NoEnd (lines_in text)
lines-whole [] = tt
lines-whole (b ∷ bs) = by_test (b == 10) refl (lines-whole bs)
  where
    by_test : (t : Bool) → (b == 10) ≡ t → AllByRecursion NoEnd (lines_in bs) → AllByRecursion NoEnd (lines_in (b ∷ bs))
    by_test true e more = rw e (refl, more)
    by_test false e more = rw e (onto-whole b (lines_in bs) e more)

-- ---- words

onto-solid : (b : ℕ) (ws : List (List ℕ)) → is_solid b ≡ true → AllByRecursion Solid ws → AllByRecursion Solid (onto_first b ws)
onto-solid b [] is all = (both (is_solid b) true is refl, tt)
onto-solid b (w ∷ ws) is all = (both (is_solid b) (list_all is_solid w) is all.0, all.1)

pub words-solid : (l : List ℕ) → NoEnd l → AllByRecursion Solid (words_in l)
words-solid [] whole = (refl, tt)
words-solid (b ∷ bs) whole = by_test (b == 32) refl (words-solid bs parts.1)
  where
    parts : (not (b == 10) ≡ true) × (NoEnd bs)
    parts = and_parts (not (b == 10)) (list_all (λ b. not (b == 10)) bs) whole

    by_test : (t : Bool) → (b == 32) ≡ t → AllByRecursion Solid (words_in bs) → AllByRecursion Solid (words_in (b ∷ bs))
    by_test true e more = rw e (refl, more)
    by_test false e more = rw e (onto-solid b (words_in bs) (both (not (b == 32)) (not (b == 10)) (ap not e) parts.0) more)

pub one_word : (w : List ℕ) → Solid w → words_in w ≡ w ∷ []
one_word [] solid = refl
one_word (b ∷ bs) solid =
    let parts = and_parts (is_solid b) (list_all is_solid bs) solid in
    let here = and_parts (not (b == 32)) (not (b == 10)) parts.0 in
    let other : (b == 32) ≡ false = not-true (b == 32) here.0 in
    rw other (ap (onto_first b) (one_word bs parts.1))

abbrev pub joined : List ℕ → List (List ℕ) → List ℕ
joined w [] = w
joined w (v ∷ vs) = w ++ 32 ∷ joined v vs

pub words-joined : (w : List ℕ) (ws : List (List ℕ)) → Solid w → AllByRecursion Solid ws → words_in (joined w ws) ≡ w ∷ ws
words-joined w [] solid all = one_word w solid
words-joined w (v ∷ vs) solid all = words-parts w (joined v vs) ∙ (λ i. one_word w solid i ++ words-joined v vs all.0 all.1 i)

solid-whole : (w : List ℕ) → Solid w → NoEnd w
solid-whole w solid = all-weaker is_solid (λ b. not (b == 10)) (λ b is. (and_parts (not (b == 32)) (not (b == 10)) is).1) w solid

pub joined-whole : (w : List ℕ) (ws : List (List ℕ)) → Solid w → AllByRecursion Solid ws → NoEnd (joined w ws)
joined-whole w [] solid all = solid-whole w solid
joined-whole w (v ∷ vs) solid all = all-append (λ b. not (b == 10)) w (32 ∷ joined v vs) (solid-whole w solid) (joined-whole v vs all.0 all.1)

pub joined-length : (w : List ℕ) (ws : List (List ℕ)) → length (joined w ws) + 1 ≡ bytes_in (w ∷ ws)
joined-length w [] = omega arith
joined-length w (v ∷ vs) = omega (arith, length-append w (32 ∷ joined v vs), joined-length v vs)

pub column-words : (k : ℕ) (ws : List (List ℕ)) → bytes_in (take k ws) ≤ column_of k ws
column-words zero [] = omega arith
column-words zero (w ∷ ws) = omega arith
column-words (suc k) [] = omega arith
column-words (suc k) (w ∷ ws) = omega (arith, column-words k ws)

-- ---- a script of lines

pub script_of : (ls : List (List ℕ)) (u : ScriptValue) → Reach nothing ls u → AllByRecursion NoEnd ls → bytes_in ls ≤ script_limit → length ls ≤ line_limit → 1 ≤ length u.clients → script_read (text_of ls) ≡ Script u
script_of ls u reach whole short few one =
    ap (script_from (length (text_of ls)) nothing 1 0) (lines-back ls whole) ∙ read_all ls (length (text_of ls)) 1 0 nothing u reach (omega (arith, text-length ls, short)) (omega (arith, few)) one
