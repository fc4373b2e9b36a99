-- Steps of the reading of a line.
use Rattle.std.proofs.Common.{◌≡◌, ℕ, suc, ◌+◌, ◌-◌, ◌≤◌, ◌==◌, Bool, true, false, ◌&&◌, List, [], ◌∷◌, ◌++◌, length, take, get_or, refl, sym, ap, ◌∙◌, arith}
use Rattle.std.specs.Prelude.{codes}
use Rattle.std.specs.Str.{bytes_eq}
use Rattle.std.proofs.lemmas.Bool.{and_parts, eqb-true}
use Rattle.std.proofs.lemmas.List.{same_from_push, take_more, take_all}
use Rattle.std.proofs.lemmas.Slice.Eq.{bytes_eq-Decides}
use Rattle.file_tree.specs.declared.call.Call.{Call}
use Rattle.script_lang.specs.declared.script.Line.TheVariants as line
use Rattle.script_lang.specs.declared.line_words.LineFault.{LineFault}
use Rattle.script_lang.specs.declared.line_words.LineFault.TheVariants as fault
use Rattle.script_lang.specs.Script.{ScriptValue}
use Rattle.script_lang.specs.Words.{LineRead, Got, Wrong, later}
use Rattle.script_lang.specs.Grammar.{called, with_line}
use Rattle.script_lang.specs.Reading.{IsFault}

-- ---- a client's name and a colon

same_test : (r s : Bool) → (r ≡ true → s ≡ true) → (s ≡ true → r ≡ true) → r ≡ s
same_test true true to from = refl
same_test false false to from = refl
same_test true false to from = sym (to refl)
same_test false true to from = from refl

both_true : (a b : Bool) → a ≡ true → b ≡ true → (a && b) ≡ true
both_true true b one two = two
both_true false b one two = one

pub front_and_last : (w : List ℕ) → 1 ≤ length w → w ≡ take (length w - 1) w ++ get_or w (length w - 1) 0 ∷ []
front_and_last w some =
    let whole : take (length w - 1 + 1) w ≡ w = take_all (length w - 1 + 1) w (omega arith) in
    sym whole ∙ take_more w (length w - 1) 0 (omega arith)

pub before_colon : (w name : List ℕ) → 1 ≤ length w → ((get_or w (length w - 1) 0 == 58) && bytes_eq (take (length w - 1) w) name) ≡ bytes_eq w (name ++ codes ":")
before_colon w name some = same_test _ _ to from
  where
    to : ((get_or w (length w - 1) 0 == 58) && bytes_eq (take (length w - 1) w) name) ≡ true → bytes_eq w (name ++ codes ":") ≡ true
    to both =
        let parts = and_parts _ _ both in
        let is_colon : get_or w (length w - 1) 0 ≡ 58 = eqb-true _ _ parts.0 in
        let is_name : take (length w - 1) w ≡ name = (bytes_eq-Decides _ _).0 parts.1 in
        (bytes_eq-Decides w (name ++ codes ":")).1 (front_and_last w some ∙ (λ i. is_name i ++ is_colon i ∷ []))

    from : bytes_eq w (name ++ codes ":") ≡ true → ((get_or w (length w - 1) 0 == 58) && bytes_eq (take (length w - 1) w) name) ≡ true
    from whole =
        let parts = same_from_push name (take (length w - 1) w) 58 (get_or w (length w - 1) 0) (sym ((bytes_eq-Decides w (name ++ codes ":")).0 whole) ∙ front_and_last w some) in
        both_true _ _ (ap (λ (n : ℕ). n == 58) (sym parts.1) ∙ refl) ((bytes_eq-Decides _ _).1 (sym parts.0))

pub empty_before_colon : (w name : List ℕ) → length w ≡ 0 → false ≡ bytes_eq w (name ++ codes ":")
empty_before_colon [] [] none = refl
empty_before_colon [] (n ∷ ns) none = refl
empty_before_colon (b ∷ bs) name none = absurd (omega arith)

-- ---- a client's call

pub called-got : (s : ScriptValue) (client : ℕ) (read : LineRead Call) (call : Call) → later read ≡ Got call → later (called s client read) ≡ Got (with_line s (line.Call client call))
called-got s client (Got c) call is = let same : c ≡ call = cc in ap (λ (c' : Call). Got (with_line s (line.Call client c'))) same
called-got s client (Wrong k) call is = cc

pub called-fault : (s : ScriptValue) (client : ℕ) (read : LineRead Call) (f : LineFault) → IsFault (later read) f → IsFault (later (called s client read)) f
called-fault s client (Got c) (fault.Wrong k) is = cc
called-fault s client (Wrong j) (fault.Wrong k) is = let same : suc j ≡ k = cc in ap (λ (n : ℕ). let r : LineRead ScriptValue = Wrong n in r) same
called-fault s client read fault.NoMemory is = tt
