-- A script line by line.
use Rattle.std.proofs.Common.{◌≡◌, ℕ, ◌+◌, ◌-◌, ◌<◌, List, ◌∷◌, length, sym, ap, ◌∙◌, arith}
use Rattle.script_lang.specs.Script.{ScriptValue}
use Rattle.script_lang.specs.Words.{lines_in}
use Rattle.script_lang.specs.Grammar.{script_from, script_read, nothing}

module _ (text : List ℕ) where
  -- what is left of the text is read into the script so far
  pub record ReadSoFar (s : ScriptValue) (n : ℕ) (rest : List ℕ) : Type 0 where
    pub before : ℕ
    pub place : 0 < length rest → before + length rest ≡ length text
    pub same : script_read text ≡ script_from (length text) s n before (lines_in rest)

  pub read-none : (s : ScriptValue) → s ≡ nothing → ReadSoFar s 1 text
  read-none s is = record {
    before = 0;
    place = λ some. omega arith;
    same = ap (λ (s' : ScriptValue). script_from (length text) s' 1 0 (lines_in text)) (sym is);
  }

  module _ (s : ScriptValue) (n : ℕ) (rest line after : List ℕ) (so : ReadSoFar s n rest) (split : lines_in rest ≡ line ∷ lines_in after) (some : length after < length rest) where
    abbrev at : ℕ
    at = length text - length rest

    pub here : script_read text ≡ script_from (length text) s n at (line ∷ lines_in after)
    here =
        let place : so.before ≡ at = omega (arith, so.place (omega (arith, some))) in
        so.same ∙ (λ i. script_from (length text) s n (place i) (split i))

    pub read-more : (s' : ScriptValue) → (0 < length after → length line + 1 + length after ≡ length rest)
        → ((ls : List (List ℕ)) → script_from (length text) s n at (line ∷ ls) ≡ script_from (length text) s' (n + 1) (at + length line + 1) ls) → ReadSoFar s' (n + 1) after
    read-more s' whole step = record {
      before = at + length line + 1;
      place = λ more. omega (arith, whole more, so.place (omega (arith, some)));
      same = here ∙ step (lines_in after);
    }
