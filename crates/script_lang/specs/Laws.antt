-- Laws of the reading of scripts.
use Rattle.std.specs.Prelude.{ℕ, ◌≡◌, ◌<◌, List, ◌++◌, length}
use Rattle.script_lang.specs.Script.{ScriptValue}
use Rattle.script_lang.specs.Grammar.{script_limit, script_read, Script}

-- once more bytes were read than a script may have, what follows them changes nothing, and there is no script
abbrev pub LimitDecides : Type 0
LimitDecides = (text rest : List ℕ) → script_limit < length text
    → (script_read (text ++ rest) ≡ script_read text) × ((s : ScriptValue) → script_read text ≡ Script s → ⊥)
