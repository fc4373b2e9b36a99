-- Why there is no script to run.
use Rattle.std.proofs.Common.{◌≡◌, ◌⊎◌, inl, inr, ℕ, ◌<◌, List, [], length, ◌∙◌}
use Rattle.std.specs.Prelude.{Option}
use Rattle.std.specs.Io.KnownBytes.{Consumes, IsAtEnd}
use Rattle.script_lang.specs.Script.{ScriptValue}
use Rattle.script_lang.specs.Grammar.{script_limit, script_read, Script}
use Rattle.script_lang.specs.Reading.{IsRefusal}
use Rattle.script_lang.specs.Laws.{LimitDecides}
use Rattle.script_lang.specs.declared.parser.ScriptRefusal.{ScriptRefusal}
use Rattle.script_lang.specs.declared.parser.ScriptRefusal.TheVariants as refusal
use Rattle.cluster_program.specs.Input.{InputHasCause}
use Rattle.cluster_program.specs.Course.{HasRead, LacksScript, SourceFailed, Refused, RefusedEarly, NoRoom}
use Rattle.cluster_program.specs.EndStatuses.{status_of_input, status_of_refusal}
use Rattle.cluster_program.specs.declared.input.InputFault.{InputFault}
use Rattle.cluster_program.specs.declared.input.InputFault.TheVariants as input

pub unread : (left left_now : Option (List ℕ)) (faults faults_now : ℕ) (f : InputFault) → InputHasCause faults faults_now f → LacksScript left left_now faults faults_now (status_of_input f)
unread left left_now faults faults_now (input.Fault rise) cause = SourceFailed rise.before rise.after cause
unread left left_now faults faults_now input.NoMemory cause = NoRoom

-- the text, as far as it was read, is refused
pub refused : (left left_now : Option (List ℕ)) (faults faults_now : ℕ) (text : List ℕ) (r : ScriptRefusal) → LimitDecides → Consumes left left_now text
    → IsAtEnd left_now ⊎ (script_limit < length text) → IsRefusal (script_read text) r → LacksScript left left_now faults faults_now (status_of_refusal r)
refused left left_now faults faults_now text refusal.NoMemory law consumed end is = NoRoom
refused left left_now faults faults_now text (refusal.Bad line column) law consumed (inl whole) is = Refused text line column (record { consumed = consumed; whole = whole }) is
refused left left_now faults faults_now text (refusal.Bad line column) law consumed (inr long) is =
    RefusedEarly text line column consumed (λ rest. (law text rest long).0 ∙ is)

-- a script was read to its end
pub read_whole : (left left_now : Option (List ℕ)) (text : List ℕ) (s : ScriptValue) → LimitDecides → Consumes left left_now text
    → IsAtEnd left_now ⊎ (script_limit < length text) → script_read text ≡ Script s → HasRead left left_now text
read_whole left left_now text s law consumed (inl whole) is = record { consumed = consumed; whole = whole }
read_whole left left_now text s law consumed (inr long) is = absurd ((law text [] long).1 s is)
