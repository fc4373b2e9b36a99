-- What the reading of a line answers.
use Rattle.std.specs.Prelude.{ℕ, ◌≡◌, ◌≤◌, List, length, Result, MatchResult, ⊤}
use Rattle.file_tree.specs.declared.call.Call.{Call}
use Rattle.file_tree.specs.declared.call.Call.TheVariants as calls
use Rattle.script_lang.specs.declared.calls.Verb.{Verb}
use Rattle.script_lang.specs.declared.calls.Verb.TheVariants as verbs
use Rattle.script_lang.specs.declared.line_words.LineFault.{LineFault}
use Rattle.script_lang.specs.declared.line_words.LineFault.TheVariants as fault
use Rattle.script_lang.specs.declared.parser.ScriptRefusal.{ScriptRefusal}
use Rattle.script_lang.specs.declared.parser.ScriptRefusal.TheVariants as refusal
use Rattle.script_lang.specs.Script.{ScriptValue}
use Rattle.script_lang.specs.Words.{LineRead, Got, Wrong, ends, column_of}
use Rattle.script_lang.specs.Grammar.{ScriptRead, Bad, client_limit, on_path, on_range, on_content, on_size, on_paths}

-- the word of this number is wrong, and this is why; or memory ran out
abbrev pub IsWrongAt : ℕ → Type 0 → LineFault → Type 0
IsWrongAt number P (fault.Wrong word) = (word ≡ number) × P
IsWrongAt number P fault.NoMemory = ⊤

-- the first wrong word of what is read, or memory ran out
abbrev pub IsFault : {A : Type 0} → LineRead A → LineFault → Type 0
IsFault read (fault.Wrong word) = read ≡ Wrong word
IsFault read fault.NoMemory = ⊤

-- the value that is read, or its fault
abbrev pub ReadsAs : {A : Type 0} → LineRead A → Result A LineFault → Type 0
ReadsAs read r = MatchResult r (λ a. read ≡ Got a) (IsFault read)

-- the script with its next line, or the line's fault
abbrev pub ReadsInto : LineRead ScriptValue → ScriptValue → Result ⊤ LineFault → Type 0
ReadsInto read s r = MatchResult r (λ _. read ≡ Got s) (IsFault read)

-- the refusal of a line for its fault
abbrev pub IsRefusalOf : ℕ → List (List ℕ) → LineFault → ScriptRefusal → Type 0
IsRefusalOf number ws (fault.Wrong word) r = r ≡ refusal.Bad number (column_of word ws)
IsRefusalOf number ws fault.NoMemory r = r ≡ refusal.NoMemory

-- the text is refused at this line and column, or memory ran out
abbrev pub IsRefusal : ScriptRead → ScriptRefusal → Type 0
IsRefusal read (refusal.Bad line column) = read ≡ Bad line column
IsRefusal read refusal.NoMemory = ⊤

-- the script so far has no more nodes and clients than a script may have
pub record IsWithinLimits (s : ScriptValue) : Type 0 where
  pub nodes : s.nodes ≤ 8
  pub clients : length s.clients ≤ client_limit

-- the arguments of a call by its verb
abbrev pub arguments_read : Verb → List (List ℕ) → LineRead Call
arguments_read verbs.Create ws = on_path calls.Create ws
arguments_read verbs.Mkdir ws = on_path calls.Mkdir ws
arguments_read verbs.Unlink ws = on_path calls.Unlink ws
arguments_read verbs.Rmdir ws = on_path calls.Rmdir ws
arguments_read verbs.Read ws = on_range calls.Read ws
arguments_read verbs.Dread ws = on_range calls.Dread ws
arguments_read verbs.Write ws = on_content ws
arguments_read verbs.Truncate ws = on_size ws
arguments_read verbs.Stat ws = on_path calls.Stat ws
arguments_read verbs.List ws = on_path calls.List ws
arguments_read verbs.Rename ws = on_paths ws
arguments_read verbs.Sync ws = ends calls.Sync ws
