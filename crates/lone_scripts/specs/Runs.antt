-- What the items of a run of one node are, as its script sees them.
use Rattle.std.specs.Prelude.{ℕ, zero, suc, ◌≡◌, ◌⊎◌, ◌+◌, ◌<◌, ⊤, IsTrue, Bool, true, false, List, [], ◌∷◌, ◌++◌, length, map, take, slice_get, count_by, Some}
use Rattle.std.specs.List.{AllByRecursion, filter}
use Rattle.file_tree.specs.declared.call.Call.{Call}
use Rattle.file_tree.specs.declared.reply.Reply.{Reply}
use Rattle.run_rules.specs.Follows.{is_write_of}
use Rattle.script_lang.specs.Script.{ScriptValue}
use Rattle.script_lang.specs.declared.script.Armed.{Armed}
use Rattle.script_lang.specs.declared.script.Client.{Client}
use Rattle.script_lang.specs.declared.script.Line.{Line}
use Rattle.script_lang.specs.declared.script.Line.TheVariants as line
use Rattle.trace_text.specs.declared.item.TraceItem.{TraceItem}
use Rattle.trace_text.specs.declared.item.TraceItem.TheVariants as trace

-- ---- answered calls

-- a call of the client at this place of the script, and its reply
pub record Answered : Type 0 where
  pub client : ℕ
  pub call : Call
  pub reply : Reply

-- its line
abbrev pub line_of : Answered → Line
line_of a = line.Call a.client a.call

-- the name of the client at this place
abbrev pub name_at : List Client → ℕ → List ℕ
name_at [] place = []
name_at (c ∷ cs) zero = c.name
name_at (c ∷ cs) (suc place) = name_at cs place

-- node 1's items of these, which are numbered from n on
abbrev pub calls_from : List Client → ℕ → List Answered → List TraceItem
calls_from clients n [] = []
calls_from clients n (a ∷ later) = trace.Call 1 (name_at clients a.client) n a.call a.reply ∷ calls_from clients (n + 1) later

abbrev pub is_call : TraceItem → Bool
is_call (trace.Call node name number call reply) = true
is_call _ = false

abbrev pub is_call_line : Line → Bool
is_call_line (line.Call client call) = true
is_call_line _ = false

-- a call or a wait
abbrev pub GoesOn : Line → Type 0
GoesOn (line.Call client call) = ⊤
GoesOn line.Wait = ⊤
GoesOn _ = ⊥

-- ---- lines that were taken

-- The first so many lines were taken, calls and waits: the items' calls are theirs, in their order, numbered from 1.
pub record TakesLines (s : ScriptValue) (count : ℕ) (items : List TraceItem) : Type 0 where
  pub answered : List Answered
  pub lines : map line_of answered ≡ filter is_call_line (take count s.lines)
  pub told : filter is_call items ≡ calls_from s.clients 1 answered
  pub on : AllByRecursion GoesOn (take count s.lines)

-- ---- the node

-- no node joins, or stops, and no call is lost
abbrev pub IsOfMember : TraceItem → Type 0
IsOfMember (trace.Join node) = ⊥
IsOfMember (trace.Crash node) = ⊥
IsOfMember (trace.Withdraw node before after) = ⊥
IsOfMember (trace.Lost node kept) = ⊥
IsOfMember _ = ⊤

-- node 1 joins first, and stays a member
pub record IsMember (items : List TraceItem) : Type 0 where
  pub more : List TraceItem
  pub are : items ≡ trace.Join 1 ∷ more
  pub stays : AllByRecursion IsOfMember more

-- the last of the items is one of its writes
abbrev pub EndsWithWrite : List TraceItem → Type 0
EndsWithWrite items = (before : List TraceItem) × (it : TraceItem) × (items ≡ before ++ it ∷ []) × IsTrue (is_write_of 1 it)

-- the write at which it is to crash is still to come; or it is the last item
abbrev pub IsNotPast : List TraceItem → Armed → Type 0
IsNotPast items a = (count_by (is_write_of 1) items < a.write) ⊎ ((count_by (is_write_of 1) items ≡ a.write) × EndsWithWrite items)

-- It took so many lines, has not stopped, and is past no write at which it is to crash.
pub record Runs (s : ScriptValue) (count : ℕ) (items : List TraceItem) : Type 0 where
  pub member : IsMember items
  pub takes : TakesLines s count items
  pub armed : AllByRecursion (IsNotPast items) s.armed

-- ---- its crash

-- at the next line; or directly behind the write for which a crash waits
pub data Crashes (s : ScriptValue) (count : ℕ) (items : List TraceItem) : Type 0 where
  at_line : (nodes : ℕ) → slice_get s.lines count ≡ Some (line.Crash nodes) → Crashes s count items
  at_write : (k : ℕ) (a : Armed) → slice_get s.armed k ≡ Some a → count_by (is_write_of 1) items ≡ a.write → EndsWithWrite items → Crashes s count items

-- what may come behind it: the fence, and then the loss
pub data IsBehindCrash : List TraceItem → Type 0 where
  nothing : IsBehindCrash []
  fenced : IsBehindCrash (trace.Fence 1 ∷ [])
  lost : (kept : ℕ) → IsBehindCrash (trace.Fence 1 ∷ trace.Lost 1 kept ∷ [])

pub record HasCrashed (s : ScriptValue) (count : ℕ) (items : List TraceItem) : Type 0 where
  pub before : List TraceItem
  pub runs : Runs s count before
  pub crashes : Crashes s count before
  pub behind : List TraceItem
  pub is_behind : IsBehindCrash behind
  pub are : items ≡ before ++ trace.Crash 1 ∷ behind

-- ---- a run

-- There are no items yet; or the node runs, having taken so many lines; or it has crashed.
pub data IsLoneRun (s : ScriptValue) : ℕ → List TraceItem → Type 0 where
  not_begun : IsLoneRun s 0 []
  running : (count : ℕ) (items : List TraceItem) → Runs s count items → IsLoneRun s count items
  crashed : (count : ℕ) (items : List TraceItem) → HasCrashed s count items → IsLoneRun s count items

-- all lines were taken; or the node has crashed
pub data IsWholeLoneRun (s : ScriptValue) (items : List TraceItem) : Type 0 where
  taken : Runs s (length s.lines) items → IsWholeLoneRun s items
  stopped : (count : ℕ) → HasCrashed s count items → IsWholeLoneRun s items
