-- What the items of a run of one node owe to its script.
use Rattle.std.specs.Prelude.{ℕ, suc, ◌≡◌, ◌⊎◌, List, [], ◌∷◌, ◌++◌, length, slice_get, Some}
use Rattle.std.specs.List.{AllByRecursion, filter}
use Rattle.cluster_history.specs.History.{IsNumbered, KeepsSynced, calls_of}
use Rattle.file_tree.specs.declared.call.Call.{Call}
use Rattle.file_tree.specs.declared.reply.Reply.{Reply}
use Rattle.run_rules.specs.Follows.{Follows, Stopped, call_items, history_of, standing}
use Rattle.run_rules.specs.History.{AllPlaced}
use Rattle.script_lang.specs.Script.{ScriptValue, calls_by}
use Rattle.script_lang.specs.declared.script.Client.{Client}
use Rattle.script_lang.specs.declared.script.Line.TheVariants as line
use Rattle.trace_text.specs.declared.item.TraceItem.{TraceItem}
use Rattle.trace_text.specs.declared.item.TraceItem.TheVariants as trace
use Rattle.lone_scripts.specs.Runs.{IsLoneRun, IsNotPast, IsOfMember, IsWholeLoneRun, Runs, is_call, name_at}
use Rattle.lone_scripts.specs.Scripts.{IsForOne}

-- ---- what a run is

-- its items follow the script, and its calls are numbered
abbrev pub LoneRunsFollow : Type 0
LoneRunsFollow = (s : ScriptValue) (count : ℕ) (items : List TraceItem) → IsForOne s → IsLoneRun s count items → Follows items s

abbrev pub LoneRunsAreNumbered : Type 0
LoneRunsAreNumbered = (s : ScriptValue) (count : ℕ) (items : List TraceItem) → IsForOne s → IsLoneRun s count items → IsNumbered (history_of s.clients items)

-- while the node runs no call is lost, so none that was synced
abbrev pub RunningNodesKeepAll : Type 0
RunningNodesKeepAll = (s : ScriptValue) (count : ℕ) (items : List TraceItem) → IsForOne s → Runs s count items → KeepsSynced (history_of s.clients items)

-- ---- a whole run

-- each line of each client is answered, or its node has stopped
abbrev pub AllAnsweredOrDown : List TraceItem → ScriptValue → Type 0
AllAnsweredOrDown items s = (client : ℕ) (c : Client) → slice_get s.clients client ≡ Some c
    → (call_items s.clients client items ≡ calls_by client s.lines) ⊎ (standing items c.node (length items) ≡ Stopped)

abbrev pub WholeLoneRunsAnswer : Type 0
WholeLoneRunsAnswer = (s : ScriptValue) (items : List TraceItem) → IsForOne s → IsWholeLoneRun s items → AllAnsweredOrDown items s × AllPlaced items s

-- ---- how it goes on

-- a run begins with the join
abbrev pub LoneRunsBegin : Type 0
LoneRunsBegin = (s : ScriptValue) → AllByRecursion (IsNotPast (trace.Join 1 ∷ [])) s.armed → Runs s 0 (trace.Join 1 ∷ [])

-- what isn't a call leaves it at its line
abbrev pub OtherItemsGoOn : Type 0
OtherItemsGoOn = (s : ScriptValue) (count : ℕ) (items more : List TraceItem) → Runs s count items → AllByRecursion IsOfMember more → filter is_call more ≡ []
    → AllByRecursion (IsNotPast (items ++ more)) s.armed → Runs s count (items ++ more)

-- the next line is taken: a wait, or a call that is answered with the next number
abbrev pub WaitsGoOn : Type 0
WaitsGoOn = (s : ScriptValue) (count : ℕ) (items : List TraceItem) → Runs s count items → slice_get s.lines count ≡ Some line.Wait → Runs s (suc count) items

abbrev pub CallsGoOn : Type 0
CallsGoOn = (s : ScriptValue) (count client : ℕ) (items more : List TraceItem) (call : Call) (reply : Reply) → IsForOne s → Runs s count items → slice_get s.lines count ≡ Some (line.Call client call)
    → AllByRecursion IsOfMember more → filter is_call more ≡ [] → let item = trace.Call 1 (name_at s.clients client) (suc (calls_of 1 (history_of s.clients items))) call reply in
    AllByRecursion (IsNotPast (items ++ more ++ item ∷ [])) s.armed → Runs s (suc count) (items ++ more ++ item ∷ [])
