-- Laws of histories and scripts.
use Rattle.std.specs.Prelude.{ℕ, ◌≡◌, ◌⊎◌, ◌+◌, ◌<◌, ◌≤◌, [], ◌∷◌, codes, List, Some, slice_get}
use Rattle.file_tree.specs.Tree.{Tree}
use Rattle.cluster_history.specs.History.{Legal}
use Rattle.file_tree.specs.declared.call.Call.TheVariants as call
use Rattle.file_tree.specs.declared.reply.Reply.TheVariants as reply
use Rattle.script_lang.specs.Script.{ScriptValue}
use Rattle.script_lang.specs.declared.script.Line.TheVariants as line
use Rattle.trace_text.specs.declared.item.TraceItem.{TraceItem}
use Rattle.trace_text.specs.declared.item.TraceItem.TheVariants as trace
use Rattle.run_rules.specs.Follows.{Follows}
use Rattle.run_rules.specs.History.{AllPlaced, HoldsHistory}

-- without an item there is a history of every script
abbrev pub NothingFollows : Type 0
NothingFollows = (s : ScriptValue) → HoldsHistory s []

-- and it is legal from every tree on
abbrev pub NothingIsLegal : Type 0
NothingIsLegal = (start : Tree) → Legal [] start

-- ---- a crash line is carried out: a worked row

-- the script `nodes 1`, `client c on 1`, `crash 1`, `c: list /`
abbrev pub crash_and_list : ScriptValue
crash_and_list = record {
  nodes = 1;
  clients = record { name = codes "c"; node = 1 } ∷ [];
  armed = [];
  lines = line.Crash 2 ∷ line.Call 0 (call.List []) ∷ [];
}

-- a run of it that passes over the crash
abbrev pub list_alone : List TraceItem
list_alone = trace.Join 1 ∷ trace.Call 1 (codes "c") 1 (call.List []) (reply.Names []) ∷ trace.Unmount 1 ∷ []

-- these items don't follow that script
abbrev pub CrashLinesAreCarriedOut : Type 0
CrashLinesAreCarriedOut = ¬ (Follows list_alone crash_and_list)

-- ---- what joins there are

-- The joins before all nodes of the script have joined are those of the start: node p + 1 joins as item p. Each other one is that of a line.
abbrev pub JoinsAreOrdered : Type 0
JoinsAreOrdered = (s : ScriptValue) (items : List TraceItem) → Follows items s → (p node : ℕ) → slice_get items p ≡ Some (trace.Join node)
    → ((p < s.nodes) × (node ≡ p + 1)) ⊎ ((s.nodes ≤ p) × (l : ℕ) × (slice_get s.lines l ≡ Some (line.Join node)))

-- no node crashes before all of them have joined
abbrev pub NoneCrashesAtTheStart : Type 0
NoneCrashesAtTheStart = (s : ScriptValue) (items : List TraceItem) → Follows items s → (p node : ℕ) → slice_get items p ≡ Some (trace.Crash node) → s.nodes ≤ p

-- ---- when all is done, a last crash line is carried out, too: a worked row

-- the script `nodes 1`, `client c on 1`, `c: list /`, `crash 1`
abbrev pub list_and_crash : ScriptValue
list_and_crash = record crash_and_list { lines = line.Call 0 (call.List []) ∷ line.Crash 2 ∷ [] }

-- in the run that passes over the crash not each of its lines has its place
abbrev pub LastLinesAreCarriedOut : Type 0
LastLinesAreCarriedOut = ¬ (AllPlaced list_alone list_and_crash)

-- ---- a crash and a join that are carried out: a worked row

-- the script `nodes 2`, `client c on 1`, `c: list /`, `crash 1`, `join 1`, `c: list /`
abbrev pub crash_and_join : ScriptValue
crash_and_join = record crash_and_list { nodes = 2; lines = line.Call 0 (call.List []) ∷ line.Crash 2 ∷ line.Join 1 ∷ line.Call 0 (call.List []) ∷ [] }

abbrev pub carried_out : List TraceItem
carried_out =
    trace.Join 1 ∷ trace.Join 2 ∷ trace.Call 1 (codes "c") 1 (call.List []) (reply.Names []) ∷ trace.Crash 1 ∷ trace.Fence 1 ∷ trace.Join 1 ∷ trace.Call 1 (codes "c") 2 (call.List []) (reply.Names []) ∷ []

-- these items follow that script, and each of its lines has its place
abbrev pub CarriedOutFollows : Type 0
CarriedOutFollows = Follows carried_out crash_and_join × AllPlaced carried_out crash_and_join
