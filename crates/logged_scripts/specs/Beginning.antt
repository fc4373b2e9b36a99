-- How the run of a script begins, and how it is under way.
use Rattle.std.specs.Prelude.{ℕ, ◌≡◌, ◌+◌, ◌*◌, ◌≤◌, false, List, ◌∷◌, Option}
use Rattle.std.specs.List.{AllByRecursion}
use Rattle.cluster_history.specs.History.{calls_of}
use Rattle.log_values.specs.Laws.{empty_log}
use Rattle.lone_scripts.specs.Runs.{Runs}
use Rattle.run_rules.specs.Follows.{history_of}
use Rattle.script_lang.specs.Script.{ScriptValue}
use Rattle.shared_disk.specs.Disk.{DiskState, Operation}
use Rattle.trace_text.specs.declared.item.TraceItem.{TraceItem}
use Rattle.trace_text.specs.declared.item.TraceItem.TheVariants as trace
use Rattle.whole_runs.specs.LoggedRunsStarts.{IsOfReplay}
use Rattle.whole_runs.specs.Points.{Point}
use Rattle.whole_runs.specs.Steps.{Steps}
use Rattle.logged_calls.specs.Beginning.{no_calls}
use Rattle.logged_calls.specs.Nodes.{IsResting, crash_at, point_of}
use Rattle.logged_calls.specs.node.Node.{Node}
use Rattle.logged_calls.specs.Calls.{IsReady, most_headers}
use Rattle.logged_scripts.specs.Crashes.{first_crash}

-- Node 1 has joined, and may have replayed journals; it rests, with an empty log, has answered no call, and is to crash first where the script says so.
pub record HasBegun (s : ScriptValue) (d : DiskState) (n : Node) : Type 0 where
  pub resting : IsResting d n
  pub mounted : n.unmounts ≡ false
  pub log : n.log ≡ empty_log n.log.journal n.log.head n.log.sequence
  pub numbers : n.numbers ≡ no_calls
  pub replays : List TraceItem
  pub items : n.items.items ≡ trace.Join 1 ∷ replays
  pub of_replay : AllByRecursion IsOfReplay replays
  pub crash : crash_at n ≡ first_crash s.armed

-- From where it began it came by steps to a point at which it has taken so many lines, and may take the next: the numbers of its calls are right, so many headers came into its journal at most, and it is to
-- crash where it was.
pub record IsUnderWay (s : ScriptValue) (time : ℕ) (a : Point) (count : ℕ) (d : DiskState) (list : Option (List Operation)) (n : Node) : Type 0 where
  pub steps : Steps time a (point_of d list n)
  pub ready : IsReady d n
  pub runs : Runs s count n.items.items
  pub numbered : n.numbers.answered ≡ calls_of 1 (history_of s.clients n.items.items)
  pub few : n.numbers.answered ≤ count
  pub sequence : n.log.sequence ≤ a.log.sequence + most_headers * count
  pub crash : crash_at n ≡ first_crash s.armed
