use Rattle.std.proofs.Common.{◌≡◌, ◌-◌, ◌≤◌}
use Rattle.std.specs.Prelude.{Contains}
use Rattle.gfs2_layout.specs.Holding.{Holding}
use Rattle.table_files.specs.TreePointers.{IsTableOf}
use Rattle.table_changes.specs.Setting.{AreRuns, IsSeenRun, counted}
use Rattle.table_changes.specs.declared.finding.Run.{Run}
use Rattle.table_changes.proofs.finding.find_runs.Given as goal

abbrev pub invariant-loop-done : goal.invariant-loop-done
invariant-loop-done g l = record {
  within : l.done ≤ l.count;
  all : counted l.runs.items ≡ l.done;
  found : (h : Holding) → IsTableOf l.table (g.V.View.seen l.view) h → AreRuns h l.from l.runs.items;
  seen : (run : Run) → Contains l.runs.items run → IsSeenRun (g.V.View.seen l.view) run;
}

-- proposed from the loop's first test
abbrev pub decreases-loop-done : goal.decreases-loop-done
decreases-loop-done g l = l.count - l.done
