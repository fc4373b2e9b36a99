use Rattle.std.proofs.Common.{ℕ, ◌≡◌, ◌+◌, ◌^◌, ◌≤◌, length, take}
use Rattle.drafts.specs.Fates.{seen_in}
use Rattle.gfs2_layout.specs.Holding.{Holding}
use Rattle.glock_names.specs.Views.{HasBlock}
use Rattle.pointer_tables.specs.Directories.{IsPlaced, IsTreeSound}
use Rattle.table_files.specs.TreePointers.{IsTableOf}
use Rattle.table_changes.specs.Setting.{AreRuns, PutsRuns, counted}
use Rattle.table_changes.proofs.RunSet.{IsSetKept}
use Rattle.table_changes.proofs.setting.set_runs.Given as goal

abbrev pub invariant-loop-run : goal.invariant-loop-run
invariant-loop-run g l = record {
  within : l.run-index ≤ length l.runs;
  view : l.draft.view ≡ l.fn.draft.view;
  still : (b : ℕ) → HasBlock (seen_in g.V.View.seen l.fn.draft) b → HasBlock (seen_in g.V.View.seen l.draft) b;
  so_far : (h : Holding) (from : ℕ) → IsTableOf l.table (seen_in g.V.View.seen l.fn.draft) h → IsTreeSound h → IsPlaced h → AreRuns h from l.runs → from + counted l.runs ≤ 2 ^ l.table.depth
      → IsSetKept g.V.View.seen l.fn.draft l.draft l.table h from (counted (take l.run-index l.runs)) l.leaf;
  parts : PutsRuns l.fn.draft.fates l.draft.fates l.runs;
}
