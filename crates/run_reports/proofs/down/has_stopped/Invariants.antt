use Rattle.std.proofs.Common.{◌≡◌, false, drop}
use Rattle.run_reports.specs.Out.{is_stopped}
use Rattle.run_reports.proofs.down.has_stopped.Given as goal

abbrev pub invariant-loop-item : goal.invariant-loop-item
invariant-loop-item l = is_stopped l.node false l.items ≡ is_stopped l.node l.stopped (drop l.item-index l.items)
