use Rattle.std.proofs.Common.{◌≡◌, drop, length}
use Rattle.script_lang.specs.Script.{calls_by}
use Rattle.run_reports.proofs.down.lines_behind.Given as goal

abbrev pub invariant-loop-rest : goal.invariant-loop-rest
invariant-loop-rest l = drop l.left (calls_by l.client l.rest) ≡ drop l.answered (calls_by l.client l.lines)

abbrev pub decreases-loop-rest : goal.decreases-loop-rest
decreases-loop-rest l = length l.rest
