use Rattle.std.proofs.Common.{◌≡◌, ◌≤◌, ℕ, List, ◌++◌, length}
use Rattle.run_reports.specs.Out.{answered_lines}
use Rattle.run_reports.specs.Streams.{Passes}
use Rattle.run_reports.proofs.output.put_answered_lines.Given as goal

abbrev pub invariant-loop-rest : goal.invariant-loop-rest
invariant-loop-rest g l = record {
  passed : (done : List ℕ) × (answered_lines l.clients l.client l.items ≡ done ++ answered_lines l.clients l.client l.rest)
      × Passes (g.T.Sink.contents l.initial.sink) (g.T.Sink.contents l.sink) l.initial.held.items l.held.items done;
  later : g.T.Sink.faults l.initial.sink ≤ g.T.Sink.faults l.sink;
}

abbrev pub decreases-loop-rest : goal.decreases-loop-rest
decreases-loop-rest g l = length l.rest
