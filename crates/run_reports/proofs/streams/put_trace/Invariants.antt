use Rattle.std.proofs.Common.{◌≡◌, ◌≤◌, ℕ, List, [], ◌++◌, length}
use Rattle.trace_text.specs.Text.{print}
use Rattle.run_reports.specs.Streams.{Passes}
use Rattle.run_reports.proofs.streams.put_trace.Given as goal

abbrev pub invariant-loop-rest : goal.invariant-loop-rest
invariant-loop-rest g l = record {
  passed : (done : List ℕ) × (print l.items ≡ done ++ print l.rest) × Passes (g.T.Sink.contents l.initial.sink) (g.T.Sink.contents l.sink) [] l.held.items done;
  later : g.T.Sink.faults l.initial.sink ≤ g.T.Sink.faults l.sink;
}

abbrev pub decreases-loop-rest : goal.decreases-loop-rest
decreases-loop-rest g l = length l.rest
