use Rattle.std.proofs.Common.{◌≡◌, ◌≤◌, ◌+◌, ℕ, List, ◌++◌, length}
use Rattle.run_reports.specs.Out.{replayed_lines, replayed_lines_behind}
use Rattle.run_reports.specs.Streams.{Passes}
use Rattle.run_reports.proofs.output.put_replayed_lines.Given as goal

abbrev pub invariant-loop-rest : goal.invariant-loop-rest
invariant-loop-rest g l = record {
  passed : (done : List ℕ) × (replayed_lines l.items ≡ done ++ replayed_lines_behind l.written l.rest)
      × Passes (g.T.Sink.contents l.initial.sink) (g.T.Sink.contents l.sink) l.initial.held.items l.held.items done;
  few : l.written + length l.rest ≤ length l.items;
  later : g.T.Sink.faults l.initial.sink ≤ g.T.Sink.faults l.sink;
}

abbrev pub decreases-loop-rest : goal.decreases-loop-rest
decreases-loop-rest g l = length l.rest
