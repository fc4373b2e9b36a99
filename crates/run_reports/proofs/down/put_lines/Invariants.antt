use Rattle.std.proofs.Common.{◌≡◌, ◌≤◌, ℕ, List, ◌++◌, length}
use Rattle.std.specs.List.{flat_map}
use Rattle.script_lang.specs.Script.{calls_by}
use Rattle.run_reports.specs.Out.{down_line}
use Rattle.run_reports.specs.Streams.{Passes}
use Rattle.run_reports.proofs.down.put_lines.Given as goal

abbrev pub invariant-loop-rest : goal.invariant-loop-rest
invariant-loop-rest g l = record {
  passed : (done : List ℕ) × (flat_map (down_line l.name) (calls_by l.client l.lines) ≡ done ++ flat_map (down_line l.name) (calls_by l.client l.rest))
      × Passes (g.T.Sink.contents l.initial.sink) (g.T.Sink.contents l.sink) l.initial.held.items l.held.items done;
  later : g.T.Sink.faults l.initial.sink ≤ g.T.Sink.faults l.sink;
}

abbrev pub decreases-loop-rest : goal.decreases-loop-rest
decreases-loop-rest g l = length l.rest
