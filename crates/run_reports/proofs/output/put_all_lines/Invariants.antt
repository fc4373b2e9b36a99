use Rattle.std.proofs.Common.{◌≡◌, ◌≤◌, ◌+◌, ℕ, List, ◌++◌, length}
use Rattle.std.specs.List.{AllByRecursion}
use Rattle.script_lang.specs.declared.script.Client.{Client}
use Rattle.run_reports.specs.Out.{all_lines}
use Rattle.run_reports.specs.Streams.{Passes}
use Rattle.run_reports.proofs.output.put_all_lines.Given as goal

abbrev pub invariant-loop-rest : goal.invariant-loop-rest
invariant-loop-rest g l = record {
  passed : (done : List ℕ) × (all_lines l.script l.items l.told 0 l.script.clients ≡ done ++ all_lines l.script l.items l.told l.place l.rest)
      × Passes (g.T.Sink.contents l.initial.sink) (g.T.Sink.contents l.sink) l.initial.held.items l.held.items done;
  own : AllByRecursion (λ (c : Client). c.node ≡ 1) l.rest;
  count : l.place + length l.rest ≡ length l.script.clients;
  later : g.T.Sink.faults l.initial.sink ≤ g.T.Sink.faults l.sink;
}

abbrev pub decreases-loop-rest : goal.decreases-loop-rest
decreases-loop-rest g l = length l.rest
