use Rattle.std.proofs.Common.{ℕ, List, [], subst}
use Rattle.run_reports.specs.Streams.{Passes}
use Rattle.run_reports.proofs.Passing.{front_sent}
use Rattle.run_reports.proofs.streams.put_held.Goals as goal

pub returns-in-Err-clause-bytes : goal.returns-in-Err-clause-bytes
returns-in-Err-clause-bytes g c =
    subst (λ (held : List ℕ). (rest : List ℕ) × Passes (g.T.Sink.contents c.args.sink.now) (g.T.Sink.contents c.put_all.new.sink) held rest []) c.as_slice.ensures.value
    (front_sent _ _ c.as_slice.result.now c.in-Err.ensures.bytes)
