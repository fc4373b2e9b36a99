use Rattle.std.proofs.Common.{refl, subst}
use Rattle.run_reports.specs.Streams.{FaultRose}
use Rattle.run_reports.specs.Report.{Fails}
use Rattle.run_reports.proofs.Faults.{never_both, went_up}
use Rattle.run_reports.proofs.reports.report_out.Goals as goal

pub returns-clause-becomes : goal.returns-clause-becomes
returns-clause-becomes g c =
    Fails c.faults-before.result c.faults.result (λ is. never_both c.is_sink_fault.result c.if-is_sink_fault.false (c.is_sink_fault.ensures.1 is)) refl
    (went_up _ _ _ _ c.faults-before.ensures c.faults.ensures c.in-Err-Failed.ensures.cause.later
    (subst (FaultRose (g.T.Sink.faults c.args.sink.now) (g.T.Sink.faults c.put_out.new.sink)) c.in-Err-Failed.field-0-is c.in-Err-Failed.ensures.cause.failed))
