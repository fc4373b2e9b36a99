use Rattle.std.proofs.Common.{refl, subst}
use Rattle.run_reports.specs.Streams.{FaultRose}
use Rattle.run_reports.specs.Report.{Fails}
use Rattle.run_reports.proofs.Faults.{went_up}
use Rattle.run_reports.proofs.reports.report_trace.Goals as goal

pub returns-clause-becomes : goal.returns-clause-becomes
returns-clause-becomes g c not_told =
    Fails c.faults-before.result c.faults.result not_told refl
    (went_up _ _ _ _ c.faults-before.ensures c.faults.ensures c.in-Err-Failed.ensures.cause.later
    (subst (FaultRose (g.T.Sink.faults c.args.trace.now) (g.T.Sink.faults c.put_trace.new.sink)) c.in-Err-Failed.field-0-is c.in-Err-Failed.ensures.cause.failed))
