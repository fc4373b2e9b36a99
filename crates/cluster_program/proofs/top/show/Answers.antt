use Rattle.std.proofs.Common.{subst}
use Rattle.run_reports.specs.Report.{IsSinkFault}
use Rattle.cluster_program.proofs.Shows.{no_sink_fault}
use Rattle.cluster_program.proofs.top.show.Goals as goal

pub returns-in-Err-clause-own : goal.returns-in-Err-clause-own
returns-in-Err-clause-own g c never =
    no_sink_fault _ _ _ _ c.in-Err.own c.in-Err.ensures.shows (subst IsSinkFault c.without_script.ensures.own never)
