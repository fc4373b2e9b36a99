use Rattle.run_reports.proofs.reports.report.Goals as goal

pub returns-clause-reports : goal.returns-clause-reports
returns-clause-reports g c = record {
  told = c.report_trace-told.result;
  trace = c.report_trace-told.ensures.puts;
  told_is = c.report_trace-told.ensures.becomes c.requires.own;
  output = c.report_out.ensures.puts;
  answer_is = c.report_out.ensures.becomes;
}
