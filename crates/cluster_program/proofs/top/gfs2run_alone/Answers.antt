use Rattle.std.proofs.Common.{List, sym, subst, map}
use Rattle.std.specs.Prelude.{string_bytes}
use Rattle.trace_text.specs.declared.item.TraceItem.{TraceItem}
use Rattle.run_reports.specs.OneNode.{IsOfOneNode}
use Rattle.run_reports.specs.Report.{Reports}
use Rattle.run_reports.specs.Outputs.{Outputs}
use Rattle.cluster_program.proofs.Ends.{fault_has_cause}
use Rattle.cluster_program.proofs.Complete.{complete}
use Rattle.cluster_program.proofs.top.gfs2run_alone.Given.{Over}
use Rattle.cluster_program.proofs.top.gfs2run_alone.Goals as goal

pub report-status-requires-clause-one : goal.report-status-requires-clause-one
report-status-requires-clause-one g c = subst (IsOfOneNode c.carry_out-listing.result.script) (sym c.deref.ensures.value) c.carry_out-listing.ensures.one

module _ (g : Over) (c : goal.After-drop-items g) where
  abbrev sinks : Outputs
  sinks = record { trace = g.T.Sink.contents c.args.trace.now; trace_faults = g.T.Sink.faults c.args.trace.now; output = g.O.Sink.contents c.args.out.now; output_faults = g.O.Sink.faults c.args.out.now }

  abbrev sinks_now : Outputs
  sinks_now = record { trace = g.T.Sink.contents c.report-status.new.trace; trace_faults = g.T.Sink.faults c.report-status.new.trace; output = g.O.Sink.contents c.report-status.new.out; output_faults = g.O.Sink.faults c.report-status.new.out }

  reports : Reports sinks sinks_now c.carry_out-listing.result.listing c.carry_out-listing.result.script c.carry_out-listing.new.items.items c.carry_out-listing.result.lines.items c.carry_out-listing.result.dirty c.carry_out-listing.result.own c.report-status.result
  reports = subst (λ (items : List TraceItem). Reports sinks sinks_now c.carry_out-listing.result.listing c.carry_out-listing.result.script items c.carry_out-listing.result.lines.items c.carry_out-listing.result.dirty c.carry_out-listing.result.own c.report-status.result) c.deref.ensures.value c.report-status.ensures.reports

pub returns-clause-ends : goal.returns-clause-ends
returns-clause-ends g c = record {
  listing = c.carry_out-listing.result.listing;
  script = c.carry_out-listing.result.script;
  items = c.carry_out-listing.new.items.items;
  lines = c.carry_out-listing.result.lines.items;
  own = c.carry_out-listing.result.own;
  course = c.carry_out-listing.ensures.course;
  dirty = c.carry_out-listing.result.dirty;
  report = reports g c;
  counted = c.carry_out-listing.ensures.counted;
}

pub returns-clause-fault : goal.returns-clause-fault
returns-clause-fault g c =
    fault_has_cause _ _ (sinks g c) (sinks_now g c) (map string_bytes c.args.words.now) c.carry_out-listing.result.listing c.carry_out-listing.result.script c.carry_out-listing.new.items.items c.carry_out-listing.result.lines.items c.carry_out-listing.result.dirty c.carry_out-listing.result.own c.report-status.result
    c.carry_out-listing.ensures.course (reports g c)

pub returns-clause-complete : goal.returns-clause-complete
returns-clause-complete g c =
    complete _ _ (sinks g c) (sinks_now g c) (map string_bytes c.args.words.now) c.carry_out-listing.result.listing c.carry_out-listing.result.script c.carry_out-listing.new.items.items c.carry_out-listing.result.lines.items c.carry_out-listing.result.dirty c.carry_out-listing.result.own c.report-status.result
    c.carry_out-listing.ensures.course (reports g c)
