use Rattle.std.proofs.Common.{◌∙◌, sym}
use Rattle.run_reports.proofs.DownLines.{one_less, positive}
use Rattle.run_reports.proofs.down.lines_behind.Goals as goal

pub loop-rest-preserved-then-is_line_of : goal.loop-rest-preserved-then-is_line_of
loop-rest-preserved-then-is_line_of c =
    one_less c.args.client c.loop-rest.left c.loop-rest.rest.now c.line-item.result _ c.in-len1-up.len_at_least c.line-item.is (sym c.is_line_of.ensures ∙ c.if-is_line_of.true) (positive c.loop-rest.left c.if-left-eq0.false) c.loop-rest.invariant
