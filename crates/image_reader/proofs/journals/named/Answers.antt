use Rattle.std.proofs.Common.{refl, sym, ◌∙◌}
use Rattle.std.proofs.lemmas.Bool.{both_ways}
use Rattle.std.proofs.lemmas.Slice.Eq.{bytes_eq-Decides}
use Rattle.image_reader.proofs.Listed.{get_at}
use Rattle.image_reader.proofs.SystemFaults.{none_more}
use Rattle.image_reader.proofs.journals.named.Goals as goal
use Rattle.image_reader.proofs.journals.named.Goals.{else-entry-parent-via-then-entry-parent+else-eq, else-entry-parent-via-else-entry-parent}

pub returns-then-eq-clause-some : goal.returns-then-eq-clause-some
returns-then-eq-clause-some c = record {
  index = c.loop-entry.entry-index;
  entry = c.entry-item.result;
  there = get_at c.args.found.now c.loop-entry.entry-index c.entry-item.result c.loop-entry-test.true c.entry-item.is;
  above = c.if-entry-parent.true;
  named = sym c.bytes.ensures.bytes ∙ (bytes_eq-Decides c.bytes.result.now c.args.name.now).0 (sym c.eq.ensures ∙ c.if-eq.true);
  is = refl;
}

pub loop-entry-preserved : goal.loop-entry-preserved
loop-entry-preserved c =
    none_more c.args.found.now c.loop-entry.entry-index c.args.parent c.args.name.now c.entry-item.result c.loop-entry-test.true c.entry-item.is c.loop-entry.invariant (λ above named. elim c.else-entry-parent.branch [
      | else-entry-parent-via-then-entry-parent+else-eq w ↦
          both_ways _ (sym w.eq.ensures ∙ w.if-eq.false) ((bytes_eq-Decides w.bytes.result.now c.args.name.now).1 (w.bytes.ensures.bytes ∙ named))
      | else-entry-parent-via-else-entry-parent w ↦ w.if-entry-parent.false above
    ])
