use Rattle.std.proofs.Common.{◌≡◌, true, refl, sym, ◌∙◌}
use Rattle.std.proofs.lemmas.Bool.{both_ways, eqb-true}
use Rattle.std.proofs.lemmas.Slice.Eq.{bytes_eq-Decides}
use Rattle.image_reader.proofs.Listed.{get_at}
use Rattle.image_reader.proofs.SystemFaults.{no_directory_more}
use Rattle.image_reader.proofs.journals.named_directory.Goals as goal
use Rattle.image_reader.proofs.journals.named_directory.Goals.{then-entry-parent, else-entry-parent, else-here-via-then-here+else-is_directory, else-here-via-else-here}

pub returns-then-is_directory-clause-some : goal.returns-then-is_directory-clause-some
returns-then-is_directory-clause-some c = elim c.if-entry-parent.branch [
  | then-entry-parent w ↦ record {
    index = c.loop-entry.entry-index;
    entry = c.entry-item.result;
    there = get_at c.args.found.now c.loop-entry.entry-index c.entry-item.result c.loop-entry-test.true c.entry-item.is;
    above = w.if-entry-parent.true;
    named = sym w.bytes.ensures.bytes ∙ (bytes_eq-Decides w.bytes.result.now c.args.name.now).0 (sym w.eq-here.ensures ∙ sym w.here-is ∙ c.if-here.true);
    is = refl;
  }
  | else-entry-parent w ↦ absurd (w.if-entry-parent.false (eqb-true _ _ (sym w.here-is ∙ c.if-here.true)))
]

pub loop-entry-preserved : goal.loop-entry-preserved
loop-entry-preserved c =
    no_directory_more c.args.found.now c.loop-entry.entry-index c.args.parent c.args.name.now c.entry-item.result c.loop-entry-test.true c.entry-item.is c.loop-entry.invariant (λ above named dir.
    let here : c.if-entry-parent.here ≡ true = elim c.if-entry-parent.branch [
      | then-entry-parent w ↦ w.here-is ∙ w.eq-here.ensures ∙ (bytes_eq-Decides w.bytes.result.now c.args.name.now).1 (w.bytes.ensures.bytes ∙ named)
      | else-entry-parent w ↦ absurd (w.if-entry-parent.false above)
    ] in
    elim c.else-here.branch [
      | else-here-via-then-here+else-is_directory w ↦ both_ways _ (sym w.is_directory.ensures ∙ w.if-is_directory.false) dir
      | else-here-via-else-here w ↦ both_ways _ w.if-here.false here
    ])
