use Rattle.std.proofs.Common.{◌+◌, ◌++◌, ◌∙◌, Bool, ap, drop, filter, map, refl}
use Rattle.std.specs.Prelude.{not, if◌then◌else◌}
use Rattle.log_layout.specs.Chunks.{Logged}
use Rattle.journal_scan.specs.Said.{logged}
use Rattle.node_journal.proofs.Selected.{passes, takes, unwanted, wanted}
use Rattle.node_journal.proofs.kinds.select.Goals as goal
use Rattle.node_journal.proofs.kinds.select.Goals.{then-written-plain+in_ok-push, else-written-plain}

pub loop-written-preserved : goal.loop-written-preserved
loop-written-preserved c =
    let test : Logged → Bool = λ (e : Logged). if c.args.plain then e.plain else not e.plain in
    elim c.if-written-plain.branch [
      | then-written-plain+in_ok-push w ↦ takes logged (λ r. logged r.now) test c.args.blocks.now c.loop-written.written-index c.written-item.result c.loop-written-test.true c.written-item.is
          c.loop-written.chosen.items c.if-written-plain.chosen.items _ _ (wanted c.args.plain c.written-item.result.plain w.if-written-plain.true) refl (ap (λ v. v.items) w.chosen-is ∙ w.in_ok-push.ensures.items) c.loop-written.invariant
      | else-written-plain w ↦ ap (λ v. map (λ r. logged r.now) v.items ++ filter test (map logged (drop (c.loop-written.written-index + 1) c.args.blocks.now))) w.chosen-is
          ∙ passes logged (λ r. logged r.now) test c.args.blocks.now c.loop-written.written-index c.written-item.result c.loop-written-test.true c.written-item.is
          c.loop-written.chosen.items _ (unwanted c.args.plain c.written-item.result.plain w.if-written-plain.false) c.loop-written.invariant
    ]
