use Rattle.glock_names.specs.Views.{HasBlock}
use Rattle.nested_drafts.proofs.Lists.{each_next}
use Rattle.table_changes.proofs.reading.first_missing.Goals as goal

pub loop-pointed-preserved : goal.loop-pointed-preserved
loop-pointed-preserved g c = each_next c.args.blocks.now c.loop-pointed.pointed-index _ (λ p. HasBlock (g.V.View.seen c.args.view.now) p.block) c.loop-pointed-test.true c.loop-pointed.invariant (c.in-Some._bytes.now, c.in-Some.ensures.some)
