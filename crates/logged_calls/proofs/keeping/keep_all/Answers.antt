use Rattle.std.proofs.Common.{◌<◌, length, sym, ap, ◌∙◌, arith}
use Rattle.std.specs.FinMap.{insert}
use Rattle.drafts.specs.declared.change.Written.{Written}
use Rattle.logged_calls.proofs.KeptBlocks.{with_next}
use Rattle.logged_calls.proofs.keeping.keep_all.Goals as goal

pub loop-written-preserved : goal.loop-written-preserved
loop-written-preserved c =
    let low : c.loop-written.written-index < length c.args.blocks.now = omega (arith, c.loop-written-test.true, c.loop-written.auto.written-index-end) in
    record {
      kept = c.in_ok-keep.ensures.ok
          ∙ (λ i. record (c.loop-written.invariant.kept i) { blocks = insert (c.loop-written.invariant.kept i).blocks (c.written-item.is i).block ((c.in_ok-copy.ensures ∙ ap (λ (w : Written). w.bytes) c.written-item.is) i) })
          ∙ ap (λ m. record c.args.view.now { blocks = m }) (sym (with_next c.args.view.now.blocks c.args.blocks.now c.loop-written.written-index _ low));
    }
