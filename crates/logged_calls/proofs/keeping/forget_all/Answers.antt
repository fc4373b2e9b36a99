use Rattle.std.proofs.Common.{get_or, sym, ap, ◌∙◌}
use Rattle.std.specs.FinMap.{remove}
use Rattle.lone_view.specs.Seeing.{Lone}
use Rattle.logged_calls.proofs.KeptBlocks.{without_next}
use Rattle.logged_calls.proofs.keeping.forget_all.Goals as goal

pub loop-block-preserved : goal.loop-block-preserved
loop-block-preserved c = record {
  left = c.forget.ensures
      ∙ ap (λ (v : Lone). record v { blocks = remove v.blocks (get_or c.args.blocks.now c.loop-block.block-index 0) }) c.loop-block.invariant.left
      ∙ ap (λ m. record c.args.view.now { blocks = m }) (sym (without_next c.args.view.now.blocks c.args.blocks.now c.loop-block.block-index 0 c.loop-block-test.true));
}
