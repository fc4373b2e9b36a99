use Rattle.std.proofs.Common.{sym, true≢false, arith}
use Rattle.resource_groups.specs.Shown.{IsDataOf}
use Rattle.name_moves.proofs.Fronts.{each_next, each_all}
use Rattle.move_calls.proofs.firsts.has_some.Goals.{else-group-block-via-then-group-block+else-block-group, else-group-block-via-else-group-block}
use Rattle.move_calls.proofs.firsts.has_some.Goals as goal

pub loop-block-preserved : goal.loop-block-preserved
loop-block-preserved c = each_next c.args.blocks.now c.loop-block.block-index 0 (λ b. ¬ (IsDataOf c.args.group.now b)) c.loop-block-test.true c.loop-block.invariant
    (λ own. elim c.else-group-block.branch [
      | else-group-block-via-then-group-block+else-block-group w ↦ absurd (omega (arith, own.low, own.high, w.if-block-group.false, w.from.ensures))
      | else-group-block-via-else-group-block w ↦ absurd (omega (arith, own.low, w.if-group-block.false))
    ])

pub returns : goal.returns
returns c = ((λ never. absurd (true≢false (sym never))), (λ some. absurd (each_all c.args.blocks.now c.loop-block.block-index (λ b. ¬ (IsDataOf c.args.group.now b)) c.loop-block-test.false c.loop-block.invariant some.0 some.1 some.2)))
