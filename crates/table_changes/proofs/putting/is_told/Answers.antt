use Rattle.std.proofs.Common.{◌≢◌, arith}
use Rattle.nested_drafts.proofs.Lists.{each_all, each_next}
use Rattle.table_changes.proofs.putting.is_told.Goals as goal

pub loop-pointed-preserved : goal.loop-pointed-preserved
loop-pointed-preserved c = each_next c.args.below.now c.loop-pointed.pointed-index _ (λ p. p.block ≢ c.args.block) c.loop-pointed-test.true c.loop-pointed.invariant c.if-pointed-block.false

pub returns : goal.returns
returns c = (
  λ never. absurd (cc),
  λ tells. absurd (each_all c.args.below.now c.loop-pointed.pointed-index (λ p. p.block ≢ c.args.block) (omega (arith, c.loop-pointed-test.false)) c.loop-pointed.invariant tells.0 tells.1 tells.2),
)
