use Rattle.std.proofs.Common.{refl, arith}
use Rattle.nested_drafts.proofs.Lists.{put_one}
use Rattle.nested_drafts.proofs.putting.put_blocks.Goals as goal

pub loop-one-preserved : goal.loop-one-preserved
loop-one-preserved g c = record {
  within = omega (arith, c.loop-one-test.true);
  put = put_one c.args.draft.now c.loop-one.draft c.put.new.self c.args.lock c.args.lock c.args.blocks.now c.loop-one.one-index c.one-item.result c.bytes.result.now
      c.loop-one-test.true c.loop-one.invariant.put c.one-item.is c.bytes.ensures refl c.in_ok-put.ensures.ok;
}
