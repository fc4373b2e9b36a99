use Rattle.std.proofs.Common.{arith}
use Rattle.image_reader.proofs.WalkFaults.{empty_start, empty_more}
use Rattle.std.proofs.lemmas.Grind.{common_steps}
use Rattle.image_reader.proofs.owners.Owners.new.Goals as goal

pub loop-block-init : goal.loop-block-init
loop-block-init c = record {
  len = grind (arith, common_steps);
  empty = empty_start c.in_ok-entries.entries.items c.in_ok-entries.ensures.items;
  free = grind (arith, common_steps);
}

pub loop-block-preserved : goal.loop-block-preserved
loop-block-preserved c = record {
  len = grind (arith, common_steps);
  empty = empty_more c.loop-block.entries.items c.push.new.self.items c.in_ok-push.ensures.items c.loop-block.invariant.empty;
  free = grind (arith, common_steps);
}
