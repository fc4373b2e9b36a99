use Rattle.std.proofs.Common.{arith}
use Rattle.shared_disk.proofs.PlaceLaws.{nowhere, below_after, not_below_from}
use Rattle.shared_disk.proofs.places.place_of.Goals as goal

pub loop-low-preserved-then-places-middle : goal.loop-low-preserved-then-places-middle
loop-low-preserved-then-places-middle c = record {
  order = omega arith;
  within = c.loop-low.invariant.within;
  below = below_after c.args.places.now _ c.args.block nowhere c.requires (omega arith) c.if-places-middle.true;
  above = c.loop-low.invariant.above;
}

pub loop-low-preserved : goal.loop-low-preserved
loop-low-preserved c = record {
  order = omega arith;
  within = omega arith;
  below = c.loop-low.invariant.below;
  above = not_below_from c.args.places.now _ c.args.block nowhere c.requires (omega arith) c.if-places-middle.false;
}
