use Rattle.std.proofs.Common.{◌-◌, ◌∙◌, sym, arith}
use Rattle.dinode_tree.proofs.Dinodes.{lacks}
use Rattle.file_fills.proofs.Over.{raised_more, raised_stays}
use Rattle.file_fills.proofs.numbers.height_for.Goals as goal

pub loop-high-preserved : goal.loop-high-preserved
loop-high-preserved c = record {
  least = omega arith;
  most = λ low. omega (arith, c.loop-high-test.true);
  same = c.loop-high.invariant.same
      ∙ raised_more c.args.size c.loop-high.high c.args.bytes c.loop-high-test.true (lacks c.has_room.result c.has_room.ensures c.if-not-has_room.true);
}

pub returns-else-not-has_room-clause-value : goal.returns-else-not-has_room-clause-value
returns-else-not-has_room-clause-value c =
    sym (c.loop-high.invariant.same ∙ raised_stays c.args.size c.loop-high.high c.args.bytes (10 - c.loop-high.high) (c.has_room.ensures.0 c.if-not-has_room.false))
