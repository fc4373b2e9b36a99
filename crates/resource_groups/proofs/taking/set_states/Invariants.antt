use Rattle.std.proofs.Common.{take}
use Rattle.resource_groups.specs.Taking.{AreSet, KeepsBlocks}
use Rattle.resource_groups.proofs.taking.set_states.Given as goal

abbrev pub invariant-loop-block : goal.invariant-loop-block
invariant-loop-block g l = record {
  set : AreSet g.V.View.seen l.initial.draft l.draft (take l.block-index l.blocks) l.state;
  rest : KeepsBlocks g.V.View.seen l.initial.draft l.draft (take l.block-index l.blocks);
}
