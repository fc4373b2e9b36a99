use Rattle.hash_dirs.specs.Leaves.{IsGathered}
use Rattle.hash_dirs.proofs.gathering.chain_of.Given as goal

abbrev pub invariant-loop-place : goal.invariant-loop-place
invariant-loop-place g l = IsGathered (g.V.View.seen l.view) l.dir l.head l.known l._place l.link l.chain.items
