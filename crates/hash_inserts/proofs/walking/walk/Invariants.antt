use Rattle.hash_steps.specs.Walking.{IsAlong, OfEach}
use Rattle.hash_inserts.specs.Walking.{IsRoomBefore, SeesChainBefore}
use Rattle.hash_inserts.proofs.walking.walk.Given as goal

abbrev pub invariant-loop-place : goal.invariant-loop-place
invariant-loop-place g l = record {
  along : IsAlong (g.V.View.seen l.view) l.dir l.head l.place l.link;
  room : OfEach (g.V.View.seen l.view) l.dir l.head (λ h i. IsRoomBefore h i l.len l.place l.with_room);
  there : OfEach (g.V.View.seen l.view) l.dir l.head (λ h i. SeesChainBefore (g.V.View.seen l.view) h i l.place);
}
