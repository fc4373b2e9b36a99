use Rattle.std.specs.Prelude.{◌≡◌, ◌∷◌}
use Rattle.gfs2_layout.specs.Inode.{depth_in}
use Rattle.hash_inserts.specs.ChainWalking.{IsAlong, OfEach}
use Rattle.name_inserts.specs.Way.{AreRightBefore}
use Rattle.name_inserts.proofs.way.leaf_among.Given as goal

abbrev pub invariant-loop-place : goal.invariant-loop-place
invariant-loop-place g l = record {
  along : IsAlong (g.V.View.seen l.view) l.dir l.head l._place l.link;
  right : OfEach (g.V.View.seen l.view) l.dir l.head (λ h i. l.depth ≡ depth_in h → AreRightBefore (g.V.View.seen l.view) h i (l.first ∷ l.rest) l._place);
}
