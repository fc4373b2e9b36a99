use Rattle.std.specs.Prelude.{◌≡◌}
use Rattle.gfs2_layout.specs.Inode.{depth_in}
use Rattle.hash_dirs.specs.Finding.{AreLeafHeads}
use Rattle.hash_dirs.specs.Walking.{IsAlong, IsNameless, OfEach}
use Rattle.hash_dirs.proofs.finding.find_along.Given as goal

abbrev pub invariant-loop-place : goal.invariant-loop-place
invariant-loop-place g l = record {
  along : IsAlong (g.V.View.seen l.view) l.dir l.head l._place l.link;
  later : IsNameless (g.V.View.seen l.view) l.dir l.head l.name l._place;
  heads : OfEach (g.V.View.seen l.view) l.dir l.head (λ h i. l.depth ≡ depth_in h → AreLeafHeads h i l._place);
}
