use Rattle.std.proofs.Common.{◌≡◌, ℕ, length, Contains}
use Rattle.drafts.specs.Fates.{seen_in}
use Rattle.gfs2_layout.specs.Holding.{Holding}
use Rattle.gfs2_layout.specs.Inode.{content_of}
use Rattle.dinode_tree.specs.Shown.{IsShown}
use Rattle.growth_drafts.specs.Taken.{HasBytes}
use Rattle.growth_drafts.specs.Touched.{Follows}
use Rattle.file_fills.specs.Filling.{IsRoomFor, IsSeenWay}
use Rattle.file_fills.specs.Progress.{HasGone}
use Rattle.file_fills.proofs.filling.make_way.Given as goal

abbrev pub invariant-loop-stop : goal.invariant-loop-stop
invariant-loop-stop g l = record {
  view : l.draft.view ≡ l.fn.draft.view;
  left : (b : ℕ) → Contains l.room.items b → Contains l.fn.room.items b;
  within : Follows (g.V.View.seen l.fn.draft.view) l.inode l.fn.room.items l.fn.draft.fates l.draft.fates;
  come : (h : Holding) (at end : ℕ) → IsShown (seen_in g.V.View.seen l.fn.draft) l.inode h → IsRoomFor h at end l.fn.room.items → HasBytes h.size at end l.index → IsSeenWay (seen_in g.V.View.seen l.fn.draft) h l.index
      → HasGone (seen_in g.V.View.seen l.draft) l.fn.draft.fates l.draft.fates l.fn.room.items l.room.items h at end l.index (content_of h);
}

abbrev pub decreases-loop-stop : goal.decreases-loop-stop
decreases-loop-stop g l = length l.room.items
