use Rattle.std.proofs.Common.{◌≡◌, ℕ, ◌+◌, ◌-◌, ◌≤◌, length, Contains}
use Rattle.drafts.specs.Fates.{seen_in}
use Rattle.gfs2_layout.specs.Holding.{Holding}
use Rattle.dinode_tree.specs.Shown.{IsShown}
use Rattle.growth_drafts.specs.Taken.{HasBytes}
use Rattle.growth_drafts.specs.Touched.{Follows}
use Rattle.file_fills.specs.Filling.{IsRoomFor, IsSeenWay}
use Rattle.file_fills.specs.Progress.{HasPieces}
use Rattle.file_fills.proofs.filling.write_pieces.Given as goal

abbrev pub invariant-loop-written : goal.invariant-loop-written
invariant-loop-written g l = record {
  view : l.draft.view ≡ l.fn.draft.view;
  within : l.written ≤ length l.bytes;
  left : (b : ℕ) → Contains l.room.items b → Contains l.fn.room.items b;
  touched : Follows (g.V.View.seen l.fn.draft.view) l.inode l.fn.room.items l.fn.draft.fates l.draft.fates;
  so_far : (h : Holding) → IsShown (seen_in g.V.View.seen l.fn.draft) l.inode h → IsRoomFor h l.at (l.at + length l.bytes) l.fn.room.items
      → ((i : ℕ) → HasBytes h.size l.at (l.at + length l.bytes) i → IsSeenWay (seen_in g.V.View.seen l.fn.draft) h i)
      → HasPieces (seen_in g.V.View.seen l.draft) l.fn.draft.fates l.draft.fates l.fn.room.items l.room.items h l.at (l.at + length l.bytes) l.written l.bytes;
}

abbrev pub decreases-loop-written : goal.decreases-loop-written
decreases-loop-written g l = length l.bytes - l.written
