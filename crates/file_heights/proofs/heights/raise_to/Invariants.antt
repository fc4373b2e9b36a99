use Rattle.std.proofs.Common.{◌≡◌, ℕ, ◌+◌, ◌-◌, ◌≤◌, length, true, Contains}
use Rattle.drafts.specs.Fates.{seen_in}
use Rattle.gfs2_layout.specs.Holding.{Holding}
use Rattle.gfs2_layout.specs.Inode.{dinode_in}
use Rattle.glock_names.specs.Views.{HasBlock}
use Rattle.dinode_tree.specs.Shown.{IsShown}
use Rattle.growth_laws.specs.Files.{IsFile}
use Rattle.growth_laws.specs.Need.{has_content}
use Rattle.growth_drafts.specs.Taken.{AreFreeFor}
use Rattle.growth_drafts.specs.Touched.{Follows}
use Rattle.file_heights.specs.Grown.{HasRisen}
use Rattle.file_heights.proofs.heights.raise_to.Given as goal

abbrev pub invariant-loop-high : goal.invariant-loop-high
invariant-loop-high g l = record {
  view : l.draft.view ≡ l.fn.draft.view;
  still : HasBlock (seen_in g.V.View.seen l.draft) l.inode;
  same : l.high ≡ record l.dinode { height = l.high.height };
  least : l.dinode.height ≤ l.high.height;
  most : l.high.height ≤ l.height;
  levels : l.high.height + length l.room.items ≡ l.dinode.height + length l.fn.room.items;
  left : (b : ℕ) → Contains l.room.items b → Contains l.fn.room.items b;
  within : Follows (g.V.View.seen l.fn.draft.view) l.inode l.fn.room.items l.fn.draft.fates l.draft.fates;
  come : (h : Holding) → IsFile h → IsShown (seen_in g.V.View.seen l.fn.draft) l.inode h → l.dinode ≡ dinode_in h → has_content h ≡ true → AreFreeFor h l.fn.room.items
      → HasRisen (seen_in g.V.View.seen l.draft) l.fn.draft.fates l.draft.fates l.fn.room.items l.room.items h l.high.height l.high;
}

abbrev pub decreases-loop-high : goal.decreases-loop-high
decreases-loop-high g l = l.height - l.high.height
