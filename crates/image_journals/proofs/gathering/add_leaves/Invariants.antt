use Rattle.std.specs.Prelude.{◌≡◌, true}
use Rattle.gfs2_layout.specs.Holding.{Holding}
use Rattle.gfs2_layout.specs.Inode.{depth_in, is_hashed_in}
use Rattle.image_journals.specs.Adding.{AreAdded}
use Rattle.image_journals.specs.Blocks.{seen_of}
use Rattle.image_journals.specs.Sound.{IsDirectoryIn}
use Rattle.image_journals.proofs.Walked.{IsOnOne}
use Rattle.image_journals.proofs.gathering.add_leaves.Given as goal

abbrev pub invariant-loop-index : goal.invariant-loop-index
invariant-loop-index l = (h : Holding) → IsDirectoryIn (seen_of l.blocks) h → h.own ≡ l.dir → is_hashed_in h ≡ true → l.depth ≡ depth_in h → AreAdded l.fn.leaves.items l.leaves.items (IsOnOne h l.index)
