use Rattle.std.specs.Prelude.{ℕ, ◌≡◌, ◌<◌, true}
use Rattle.gfs2_layout.specs.Holding.{Holding}
use Rattle.gfs2_layout.specs.Inode.{entry, is_hashed_in, table_count}
use Rattle.image_journals.specs.Blocks.{seen_of}
use Rattle.image_journals.specs.Sound.{IsDirectoryIn}
use Rattle.image_journals.proofs.Walked.{IsWalked}
use Rattle.image_journals.proofs.gathering.add_chain.Given as goal

abbrev pub invariant-loop-place : goal.invariant-loop-place
invariant-loop-place l = (h : Holding) (i : ℕ) → IsDirectoryIn (seen_of l.blocks) h → is_hashed_in h ≡ true → i < table_count h → l.first ≡ entry h i → IsWalked h i l.fn.leaves.items l._place l.leaf l.leaves.items
