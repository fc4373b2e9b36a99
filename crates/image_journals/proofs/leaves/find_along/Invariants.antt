use Rattle.std.specs.Prelude.{ℕ, ◌≡◌, ◌<◌, true}
use Rattle.gfs2_layout.specs.Holding.{Holding}
use Rattle.gfs2_layout.specs.Inode.{entry, is_hashed_in, table_count}
use Rattle.image_journals.specs.Blocks.{seen_of}
use Rattle.image_journals.specs.Sound.{IsDirectoryIn}
use Rattle.image_journals.proofs.Chains.{IsAt}
use Rattle.image_journals.proofs.leaves.find_along.Given as goal

abbrev pub invariant-loop-place : goal.invariant-loop-place
invariant-loop-place l = (h : Holding) (i : ℕ) → IsDirectoryIn (seen_of l.blocks) h → is_hashed_in h ≡ true → i < table_count h → l.first ≡ entry h i → IsAt h i l.name l._place l.leaf
