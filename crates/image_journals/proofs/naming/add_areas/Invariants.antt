use Rattle.std.specs.Prelude.{ℕ, ◌≡◌, true, Contains}
use Rattle.gfs2_layout.specs.Holding.{Holding}
use Rattle.gfs2_layout.specs.Inode.{is_hashed_in}
use Rattle.image_journals.specs.Adding.{AreAdded, IsLeafOf}
use Rattle.image_journals.specs.Blocks.{seen_of}
use Rattle.image_journals.specs.Sound.{IsDirectoryIn}
use Rattle.image_journals.proofs.Adding.{IsAmongFirst}
use Rattle.image_journals.proofs.Named.{IsNamedInLeaf}
use Rattle.image_journals.proofs.naming.add_areas.Given as goal

abbrev pub invariant-loop-leaf : goal.invariant-loop-leaf
invariant-loop-leaf l = (h : Holding) → IsDirectoryIn (seen_of l.blocks) h → is_hashed_in h ≡ true → ((x : ℕ) → Contains l.leaves x → IsLeafOf h x) → AreAdded l.fn.found.items l.found.items (IsNamedInLeaf h (IsAmongFirst l.leaves l.leaf-index))
