-- A draft over one file shows another one.
use Rattle.std.specs.Prelude.{ℕ, []}
use Rattle.std.specs.FinMap.{FinMap}
use Rattle.std.specs.Ordering.{nat_cmp}
use Rattle.drafts.specs.declared.fate.Fate.{Fate}
use Rattle.gfs2_layout.specs.Holding.{Holding}
use Rattle.glock_names.specs.Views.{Seen}
use Rattle.dinode_tree.specs.Shown.{IsShown}
use Rattle.growth_drafts.specs.Taken.{DraftsFile}

-- the draft shows the other file, and puts of it what it doesn't leave
pub record Becomes (after : Seen) (old new : FinMap nat_cmp Fate) (inode : ℕ) (h g : Holding) : Type 0 where
  pub shown : IsShown after inode g
  pub drafted : DraftsFile old new h g []
