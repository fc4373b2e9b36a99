-- Blocks that are put into a draft after they were put in one over it.
use Rattle.std.specs.Prelude.{false, List, [], ◌∷◌, Option, None, Some}
use Rattle.std.specs.FinMap.{FinMap, insert}
use Rattle.std.specs.Ordering.{nat_cmp}
use Rattle.drafts.specs.declared.change.Written.{Written}
use Rattle.drafts.specs.declared.fate.Fate.{Fate}
use Rattle.drafts.specs.declared.fate.Fate.TheVariants.{Put, Freed}
use Rattle.glock_names.specs.declared.LockName.{LockName}

-- what becomes of blocks where these are put as well, under a lock, none of them plain
abbrev pub with_blocks : LockName → List Written → FinMap nat_cmp Fate → FinMap nat_cmp Fate
with_blocks lock [] fates = fates
with_blocks lock (w ∷ ws) fates = with_blocks lock ws (insert fates w.block (Put lock false w.bytes))

-- what becomes of a block: it is put, where it was put above, and else what became of it below
abbrev pub fate_over : LockName → Option Fate → Option Fate → Option Fate
fate_over lock (Some (Put l plain bytes)) below = Some (Put lock false bytes)
fate_over lock (Some Freed) below = below
fate_over lock None below = below
