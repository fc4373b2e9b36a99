-- A failing disk is told only where a count of faults rose, and where none does it is never told.
use Rattle.std.proofs.Common.{◌≤◌, ℕ, Ok, Err, arith}
use Rattle.std.specs.Prelude.{IfErr, List, Result}
use Rattle.fault_counts.specs.Causes.{WentUp}
use Rattle.disk_trees.specs.Answers as disk
use Rattle.disk_trees.specs.declared.faults.TreeFault.{TreeFault}
use Rattle.disk_trees.specs.declared.faults.TreeFault.TheVariants as tree
use Rattle.replay_looks.specs.Looks as looks
use Rattle.replay_looks.specs.declared.faults.LookFault.{LookFault}
use Rattle.replay_looks.specs.declared.faults.LookFault.TheVariants.{Damaged, DiskFailed, NoMemory}
use Rattle.replayed_trees.specs.Answers.{HasCause, IsSureLook, IsSureTree}

pub cause_of : {A : Type 0} (blocks : List ℕ) (before now : ℕ) (r : Result A LookFault) → IfErr r (looks.HasCause blocks before now) → IfErr r (HasCause before now)
cause_of blocks before now (Ok a) cause = tt
cause_of blocks before now (Err (Damaged block rule)) cause = tt
cause_of blocks before now (Err (DiskFailed block rise)) cause = cause.0
cause_of blocks before now (Err NoMemory) cause = tt

-- it rose within a longer time too
pub cause_since : (first before now : ℕ) (f : LookFault) → first ≤ before → HasCause before now f → HasCause first now f
cause_since first before now (Damaged block rule) earlier cause = tt
cause_since first before now (DiskFailed block rise) earlier cause = record { from = let low : before ≤ rise.before = cause.from in omega (arith, earlier, low); rose = cause.rose; to = cause.to }
cause_since first before now NoMemory earlier cause = tt

stays : (x y : ℕ) → WentUp 0 0 x y → ⊥
stays x y up = let rose = up.rose in let to : y ≤ 0 = up.to in omega (arith, rose, to)

pub sure_look : (f : LookFault) → HasCause 0 0 f → IsSureLook f
sure_look (Damaged block rule) cause = tt
sure_look (DiskFailed block rise) cause = stays rise.before rise.after cause
sure_look NoMemory cause = tt

pub sure_tree : (count : ℕ) (f : TreeFault) → disk.HasCause count (λ node. 0) (λ node. 0) f → IsSureTree f
sure_tree count (tree.Damaged block rule) cause = tt
sure_tree count (tree.DiskFailed block rise) cause = stays rise.before rise.after cause.0
sure_tree count tree.NoMemory cause = tt
