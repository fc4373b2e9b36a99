-- What reading the tree of a disk answers.
use Rattle.std.specs.Prelude.{ℕ, ◌≡◌, ◌<◌, ⊤, Result, Ok, Err}
use Rattle.fault_counts.specs.Causes.{WentUp}
use Rattle.file_tree.specs.Tree.{Tree}
use Rattle.image_reader.specs.declared.image.ImageFault.{ImageFault}
use Rattle.image_reader.specs.declared.image.ImageFault.TheVariants as image
use Rattle.image_replays.specs.look_faults.LookFault.{LookFault}
use Rattle.image_replays.specs.look_faults.LookFault.TheVariants as look
use Rattle.disk_trees.specs.declared.faults.TreeFault.{TreeFault}
use Rattle.disk_trees.specs.declared.faults.TreeFault.TheVariants.{Damaged, DiskFailed, NoMemory}

-- exactly this tree, unless the disk failed or there was no memory
abbrev pub GivesTree : Tree → Result Tree TreeFault → Type 0
GivesTree t (Ok tree) = tree ≡ t
GivesTree t (Err (Damaged block rule)) = ⊥
GivesTree t (Err (DiskFailed block rise)) = ⊤
GivesTree t (Err NoMemory) = ⊤

-- a fact for a block that breaks a rule
abbrev pub IfDamaged : TreeFault → (ℕ → ℕ → Type 0) → Type 0
IfDamaged (Damaged block rule) P = P block rule
IfDamaged (DiskFailed block rise) P = ⊤
IfDamaged NoMemory P = ⊤

-- a failing disk is told only where the count of the run itself rose so, and a block only of the disk
abbrev pub HasCause : ℕ → (before now : ℕ → ℕ) → TreeFault → Type 0
HasCause count before now (DiskFailed block rise) = WentUp (before 0) (now 0) rise.before rise.after × (block < count)
HasCause count before now (Damaged block rule) = ⊤
HasCause count before now NoMemory = ⊤

-- the fault of an image in memory, as that of a disk
abbrev pub fault_of : ImageFault → TreeFault
fault_of (image.Damaged block rule) = Damaged block rule
fault_of image.NoMemory = NoMemory

-- the fault of a replay that is stopped
abbrev pub fault_of_look : LookFault → TreeFault
fault_of_look (look.Damaged block rule) = Damaged block rule
fault_of_look (look.DiskFailed block rise) = DiskFailed block rise
fault_of_look look.NoMemory = NoMemory

-- the disk fails alone, or there was no memory
abbrev pub IsNotDamaged : TreeFault → Type 0
IsNotDamaged fault = IfDamaged fault (λ block rule. ⊥)
