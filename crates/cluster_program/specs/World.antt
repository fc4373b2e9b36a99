-- What a command is given, as far as it tells, with the counts of its faults.
use Rattle.std.specs.Prelude.{ℕ, ◌≡◌, List, Option}
use Rattle.shared_disk.specs.Disk.{DiskState, Operation}

-- the disk, its list of operations, and what is left of the script
pub record Inputs : Type 0 where
  pub disk : DiskState
  pub disk_list : Option (List Operation)
  pub disk_faults : ℕ → ℕ
  pub left : Option (List ℕ)
  pub script_faults : ℕ

abbrev pub inputs : DiskState → Option (List Operation) → (ℕ → ℕ) → Option (List ℕ) → ℕ → Inputs
inputs state list faults text failed = record { disk = state; disk_list = list; disk_faults = faults; left = text; script_faults = failed }

-- ---- what stays as it was

-- nothing of the script was taken
pub record KeepsScript (before now : Inputs) : Type 0 where
  pub left : now.left ≡ before.left
  pub faults : now.script_faults ≡ before.script_faults

-- nothing was written to the disk
pub record KeepsDisk (before now : Inputs) : Type 0 where
  pub state_is : now.disk ≡ before.disk
  pub list_is : now.disk_list ≡ before.disk_list
