-- Why a journal was not replayed.
use Rattle.std.specs.Prelude.{ℕ, ◌<◌, ⊤, IfSome, Option, None, Some}
use Rattle.disk_turns.specs.declared.faults.TurnFault.{TurnFault}
use Rattle.fault_counts.specs.Causes.{WentUp}
use Rattle.fault_counts.specs.declared.Rise.{Rise}
use Rattle.journal_replays.specs.declared.faults.ReplayFault.{ReplayFault}
use Rattle.journal_replays.specs.declared.faults.ReplayFault.TheVariants.{Crashed, DiskFailed, NoMemory}

-- a failing disk is told only where the node's count rose so, and a block only of the disk, which has so many
abbrev pub HasCause : (node count : ℕ) (before now : ℕ → ℕ) → ReplayFault → Type 0
HasCause node count before now (DiskFailed block rise) = WentUp (before node) (now node) rise.before rise.after × IfSome block (λ b. b < count)
HasCause node count before now Crashed = ⊤
HasCause node count before now NoMemory = ⊤

-- a fact for a disk that failed, of the block, or that of a barrier
abbrev pub IfDiskFailed : ReplayFault → (Option ℕ → Type 0) → Type 0
IfDiskFailed (DiskFailed block rise) P = P block
IfDiskFailed Crashed P = ⊤
IfDiskFailed NoMemory P = ⊤

-- a fact for want of memory
abbrev pub IfNoMemory : ReplayFault → Type 0 → Type 0
IfNoMemory (DiskFailed block rise) P = ⊤
IfNoMemory Crashed P = ⊤
IfNoMemory NoMemory P = P

-- a fact for a node that crashed
abbrev pub IfCrashed : ReplayFault → Type 0 → Type 0
IfCrashed (DiskFailed block rise) P = ⊤
IfCrashed Crashed P = P
IfCrashed NoMemory P = ⊤

-- what stopped a node in a turn stopped its replay
abbrev pub stop_by : Option ℕ → Option Rise → ReplayFault
stop_by block (Some rise) = DiskFailed block rise
stop_by block None = Crashed

abbrev pub fault_of : TurnFault → ReplayFault
fault_of fault = stop_by fault.block fault.rise
