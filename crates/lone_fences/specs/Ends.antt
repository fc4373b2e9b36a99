-- Why a crashed node wasn't fenced, or isn't told of what it lost.
use Rattle.std.specs.Prelude.{ℕ, ⊤, List, Contains}
use Rattle.fault_counts.specs.Causes.{WentUp}
use Rattle.journal_reads.specs.declared.faults.ReadFault.{ReadFault}
use Rattle.journal_reads.specs.declared.faults.ReadFault.TheVariants as read
use Rattle.lone_fences.specs.declared.ends.FenceEnd.{FenceEnd}
use Rattle.lone_fences.specs.declared.ends.FenceEnd.TheVariants as end

abbrev pub end_of : ReadFault → FenceEnd
end_of (read.DiskFailed block rise) = end.ReadFailed block rise
end_of read.NoMemory = end.NoMemory

-- a failing disk is told only where the run's own count rose so, and a block only of the journal
abbrev pub HasCause : (blocks : List ℕ) (before now : ℕ → ℕ) → FenceEnd → Type 0
HasCause blocks before now (end.NotFenced rise) = WentUp (before 0) (now 0) rise.before rise.after
HasCause blocks before now (end.ReadFailed block rise) = WentUp (before 0) (now 0) rise.before rise.after × Contains blocks block
HasCause blocks before now end.NoMemory = ⊤
