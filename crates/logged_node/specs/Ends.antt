-- Why a node stops.
use Rattle.std.specs.Prelude.{ℕ, ◌≡◌, ◌<◌, ⊤, IfSome, Option, Result, Ok, Err}
use Rattle.fault_counts.specs.Causes.{WentUp}
use Rattle.logged_node.specs.declared.ends.Stop.{Stop}
use Rattle.logged_node.specs.declared.ends.Stop.TheVariants as stop

-- a failing disk is told only where node 1's count rose so, and a block only of the disk
abbrev pub HasCause : (count : ℕ) → (before now : ℕ → ℕ) → Stop → Type 0
HasCause count before now (stop.DiskFailed block rise) = WentUp (before 1) (now 1) rise.before rise.after × IfSome block (λ b. b < count)
HasCause count before now s = ⊤

-- it crashes where it has made the write at which it was to
abbrev pub IfCrashed : Stop → Type 0 → Type 0
IfCrashed stop.Crashed P = P
IfCrashed s P = ⊤

-- what was to be done was done, and it may crash behind it; or the disk failed
abbrev pub IfMade : Result (Unit {0}) Stop → Type 0 → Type 0
IfMade (Ok _) P = P
IfMade (Err stop.Crashed) P = P
IfMade (Err (stop.DiskFailed block rise)) P = ⊤
IfMade (Err stop.NoMemory) P = ⊥

-- where the disk failed, this is the block that it tells, or it was at a barrier and there is none
abbrev pub FailedAt : Stop → Option ℕ → Type 0
FailedAt (stop.DiskFailed block rise) at = block ≡ at
FailedAt s at = ⊤

-- a fact of the disk where it failed
abbrev pub IfFailed : Stop → Type 0 → Type 0
IfFailed (stop.DiskFailed block rise) P = P
IfFailed s P = ⊤

-- the disk failed
abbrev pub IsOfDisk : Stop → Type 0
IsOfDisk (stop.DiskFailed block rise) = ⊤
IsOfDisk s = ⊥
