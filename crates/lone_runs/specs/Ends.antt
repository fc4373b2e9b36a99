-- Why a run ends before its script does, or isn't told to its end.
use Rattle.std.specs.Prelude.{ℕ, ◌<◌, ⊤, IfSome, List}
use Rattle.fault_counts.specs.Causes.{WentUp}
use Rattle.logged_scripts.specs.Ends as scripts
use Rattle.lone_runs.specs.declared.ends.RunEnd.{RunEnd}
use Rattle.lone_runs.specs.declared.ends.RunEnd.TheVariants as end

-- A failing disk is told only where the count of whom it failed rose so, that of node 1 or of the run itself; and a block only of the disk, or of the node's journal.
abbrev pub HasCause : (count : ℕ) (blocks : List ℕ) (before now : ℕ → ℕ) → RunEnd → Type 0
HasCause count blocks before now (end.Misplaced dinode) = ⊤
HasCause count blocks before now (end.ReplayFailed block rise) = WentUp (before 1) (now 1) rise.before rise.after × IfSome block (λ b. b < count)
HasCause count blocks before now (end.Script e) = scripts.HasCause count blocks before now e
