-- When the text of a script is not read.
use Rattle.std.specs.Prelude.{ℕ, ⊤}
use Rattle.fault_counts.specs.Causes.{WentUp}
use Rattle.cluster_program.specs.declared.input.InputFault.{InputFault}
use Rattle.cluster_program.specs.declared.input.InputFault.TheVariants as input

-- its source failed, or there was no memory
abbrev pub InputHasCause : ℕ → ℕ → InputFault → Type 0
InputHasCause before now (input.Fault rise) = WentUp before now rise.before rise.after
InputHasCause before now input.NoMemory = ⊤
