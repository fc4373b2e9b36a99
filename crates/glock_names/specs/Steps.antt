-- What a call over a view answers.
use Rattle.std.specs.Prelude.{ℕ, Result, Ok, Err, IfErr, ⊤}
use Rattle.glock_names.specs.declared.steps.CallFault.{CallFault}
use Rattle.glock_names.specs.declared.steps.CallFault.TheVariants.{Damaged, NoMemory}
use Rattle.glock_names.specs.declared.steps.Missing.{Missing}
use Rattle.glock_names.specs.declared.steps.Step.{Step}
use Rattle.glock_names.specs.declared.steps.Step.TheVariants.{Is, NeedBlock}

-- P of the answer, where there is one
abbrev pub IfIs : {A : Type 0} → Result (Step A) CallFault → (A → Type 0) → Type 0
IfIs (Ok (Is answer)) P = P answer
IfIs (Ok (NeedBlock missing)) P = ⊤
IfIs (Err fault) P = ⊤

-- P of the block that is needed, where the call needs one
abbrev pub IfNeedBlock : {A : Type 0} → Result (Step A) CallFault → (Missing → Type 0) → Type 0
IfNeedBlock (Ok (Is answer)) P = ⊤
IfNeedBlock (Ok (NeedBlock missing)) P = P missing
IfNeedBlock (Err fault) P = ⊤

-- P of the rule that is broken and of the block that breaks it, where the fault tells of one
abbrev pub TellsOf : (ℕ → ℕ → Type 0) → CallFault → Type 0
TellsOf P (Damaged block rule) = P rule block
TellsOf P NoMemory = ⊤

abbrev pub IfDamaged : {A : Type 0} → Result A CallFault → (ℕ → ℕ → Type 0) → Type 0
IfDamaged result P = IfErr result (TellsOf P)

-- the same of a call that takes no memory: there is no other fault
abbrev pub IsDamage : (ℕ → ℕ → Type 0) → CallFault → Type 0
IsDamage P (Damaged block rule) = P rule block
IsDamage P NoMemory = ⊥

abbrev pub OnlyDamaged : {A : Type 0} → Result A CallFault → (ℕ → ℕ → Type 0) → Type 0
OnlyDamaged result P = IfErr result (IsDamage P)
