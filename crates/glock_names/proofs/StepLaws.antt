-- A call's answer, where it is known which one it is.
use Rattle.std.proofs.Common.{◌≡◌, Result, Ok, Err, subst}
use Rattle.glock_names.specs.declared.steps.CallFault.{CallFault}
use Rattle.glock_names.specs.Steps.{IfNeedBlock, IfIs}
use Rattle.glock_names.specs.declared.steps.Missing.{Missing}
use Rattle.glock_names.specs.declared.steps.Step.{Step}
use Rattle.glock_names.specs.declared.steps.Step.TheVariants.{Is, NeedBlock}

pub needed_at : {A : Type 0} (step : Step A) (m : Missing) (P : Missing → Type 0) → step ≡ NeedBlock m → IfNeedBlock (Ok step) P → P m
needed_at {A} step m P is needed = subst (λ s. IfNeedBlock {A = A} (Ok s) P) is needed

pub answer_at : {A : Type 0} (step : Step A) (answer : A) (P : A → Type 0) → step ≡ Is answer → IfIs (Ok step) P → P answer
answer_at {A} step answer P is holds = subst (λ s. IfIs {A = A} (Ok s) P) is holds

-- what follows from what is said of an answer
pub answer_so : {A : Type 0} (result : Result (Step A) CallFault) (P Q : A → Type 0) → ((answer : A) → P answer → Q answer) → IfIs result P → IfIs result Q
answer_so (Ok (Is answer)) P Q so holds = so answer holds
answer_so (Ok (NeedBlock missing)) P Q so holds = tt
answer_so (Err fault) P Q so holds = tt

pub needed_so : {A : Type 0} (result : Result (Step A) CallFault) (P Q : Missing → Type 0) → ((m : Missing) → P m → Q m) → IfNeedBlock result P → IfNeedBlock result Q
needed_so (Ok (Is answer)) P Q so holds = tt
needed_so (Ok (NeedBlock missing)) P Q so holds = so missing holds
needed_so (Err fault) P Q so holds = tt
