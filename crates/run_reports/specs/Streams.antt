-- What has come to a sink of the bytes that are held for it.
use Rattle.std.specs.Prelude.{ℕ, ◌≡◌, ◌≤◌, ⊤, List, ◌++◌, Option, Result, MatchResult, IfErr}
use Rattle.std.specs.Io.KnownBytes.{Appends}
use Rattle.fault_counts.specs.Causes.{Rose}
use Rattle.run_reports.specs.declared.streams.PutFault.{PutFault}
use Rattle.run_reports.specs.declared.streams.PutFault.TheVariants as fault

-- of what was held and these bytes, a front has come to the sink, and the rest is held
pub record Passes (before now : Option (List ℕ)) (held now_held bytes : List ℕ) : Type 0 where
  pub sent : List ℕ
  pub appended : Appends before now sent
  pub split : sent ++ now_held ≡ held ++ bytes

-- so at `Ok`; at `Err` the rest may be gone
abbrev pub PassesOn : {T E : Type 0} → Option (List ℕ) → Option (List ℕ) → List ℕ → List ℕ → Result T E → List ℕ → Type 0
PassesOn before now held now_held r bytes =
    MatchResult r (λ _. Passes before now held now_held bytes) (λ _. (rest : List ℕ) × Passes before now held rest bytes)

-- the sink's count of faults has not fallen, and a failing sink is told only where it rose
abbrev pub FaultRose : ℕ → ℕ → PutFault → Type 0
FaultRose before now fault.Failed = Rose before now
FaultRose before now fault.NoMemory = ⊤

pub record PutHasCause {T : Type 0} (before now : ℕ) (r : Result T PutFault) : Type 0 where
  pub later : before ≤ now
  pub failed : IfErr r (FaultRose before now)
