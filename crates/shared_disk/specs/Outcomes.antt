-- What the writes in flight become at a fence of a disk in memory.
use Rattle.std.specs.Prelude.{ℕ, ◌≡◌, List, [], ◌∷◌, length, drop, ⊤}
use Rattle.std.specs.List.{AllByRecursion}
use Rattle.shared_disk.specs.Disk.{Flight}
use Rattle.shared_disk.specs.Settling.{ordered}
use Rattle.shared_disk.specs.declared.disk.Settle.{Settle}
use Rattle.shared_disk.specs.declared.outcomes.Outcome.{Outcome}
use Rattle.shared_disk.specs.declared.outcomes.Outcome.TheVariants.{Old, New, Bytes}

-- the block that an outcome makes of an old and a new one
abbrev pub outcome_of : Outcome → List ℕ → List ℕ → List ℕ
outcome_of Old old new = old
outcome_of New old new = new
outcome_of (Bytes bytes) old new = bytes.items

-- the next outcome decides, and the order where there is none
abbrev pub fate : Settle → List Outcome → List ℕ → List ℕ → List ℕ
fate order [] old new = ordered order old new
fate order (o ∷ os) old new = outcome_of o old new

-- what these writes in flight become, each taking the next outcome
abbrev pub became : Settle → List Outcome → (ℕ → List ℕ) → List Flight → List Flight
became order outcomes block_at [] = []
became order outcomes block_at (f ∷ fs) = record { block = f.block; bytes = fate order outcomes (block_at f.block) f.bytes } ∷ became order (drop 1 outcomes) block_at fs

-- an outcome that gives bytes gives one block
abbrev pub IsOfSize : ℕ → Outcome → Type 0
IsOfSize size Old = ⊤
IsOfSize size New = ⊤
IsOfSize size (Bytes bytes) = length bytes.items ≡ size

abbrev pub AreOfSize : ℕ → List Outcome → Type 0
AreOfSize size outcomes = AllByRecursion (IsOfSize size) outcomes
