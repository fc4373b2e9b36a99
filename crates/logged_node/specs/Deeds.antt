-- What a node's deeds on the disk leave.
use Rattle.std.specs.Prelude.{ℕ, ◌≡◌, ◌-◌, ◌≤◌, ◌<◌, ⊤, List, [], ◌∷◌, Option, None, Some}
use Rattle.shared_disk.specs.Disk.{DiskState, Gains, Operation, Write, after_write}

-- how many writes it makes until it crashes, behind one more
abbrev pub one_less : Option ℕ → Option ℕ
one_less None = None
one_less (Some left) = Some (left - 1)

-- the write at which it crashes is the last of those that it makes until then
abbrev pub IsLastWrite : Option ℕ → Type 0
IsLastWrite None = ⊥
IsLastWrite (Some left) = left ≤ 1

abbrev pub IsNotLastWrite : Option ℕ → Type 0
IsNotLastWrite None = ⊤
IsNotLastWrite (Some left) = 1 < left

-- a write that failed may be in flight, or not
pub data MayBeWritten (d : DiskState) (list : Option (List Operation)) (b : ℕ) (bytes : List ℕ) (d' : DiskState) (list' : Option (List Operation)) : Type 0 where
  no_write : d' ≡ d → list' ≡ list → MayBeWritten d list b bytes d' list'
  a_write : d' ≡ after_write d 1 b bytes → Gains list list' (Write 1 b bytes ∷ []) → MayBeWritten d list b bytes d' list'
