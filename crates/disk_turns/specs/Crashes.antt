-- A node that is to crash behind a write: how many of its writes are left to be made until then, that one among them, or none where it isn't to crash.
use Rattle.std.specs.Prelude.{ℕ, ◌≡◌, ◌+◌, ◌-◌, ◌<◌, ◌≤◌, ⊤, IfSome, MatchOption, Option, None, Some}
use Rattle.disk_turns.specs.declared.faults.TurnFault.{TurnFault}

-- that one at least is left
abbrev pub Awaits : Option ℕ → Type 0
Awaits None = ⊤
Awaits (Some left) = 1 ≤ left

-- with so many writes it hasn't come to it
abbrev pub IsBefore : ℕ → Option ℕ → Type 0
IsBefore made armed = IfSome armed (λ k. made < k)

-- what is left behind so many writes
abbrev pub left_after : ℕ → Option ℕ → Option ℕ
left_after made None = None
left_after made (Some left) = Some (left - made)

-- Behind the turns before, of so many writes: it crashed directly behind the write at which it was to, one of this turn; and a disk that failed did so before.
abbrev pub StopsByCrash : Option ℕ → ℕ → TurnFault → Type 0
StopsByCrash armed before fault = MatchOption fault.rise ((armed ≡ Some (before + fault.in_flight)) × (1 ≤ fault.in_flight)) (λ r. IsBefore (before + fault.in_flight) armed)
