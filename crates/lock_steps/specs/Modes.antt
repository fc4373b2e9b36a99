-- The states of a lock are four of the lock manager's six modes.
use Rattle.std.specs.Prelude.{◌≡◌}
use Rattle.lock_laws.specs.Lock.{State, goes, leq}
use Rattle.dlm_modes.specs.Modes.{go_together, is_at_least}
use Rattle.glock_names.specs.States.{mode_for}

-- two states go together exactly where their modes do
abbrev pub GoAsModes : Type 0
GoAsModes = (a b : State) → goes a b ≡ go_together (mode_for a) (mode_for b)

-- a state is at most another exactly where the other's mode covers its mode
abbrev pub CoverAsModes : Type 0
CoverAsModes = (a b : State) → leq a b ≡ is_at_least (mode_for b) (mode_for a)

-- and two states have two modes
abbrev pub HaveModesOfTheirOwn : Type 0
HaveModesOfTheirOwn = (a b : State) → mode_for a ≡ mode_for b → a ≡ b
