-- The states of a glock and the lock manager's modes.
use Rattle.std.specs.Prelude.{◌≡◌, true}
use Rattle.glock_names.specs.declared.State.{State}
use Rattle.glock_names.specs.declared.State.TheVariants as state
use Rattle.dlm_modes.specs.declared.Mode.{Mode}
use Rattle.dlm_modes.specs.declared.Mode.TheVariants.{Nl, Cr, Cw, Pr, Pw, Ex}
use Rattle.dlm_modes.specs.Modes.{go_together, is_at_least}

-- the mode in which the lock manager keeps a glock: shared is protected read, deferred is concurrent write
abbrev pub mode_for : State → Mode
mode_for state.Un = Nl
mode_for state.Sh = Pr
mode_for state.Df = Cw
mode_for state.Ex = Ex

-- the strongest state that a node may keep of a glock where it may keep this mode. Pw covers the modes of both shared and
-- deferred, and no state covers both and is covered by it: there it is shared
abbrev pub state_in : Mode → State
state_in Nl = state.Un
state_in Cr = state.Un
state_in Cw = state.Df
state_in Pr = state.Sh
state_in Pw = state.Sh
state_in Ex = state.Ex

pub record IsStrongestState : Type 0 where
  -- the mode covers the state's
  pub covered : (mode : Mode) → is_at_least mode (mode_for (state_in mode)) ≡ true
  -- no state above it is covered by the mode
  pub strongest : (mode : Mode) (s : State) → is_at_least mode (mode_for s) ≡ true → is_at_least (mode_for s) (mode_for (state_in mode)) ≡ true
      → s ≡ state_in mode
  -- a node that keeps the state goes with each whom the mode goes with
  pub goes : (mode other : Mode) → go_together mode other ≡ true → go_together (mode_for (state_in mode)) other ≡ true
  -- the mode of a state gives the state back
  pub back : (s : State) → state_in (mode_for s) ≡ s
