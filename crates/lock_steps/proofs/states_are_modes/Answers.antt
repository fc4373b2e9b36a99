use Rattle.lock_steps.proofs.Modes.{go-as-modes, cover-as-modes, modes-of-their-own}
use Rattle.lock_steps.proofs.states_are_modes.Goals as goal

pub returns : goal.returns
returns c = record { together = go-as-modes; covers = cover-as-modes; own = modes-of-their-own }
