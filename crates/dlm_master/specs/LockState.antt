-- What a master has of one lock.
use Rattle.std.specs.Prelude.{List}
use Rattle.dlm_modes.specs.declared.ValueBlock.{ValueBlock}
use Rattle.dlm_master.specs.declared.claims.Claim.{Claim}

-- who holds the lock; which of them wait for another mode, and which nodes wait for the lock, each in the order of their
-- arrival; and the lock's value
pub record LockState : Type 0 where
  pub held : List Claim
  pub conversions : List Claim
  pub requests : List Claim
  pub value : ValueBlock

-- what is found out while the waiters take their turns: who holds the lock, who of them still waits, and who was granted
pub record TurnState : Type 0 where
  pub held : List Claim
  pub staying : List Claim
  pub granted : List Claim
