use Rattle.lock_steps.proofs.Exactly.{holders-ask-nothing}
use Rattle.lock_steps.proofs.holders_ask_for_nothing.Goals as goal

pub returns : goal.returns
returns c = holders-ask-nothing
