use Rattle.glock_machine.proofs.Below.{common_greatest}
use Rattle.glock_machine.proofs.Standing.{first_call, second_call, lower_call}
use Rattle.glock_machine.proofs.laws.callbacks_ask_no_more.Goals as goal

pub returns-clause-first : goal.returns-clause-first
returns-clause-first c = first_call

pub returns-clause-second : goal.returns-clause-second
returns-clause-second c = second_call

pub returns-clause-lower : goal.returns-clause-lower
returns-clause-lower c = lower_call

pub returns-clause-greatest : goal.returns-clause-greatest
returns-clause-greatest c = common_greatest
