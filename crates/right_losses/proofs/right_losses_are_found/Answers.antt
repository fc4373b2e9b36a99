use Rattle.right_losses.proofs.Found.{right_losses_are_found, right_losses_are_one}
use Rattle.right_losses.proofs.right_losses_are_found.Goals as goal

pub returns-clause-found : goal.returns-clause-found
returns-clause-found c = right_losses_are_found

pub returns-clause-one : goal.returns-clause-one
returns-clause-one c = right_losses_are_one
