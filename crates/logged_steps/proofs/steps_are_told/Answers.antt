use Rattle.logged_steps.proofs.Telling.{fronts_are_passed, steps_are_told, steps_go_on}
use Rattle.logged_steps.proofs.steps_are_told.Goals as goal

pub returns-clause-told : goal.returns-clause-told
returns-clause-told c = steps_are_told c.items_go_on.ensures

pub returns-clause-fronts : goal.returns-clause-fronts
returns-clause-fronts c = fronts_are_passed c.items_go_on.ensures

pub returns-clause-on : goal.returns-clause-on
returns-clause-on c = steps_go_on
