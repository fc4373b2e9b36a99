use Rattle.image_machine.proofs.Unminded.{free_do_not, rings_do_not}
use Rattle.image_machine.proofs.contents_do_not_matter.Goals as goal

pub returns-clause-free : goal.returns-clause-free
returns-clause-free c = free_do_not

pub returns-clause-rings : goal.returns-clause-rings
returns-clause-rings c = rings_do_not
