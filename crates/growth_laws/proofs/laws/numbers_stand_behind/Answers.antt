use Rattle.growth_laws.proofs.Numbers.{numbers_behind_are_the_same, zeros_are_no_number, numbers_in_front, numbers_at_the_back, written_dinodes_are_said}
use Rattle.growth_laws.proofs.laws.numbers_stand_behind.Goals as goal

pub returns-clause-same : goal.returns-clause-same
returns-clause-same c = numbers_behind_are_the_same

pub returns-clause-zeros : goal.returns-clause-zeros
returns-clause-zeros c = zeros_are_no_number

pub returns-clause-front : goal.returns-clause-front
returns-clause-front c = numbers_in_front

pub returns-clause-back : goal.returns-clause-back
returns-clause-back c = numbers_at_the_back

pub returns-clause-dinode : goal.returns-clause-dinode
returns-clause-dinode c = written_dinodes_are_said
