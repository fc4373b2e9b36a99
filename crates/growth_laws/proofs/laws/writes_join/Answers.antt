use Rattle.growth_laws.proofs.Bytes.{writes_join, writes_grow_first}
use Rattle.growth_laws.proofs.laws.writes_join.Goals as goal

pub returns-clause-join : goal.returns-clause-join
returns-clause-join c = writes_join

pub returns-clause-grow : goal.returns-clause-grow
returns-clause-grow c = writes_grow_first
