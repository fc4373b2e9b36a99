use Rattle.glock_names.proofs.StepLaws.{answer_at}
use Rattle.resource_groups.proofs.Parts.{first_bits, more_bits, more_long}
use Rattle.resource_groups.proofs.blocks.bits_of.Goals as goal

pub returns-in-Is-clause-bits : goal.returns-in-Is-clause-bits
returns-in-Is-clause-bits g c at shown = first_bits (g.V.View.seen c.args.view.now) at c.args.group.now c.args.part c.in-Is.bytes.now c.if-part-eq0.true c.requires.within shown (answer_at _ _ _ c.in-Is.is c.in_ok-bytes.ensures.seen)

pub returns-in-Is-2-clause-bits : goal.returns-in-Is-2-clause-bits
returns-in-Is-2-clause-bits g c at shown = more_bits (g.V.View.seen c.args.view.now) at c.args.group.now c.args.part c.in-Is.bytes.now c.if-part-eq0.false c.requires.within shown (answer_at _ _ _ c.in-Is.is c.in_ok-bytes.ensures.seen)

pub returns-in-Is-2-clause-length : goal.returns-in-Is-2-clause-length
returns-in-Is-2-clause-length g c = more_long (g.V.View.seen c.args.view.now).size c.args.part c.in-Is.bytes.now c.if-part-eq0.false (answer_at _ _ _ c.in-Is.is c.in_ok-bytes.ensures.size)

pub returns-in-Is-clause-there : goal.returns-in-Is-clause-there
returns-in-Is-clause-there g c = (c.in-Is.bytes.now, answer_at _ _ _ c.in-Is.is c.in_ok-bytes.ensures.seen)

pub returns-in-Is-2-clause-there : goal.returns-in-Is-2-clause-there
returns-in-Is-2-clause-there g c = (c.in-Is.bytes.now, answer_at _ _ _ c.in-Is.is c.in_ok-bytes.ensures.seen)
