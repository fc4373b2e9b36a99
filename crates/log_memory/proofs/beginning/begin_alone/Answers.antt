use Rattle.log_values.specs.Flushing.Begins.{alone}
use Rattle.log_memory.proofs.Begun.{alone_is, alone_stays}
use Rattle.log_memory.proofs.beginning.begin_alone.Goals as goal

pub invariant_of-log : goal.invariant_of-log
invariant_of-log c = alone_stays c.log.inside c.log.invariant c.args.log.now c.log.view_is c.requires.none (alone c.requires.none c.requires.home c.requires.some c.requires.no_more)

pub returns : goal.returns
returns c = alone_is c.log.inside c.log.invariant c.args.log.now c.log.view_is c.requires.none
