use Rattle.std.proofs.Common.{◌∙◌, ap, arith, subst}
use Rattle.log_memory.proofs.Room.{few_fresh, few_gone}
use Rattle.log_values.specs.Sound.{IsSoundLog}
use Rattle.log_memory.specs.Adding.{counts_of}
use Rattle.log_memory.specs.Inside.{log_in}
use Rattle.log_memory.proofs.Tallies.{content_within, told}
use Rattle.log_memory.proofs.adding.counts_now.Goals as goal

pub overflow_cast-content : goal.overflow_cast-content
overflow_cast-content c = let few = few_fresh (log_in c.log.inside) c.log.invariant.sound in let within = content_within c.log.inside.tables.fresh in omega (arith, c.fresh_content-content.ensures)

pub overflow_sub-result : goal.overflow_sub-result
overflow_sub-result c = let within = content_within c.log.inside.tables.fresh in omega (arith, c.fresh_content-content.ensures, c.fresh_len.ensures)

pub overflow_cast-result-2 : goal.overflow_cast-result-2
overflow_cast-result-2 c = let few = few_gone (log_in c.log.inside) c.log.invariant.sound in omega (arith, c.len.ensures)

pub returns-clause-counts : goal.returns-clause-counts
returns-clause-counts c = told (log_in c.log.inside) _ _ _ c.fresh_content-content.ensures c.fresh_len.ensures c.len.ensures ∙ ap counts_of c.log.view_is

pub returns-clause-sound : goal.returns-clause-sound
returns-clause-sound c = subst IsSoundLog c.log.view_is c.log.invariant.sound
