use Rattle.std.proofs.Common.{List, None, length, refl, sym, subst}
use Rattle.drafts.specs.declared.change.Written.{Written}
use Rattle.disk_turns.specs.Turns.{StopsAt, at_barrier, before_it}
use Rattle.std.proofs.lemmas.List.{take_all}
use Rattle.std.proofs.lemmas.Option.{slice_get_read}
use Rattle.disk_turns.proofs.crashes.crashed.Goals as goal

pub returns-in-Some-clause-stops : goal.returns-in-Some-clause-stops
returns-in-Some-clause-stops c = before_it c.args.made c.in-Some.next.now (slice_get_read c.args.blocks.now (length c.args.blocks.now) c.args.made c.in-Some.next.now refl c.in-Some.ensures.lookup.3.0 c.in-Some.ensures.lookup.1)

pub returns-in-None-clause-stops : goal.returns-in-None-clause-stops
returns-in-None-clause-stops c = subst (λ (ws : List Written). StopsAt c.args.blocks.now None ws ws) (sym (take_all c.args.made c.args.blocks.now c.in-None.ensures.lookup.3)) at_barrier
