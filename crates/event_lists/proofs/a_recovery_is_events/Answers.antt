use Rattle.event_lists.proofs.Recovering.{kept_found, loss, recovery, past_silent, start_recovery, past_ends}
use Rattle.event_lists.proofs.a_recovery_is_events.Goals as goal

pub returns-clause-kept : goal.returns-clause-kept
returns-clause-kept g c = kept_found _

pub returns-clause-slot : goal.returns-clause-slot
returns-clause-slot g c = recovery _

pub returns-clause-start : goal.returns-clause-start
returns-clause-start g c = start_recovery _

pub returns-clause-past : goal.returns-clause-past
returns-clause-past g c = past_ends _

pub returns-clause-loss : goal.returns-clause-loss
returns-clause-loss g c = loss _

pub returns-clause-silent : goal.returns-clause-silent
returns-clause-silent g c = past_silent _
