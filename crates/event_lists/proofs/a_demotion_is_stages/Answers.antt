use Rattle.event_lists.proofs.Demoting.{flushes, flushed_untouched, header_stages, revokes, home_revoked, revokes_revoke, stages, releases}
use Rattle.event_lists.proofs.a_demotion_is_stages.Goals as goal

pub returns-clause-flush : goal.returns-clause-flush
returns-clause-flush g c = flushes _

pub returns-clause-untouched : goal.returns-clause-untouched
returns-clause-untouched g c = flushed_untouched _

pub returns-clause-headers : goal.returns-clause-headers
returns-clause-headers g c = header_stages _

pub returns-clause-revokes : goal.returns-clause-revokes
returns-clause-revokes g c = revokes _

pub returns-clause-home : goal.returns-clause-home
returns-clause-home g c = home_revoked _

pub returns-clause-revoked : goal.returns-clause-revoked
returns-clause-revoked g c = revokes_revoke _

pub returns-clause-stages : goal.returns-clause-stages
returns-clause-stages g c = stages _

pub returns-clause-release : goal.returns-clause-release
returns-clause-release g c = releases _
