use Rattle.cluster_parts.proofs.Minding.{minded, start_allows}
use Rattle.cluster_parts.proofs.states_allow_caches.Goals as goal

pub returns-clause-start : goal.returns-clause-start
returns-clause-start g c = start_allows _

pub returns-clause-kept : goal.returns-clause-kept
returns-clause-kept g c = minded _
