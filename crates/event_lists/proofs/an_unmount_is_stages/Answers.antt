use Rattle.event_lists.proofs.Demoting.{clean_header, clean_releases}
use Rattle.event_lists.proofs.an_unmount_is_stages.Goals as goal

pub returns-clause-header : goal.returns-clause-header
returns-clause-header g c = clean_header _

pub returns-clause-release : goal.returns-clause-release
returns-clause-release g c = clean_releases _
