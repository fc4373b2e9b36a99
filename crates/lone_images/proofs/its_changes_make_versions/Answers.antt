use Rattle.lone_images.proofs.Calling.{changes_make_versions}
use Rattle.lone_images.proofs.its_changes_make_versions.Goals as goal

pub returns : goal.returns
returns c = changes_make_versions
