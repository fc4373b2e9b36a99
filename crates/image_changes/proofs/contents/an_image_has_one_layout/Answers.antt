use Rattle.image_changes.proofs.Layouts.{one_layout}
use Rattle.image_changes.proofs.contents.an_image_has_one_layout.Goals as goal

pub returns : goal.returns
returns c = one_layout
