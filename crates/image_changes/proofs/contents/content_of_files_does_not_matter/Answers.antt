use Rattle.image_changes.proofs.FileContent.{content_does_not_matter}
use Rattle.image_changes.proofs.contents.content_of_files_does_not_matter.Goals as goal

pub returns : goal.returns
returns c = content_does_not_matter
