use Rattle.image_changes.proofs.Unminded.{places_do_not_matter}
use Rattle.image_changes.proofs.contents.places_of_journals_do_not_matter.Goals as goal

pub returns : goal.returns
returns c = places_do_not_matter
