use Rattle.damage_laws.proofs.Standing.{standing_are_read}
use Rattle.damage_laws.proofs.telling.views_may_be_read_from_standing_images.Goals as goal

pub returns : goal.returns
returns c = standing_are_read
