use Rattle.image_model.proofs.Replaying.{clean_stand, clean_stay}
use Rattle.image_model.proofs.laws.clean_images_stay.Goals as goal

pub returns-clause-stay : goal.returns-clause-stay
returns-clause-stay c = clean_stay

pub returns-clause-stand : goal.returns-clause-stand
returns-clause-stand c = clean_stand
