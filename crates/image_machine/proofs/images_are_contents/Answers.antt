use Rattle.image_machine.proofs.Fitting.{contents_are_images, images_stand}
use Rattle.image_machine.proofs.images_are_contents.Goals as goal

pub returns-clause-there : goal.returns-clause-there
returns-clause-there c = images_stand

pub returns-clause-back : goal.returns-clause-back
returns-clause-back c = contents_are_images
