-- Each outcome of an image with writes in flight is one of the machine's disk.
use Rattle.cluster_laws.specs.Rings.{Rings}
use Rattle.cluster_laws.specs.World.{BeginsAt, Run, World}
use Rattle.image_disks.specs.Disks.{IsDiskOf, IsOutcomeOf}
use Rattle.image_machine.specs.Volumes.{Volume, images_of}
use Rattle.image_model.specs.Image.{Image}
use Rattle.journal_outcomes.specs.Images.{IsImageOutcome, NoFalseHeader}
use Rattle.journal_outcomes.specs.Rings.{InFlight}
use Rattle.tree_histories.specs.Trees.{Trees}

-- Where the machine's run has come from a start to this disk, each outcome without a false header is one of it.
abbrev pub OutcomesAreTheMachines : Type 0
OutcomesAreTheMachines = (v : Volume) (u w : World (Trees (images_of v))) (rings : Rings (Trees (images_of v)) w.disk) (im left : Image) (flying : InFlight)
    → BeginsAt (Trees (images_of v)) u → Run (Trees (images_of v)) u w → IsDiskOf v w.disk rings im flying → IsImageOutcome im flying left → NoFalseHeader im v.layout flying left
    → IsOutcomeOf v w.disk rings im flying left
