use Rattle.image_model.specs.Image.{Image, image_in}
use Rattle.image_model.specs.Owners.{Owners}
use Rattle.image_model.specs.Stands.{IsLaid, Layout}
use Rattle.image_journals.specs.Frames.{HasSameFrame}
use Rattle.image_journals.proofs.Layouts.{AreFirst}
use Rattle.image_journals.proofs.finding.find_journals.Given as goal

abbrev pub invariant-loop-number : goal.invariant-loop-number
invariant-loop-number l = (r : Image) (o : Owners) (m : Layout) → HasSameFrame r (image_in l.block_size l.bytes) → IsLaid r o m → AreFirst r m l.number l.journals.items
