use Rattle.image_model.specs.Image.{Image, image_in}
use Rattle.image_model.specs.Owners.{Owners}
use Rattle.image_model.specs.Stands.{IsLaid, Layout}
use Rattle.image_journals.specs.Frames.{HasSameFrame}
use Rattle.image_journals.proofs.SystemBlocks.{AreFound}
use Rattle.image_journals.proofs.system.find_system_blocks.Given as goal

abbrev pub invariant-loop-file : goal.invariant-loop-file
invariant-loop-file l = (r : Image) (o : Owners) (m : Layout) → HasSameFrame r (image_in l.fn.block_size l.fn.bytes) → IsLaid r o m → AreFound r o l.file-items l.file-index l.found.items
