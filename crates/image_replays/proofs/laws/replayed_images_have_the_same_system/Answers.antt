use Rattle.image_model.proofs.SystemStays.{replay_keeps}
use Rattle.image_model.specs.Image.{image_of}
use Rattle.image_replays.proofs.laws.replayed_images_have_the_same_system.Goals as goal

pub returns : goal.returns
returns c s m l replayed tells is of =
    let same = replay_keeps (image_of s) replayed l of in
    record { tells = tells; size = same.size; count = same.count; same = λ b has. same.same b ((is.system b).0 has) }
