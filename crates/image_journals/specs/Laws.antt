-- What the replay of an image means for its journals.
use Rattle.image_model.specs.Image.{Image}
use Rattle.image_model.specs.Owners.{Owners}
use Rattle.image_model.specs.Replays.{Replayed}
use Rattle.image_model.specs.Stands.{IsLaid, Layout}
use Rattle.image_model.specs.SystemFiles.{HasSameSystem}

-- an image has each block of the system files of its replayed image, where that stands, as it is there
abbrev pub ReplayedShareTheirSystem : Type 0
ReplayedShareTheirSystem = (im r : Image) (o : Owners) (l m : Layout) → Replayed im l r → IsLaid r o m → HasSameSystem r im
