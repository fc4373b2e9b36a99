use Rattle.image_model.specs.Image.{Image}
use Rattle.image_mount.specs.Groups.{IsListOf}
use Rattle.image_mount.proofs.Grouping.{IsRisenTo}
use Rattle.image_mount.proofs.groups.check_rise.Given as goal

abbrev pub invariant-loop-group : goal.invariant-loop-group
invariant-loop-group l = (im : Image) → IsListOf im l.device.size l.device.count l.list l.groups → IsRisenTo im l.groups l.group-index l.end
