use Rattle.std.proofs.Common.{ℕ}
use Rattle.image_model.specs.Image.{Image}
use Rattle.image_model.specs.Listing.{RiseFrom}
use Rattle.image_model.proofs.Listing.{AreNear, IsCoveredTo}
use Rattle.image_mount.specs.Groups.{IsListOf}
use Rattle.image_mount.proofs.groups.check_cover.Given as goal

abbrev pub invariant-loop-group : goal.invariant-loop-group
invariant-loop-group l = record {
  covered : (im : Image) (list : ℕ) → IsListOf im l.device.size l.device.count list l.groups → RiseFrom im 0 l.groups → IsCoveredTo im l.groups l.group-index l.bare;
  near : (im : Image) (list : ℕ) → IsListOf im l.device.size l.device.count list l.groups → AreNear im l.groups l.bare;
}
