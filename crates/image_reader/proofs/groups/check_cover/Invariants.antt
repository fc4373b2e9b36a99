use Rattle.image_reader.specs.Reading.{image_at}
use Rattle.image_model.proofs.Listing.{AreNear, IsCoveredTo}
use Rattle.image_reader.proofs.groups.check_cover.Given as goal

abbrev pub invariant-loop-group : goal.invariant-loop-group
invariant-loop-group l = record {
  covered : IsCoveredTo (image_at l.image) l.groups l.group-index l.bare;
  near : AreNear (image_at l.image) l.groups l.bare;
}
