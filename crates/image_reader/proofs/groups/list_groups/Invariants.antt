use Rattle.std.proofs.Common.{◌≡◌, ◌++◌, length}
use Rattle.image_model.specs.Groups.{groups_in}
use Rattle.image_model.specs.Listing.{RiseFrom, end_after}
use Rattle.image_reader.specs.Reading.{image_at}
use Rattle.image_reader.proofs.groups.list_groups.Given as goal

abbrev pub invariant-loop-rest : goal.invariant-loop-rest
invariant-loop-rest l = record {
  listed : groups_in l.content ≡ l.groups.items ++ groups_in l.rest;
  rise : RiseFrom (image_at l.image) 0 l.groups.items;
  ends : end_after 0 l.groups.items ≡ l.end;
}

abbrev pub decreases-loop-rest : goal.decreases-loop-rest
decreases-loop-rest l = length l.rest
