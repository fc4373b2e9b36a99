use Rattle.std.proofs.Common.{◌≤◌, length}
use Rattle.std.specs.Prelude.{map}
use Rattle.image_mount.specs.Listing.{said, AreDistinct}
use Rattle.image_mount.proofs.Adding.{IsAdded}
use Rattle.image_mount.proofs.leaves.add_records.Given as goal

abbrev pub invariant-loop-record : goal.invariant-loop-record
invariant-loop-record l = record {
  added : IsAdded l.initial.found.items l.records l.record-index l.found.items;
  low : l.record-index ≤ length l.records;
  distinct : AreDistinct (map said l.initial.found.items) → AreDistinct (map said l.found.items);
}
