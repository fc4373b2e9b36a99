use Rattle.std.specs.Prelude.{map}
use Rattle.image_mount.specs.Listing.{said}
use Rattle.image_mount.proofs.Twice.{AreDistinctTo}
use Rattle.image_mount.proofs.listing.check_twice.Given as goal

abbrev pub invariant-loop-i : goal.invariant-loop-i
invariant-loop-i l = AreDistinctTo (map said l.records) l.i
