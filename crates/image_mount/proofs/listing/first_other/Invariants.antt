use Rattle.std.proofs.Common.{◌≡◌, drop}
use Rattle.std.specs.Prelude.{map}
use Rattle.image_mount.specs.Found.{first_other}
use Rattle.image_mount.specs.Listing.{said}
use Rattle.image_mount.proofs.listing.first_other.Given as goal

abbrev pub invariant-loop-record : goal.invariant-loop-record
invariant-loop-record l = first_other (map said l.records) ≡ first_other (map said (drop l.record-index l.records))
