use Rattle.std.proofs.Common.{take}
use Rattle.std.specs.List.{All}
use Rattle.image_mount.specs.Listing.{HasItsOwnName}
use Rattle.image_mount.proofs.listing.check_names.Given as goal

abbrev pub invariant-loop-record : goal.invariant-loop-record
invariant-loop-record l = All HasItsOwnName (take l.record-index l.records)
