use Rattle.std.proofs.Common.{take}
use Rattle.std.specs.List.{All}
use Rattle.image_mount.specs.Leaves.{HasHashOf}
use Rattle.image_mount.proofs.leaves.check_hashes.Given as goal

abbrev pub invariant-loop-record : goal.invariant-loop-record
invariant-loop-record l = All (HasHashOf l.at) (take l.record-index l.records)
