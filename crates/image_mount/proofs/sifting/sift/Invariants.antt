use Rattle.std.proofs.Common.{◌≤◌, length}
use Rattle.image_mount.specs.Sifting.{AreSifted}
use Rattle.image_mount.proofs.sifting.sift.Given as goal

abbrev pub invariant-loop-record : goal.invariant-loop-record
invariant-loop-record l = record {
  sifted : AreSifted l.names l.records l.record-index l.kept.items l.others;
  low : l.record-index ≤ length l.records;
}
