use Rattle.std.proofs.Common.{length}
use Rattle.gfs2_layout.specs.Area.{IsArea}
use Rattle.image_reader.proofs.LeafFaults.{IsBehind}
use Rattle.image_reader.proofs.inode.Inode.check_hashes.Given as goal

abbrev pub invariant-loop-record : goal.invariant-loop-record
invariant-loop-record l = record {
  area : IsArea l.rest;
  behind : IsBehind l.area.bytes.now l.rest;
}

abbrev pub decreases-loop-record : goal.decreases-loop-record
decreases-loop-record l = length l.rest
