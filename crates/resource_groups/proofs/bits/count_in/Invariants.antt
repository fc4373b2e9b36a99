use Rattle.std.proofs.Common.{◌≡◌, ◌*◌, ◌≤◌}
use Rattle.gfs2_layout.specs.Groups.{count_of}
use Rattle.resource_groups.specs.Counting.{states_upto}
use Rattle.resource_groups.proofs.bits.count_in.Given as goal

abbrev pub invariant-loop-byte : goal.invariant-loop-byte
invariant-loop-byte l = record {
  value : l.free ≡ count_of 0 (states_upto l.bits (4 * l.byte-index));
  most : l.free ≤ 4 * l.byte-index;
}
