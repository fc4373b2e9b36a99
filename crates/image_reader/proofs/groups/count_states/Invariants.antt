use Rattle.std.proofs.Common.{◌≡◌, ◌≤◌}
use Rattle.gfs2_layout.specs.Groups.{count_of}
use Rattle.image_reader.specs.Reading.{states_of}
use Rattle.image_reader.proofs.groups.count_states.Given as goal

abbrev pub invariant-loop-n : goal.invariant-loop-n
invariant-loop-n l = record {
  count : l.count ≡ count_of l.state (states_of l.bits l.n);
  low : l.count ≤ l.n;
}
