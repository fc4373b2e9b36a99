use Rattle.std.proofs.Common.{◌≡◌, ◌≤◌, ◌+◌, ◌*◌, ◌++◌, length}
use Rattle.image_model.specs.Groups.{groups_in}
use Rattle.image_mount.proofs.groups.read_entries.Given as goal

abbrev pub invariant-loop-rest : goal.invariant-loop-rest
invariant-loop-rest l = record {
  read : groups_in l.content ≡ l.groups.items ++ groups_in l.rest;
  most : length l.groups.items * 96 + length l.rest ≤ length l.content;
}

abbrev pub decreases-loop-rest : goal.decreases-loop-rest
decreases-loop-rest l = length l.rest
