use Rattle.std.proofs.Common.{◌≡◌, ◌≤◌, ◌*◌, ◌^◌, take}
use Rattle.image_model.specs.Profile.{group_length}
use Rattle.image_mount.proofs.groups.count_headers.Given as goal

abbrev pub invariant-loop-group : goal.invariant-loop-group
invariant-loop-group l = record {
  value : l.count ≡ group_length (take l.group-index l.groups);
  low : l.count ≤ l.group-index * 2 ^ 32;
}
