use Rattle.std.proofs.Common.{◌<◌, ◌≤◌, take}
use Rattle.std.specs.Prelude.{Contains}
use Rattle.glock_names.specs.Views.{end_of}
use Rattle.glock_names.specs.declared.views.Group.{Group}
use Rattle.file_changes.proofs.inside.lies_in_group.Given as goal

abbrev pub invariant-loop-group : goal.invariant-loop-group
invariant-loop-group g l = (k : Group) → Contains (take l.group-index l.group-items) k → ¬ ((k.addr ≤ l.block) × (l.block < end_of k))
