use Rattle.std.proofs.Common.{◌≡◌, true, take}
use Rattle.std.specs.Prelude.{Contains}
use Rattle.glock_names.specs.declared.views.Group.{Group}
use Rattle.path_walks.specs.Holds.{holds, hold_of_group}
use Rattle.group_locks.specs.Groups.{IsOneOrHas}
use Rattle.group_locks.proofs.groups.lacked_of.Given as goal

abbrev pub invariant-loop-group : goal.invariant-loop-group
invariant-loop-group g l = (k : Group) → Contains (take l.group-index l.group-items) k → IsOneOrHas l.number l.blocks k → holds (g.V.View.seen l.view) (hold_of_group k) ≡ true
