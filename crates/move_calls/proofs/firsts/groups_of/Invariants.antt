use Rattle.std.proofs.Common.{◌≡◌, take}
use Rattle.move_calls.specs.Firsts.{those_of}
use Rattle.move_calls.proofs.firsts.groups_of.Given as goal

abbrev pub invariant-loop-group : goal.invariant-loop-group
invariant-loop-group g l = l.these.items ≡ those_of l.number l.blocks (take l.group-index l.group-items)
