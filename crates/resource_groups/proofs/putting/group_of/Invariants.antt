use Rattle.std.proofs.Common.{take}
use Rattle.std.specs.List.{All}
use Rattle.resource_groups.specs.Shown.{IsDataOf}
use Rattle.resource_groups.proofs.putting.group_of.Given as goal

abbrev pub invariant-loop-group : goal.invariant-loop-group
invariant-loop-group g l = All (λ h. ¬ (IsDataOf h l.block)) (take l.group-index l.group-items)
