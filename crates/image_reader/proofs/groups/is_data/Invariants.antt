use Rattle.std.proofs.Common.{take}
use Rattle.std.specs.List.{All}
use Rattle.image_model.specs.Groups.{IsDataOf}
use Rattle.image_reader.proofs.groups.is_data.Given as goal

abbrev pub invariant-loop-group : goal.invariant-loop-group
invariant-loop-group l = All (λ g. ¬ (IsDataOf g l.block)) (take l.group-index l.groups)
