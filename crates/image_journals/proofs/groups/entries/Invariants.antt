use Rattle.std.proofs.Common.{◌≡◌, ◌++◌, length}
use Rattle.image_model.specs.Groups.{groups_in}
use Rattle.image_journals.proofs.groups.entries.Given as goal

abbrev pub invariant-loop-rest : goal.invariant-loop-rest
invariant-loop-rest l = groups_in l.content ≡ l.groups.items ++ groups_in l.rest

abbrev pub decreases-loop-rest : goal.decreases-loop-rest
decreases-loop-rest l = length l.rest
