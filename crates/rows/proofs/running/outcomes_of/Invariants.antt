use Rattle.std.specs.List.{AllByRecursion}
use Rattle.shared_disk.specs.Outcomes.{IsOfSize}
use Rattle.rows.proofs.running.outcomes_of.Given as goal

abbrev pub invariant-loop-word : goal.invariant-loop-word
invariant-loop-word l = AllByRecursion (IsOfSize l.size) l.outcomes.items
