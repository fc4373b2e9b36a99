use Rattle.image_reader.proofs.directory.check_twins.Given as goal

abbrev pub invariant-loop-entry : goal.invariant-loop-entry
invariant-loop-entry l = Unit {0}
