use Rattle.table_changes.specs.Setting.{HasNumbersSet}
use Rattle.table_changes.proofs.numbers.set_numbers.Given as goal

abbrev pub invariant-loop-k : goal.invariant-loop-k
invariant-loop-k l = HasNumbersSet l.initial.bytes l.bytes l.start l.k l.number
