use Rattle.std.proofs.Common.{drop}
use Rattle.cluster_program.specs.Mounting.{ArePlaced}
use Rattle.cluster_program.proofs.beginning.first_misplaced.Given as goal

abbrev pub invariant-loop-journal : goal.invariant-loop-journal
invariant-loop-journal l = record {
  all : ArePlaced l.count (drop l.journal-index l.journals) → ArePlaced l.count l.journals;
  rest : ArePlaced l.count l.journals → ArePlaced l.count (drop l.journal-index l.journals);
}
