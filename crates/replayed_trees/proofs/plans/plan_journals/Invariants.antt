use Rattle.shared_disk.specs.Disk.{ReadsOnly}
use Rattle.replayed_trees.proofs.SoFar.{IsSoFar}
use Rattle.replayed_trees.proofs.plans.plan_journals.Given as goal

abbrev pub invariant-loop-journal : goal.invariant-loop-journal
invariant-loop-journal g l = record {
  reads : ReadsOnly (g.D.SharedDisk.state l.fn.disk) (g.D.SharedDisk.state l.disk) (g.D.SharedDisk.list l.fn.disk) (g.D.SharedDisk.list l.disk) (g.D.SharedDisk.faults l.fn.disk) (g.D.SharedDisk.faults l.disk);
  so : IsSoFar (g.D.SharedDisk.state l.fn.disk) l.initial.marks l.journals l.journal-index l.plans.items l.marks;
}
