use Rattle.std.proofs.Common.{◌≡◌, ◌+◌, ◌≤◌, ℕ, drop}
use Rattle.std.specs.Prelude.{IsTrue}
use Rattle.cluster_program.specs.Dirty.{dirty_on}
use Rattle.cluster_program.specs.Mounting.{ArePlaced}
use Rattle.shared_disk.specs.Disk.{ReadsOnly}
use Rattle.cluster_program.proofs.dirty.count_dirty.Given as goal

abbrev pub invariant-loop-journal : goal.invariant-loop-journal
invariant-loop-journal g l = record {
  reads : ReadsOnly (g.D.SharedDisk.state l.initial.disk) (g.D.SharedDisk.state l.disk) (g.D.SharedDisk.list l.initial.disk) (g.D.SharedDisk.list l.disk) (g.D.SharedDisk.faults l.initial.disk) (g.D.SharedDisk.faults l.disk);
  few : l.dirty ≤ l.journal-index;
  counted : IsTrue (g.D.SharedDisk.state l.initial.disk).tells
      → l.dirty + dirty_on (g.D.SharedDisk.state l.initial.disk) (drop l.journal-index l.journals) ≡ dirty_on (g.D.SharedDisk.state l.initial.disk) l.journals;
}
