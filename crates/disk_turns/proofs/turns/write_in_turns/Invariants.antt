use Rattle.std.proofs.Common.{ℕ, ◌≡◌, ◌≢◌, ◌*◌, ◌≤◌, ◌++◌, List, [], length}
use Rattle.drafts.specs.declared.change.Written.{Written}
use Rattle.shared_disk.specs.Disk.{Gains, Operation}
use Rattle.disk_turns.specs.Crashes.{IsBefore}
use Rattle.disk_turns.specs.Turns.{AreBrought, most_in_flight}
use Rattle.disk_turns.specs.Writing.{AreWritten}
use Rattle.disk_turns.proofs.turns.write_in_turns.Given as goal

abbrev pub invariant-loop-rest : goal.invariant-loop-rest
invariant-loop-rest g l = record {
  done : List Written;
  split : l.blocks ≡ done ++ l.rest;
  written : AreWritten (g.D.SharedDisk.state l.initial.disk) (g.D.SharedDisk.state l.disk) done;
  operations : List Operation;
  brought : AreBrought l.node done operations;
  going : l.rest ≢ [] → (more : List Written) (ops : List Operation) → AreBrought l.node more ops → AreBrought l.node (done ++ more) (operations ++ ops);
  turns : ℕ;
  whole : l.rest ≢ [] → length done ≡ turns * most_in_flight;
  gains : Gains (g.D.SharedDisk.list l.initial.disk) (g.D.SharedDisk.list l.disk) operations;
  none : done ≡ [] → (g.D.SharedDisk.state l.disk ≡ g.D.SharedDisk.state l.initial.disk) × (g.D.SharedDisk.list l.disk ≡ g.D.SharedDisk.list l.initial.disk);
  before : IsBefore (length done) l.armed;
  later : (i : ℕ) → g.D.SharedDisk.faults l.initial.disk i ≤ g.D.SharedDisk.faults l.disk i;
}

abbrev pub decreases-loop-rest : goal.decreases-loop-rest
decreases-loop-rest g l = length l.rest
