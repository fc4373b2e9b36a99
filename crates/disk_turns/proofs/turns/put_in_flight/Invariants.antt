use Rattle.std.proofs.Common.{ℕ, ◌≤◌, take}
use Rattle.shared_disk.specs.Disk.{Gains}
use Rattle.disk_turns.specs.Crashes.{IsBefore}
use Rattle.disk_turns.specs.Turns.{writes_of}
use Rattle.disk_turns.specs.Writing.{AreInFlight, flights_of}
use Rattle.disk_turns.proofs.turns.put_in_flight.Given as goal

abbrev pub invariant-loop-place : goal.invariant-loop-place
invariant-loop-place g l = record {
  fly : AreInFlight l.node (g.D.SharedDisk.state l.initial.disk) (g.D.SharedDisk.state l.disk) (flights_of (take l.place l.blocks));
  gains : Gains (g.D.SharedDisk.list l.initial.disk) (g.D.SharedDisk.list l.disk) (writes_of l.node (take l.place l.blocks));
  before : IsBefore l.place l.armed;
  later : (i : ℕ) → g.D.SharedDisk.faults l.initial.disk i ≤ g.D.SharedDisk.faults l.disk i;
}
