use Rattle.std.proofs.Common.{ℕ, ◌≡◌, ◌≤◌, take}
use Rattle.shared_disk.specs.Disk.{IsIdle}
use Rattle.disk_turns.specs.Crashes.{Awaits}
use Rattle.disk_turns.specs.Turns.{moment}
use Rattle.journal_replays.specs.Crashes.{crash_of}
use Rattle.journal_replays.specs.Replays.{IsSameDisk}
use Rattle.image_recovery.specs.Recoveries.{HaveReplayed}
use Rattle.image_recovery.proofs.recovering.replay_journals.Given as goal

abbrev pub invariant-loop-place : goal.invariant-loop-place
invariant-loop-place g l = record {
  replayed : HaveReplayed l.node l.time (moment (g.D.SharedDisk.state l.initial.disk) (g.D.SharedDisk.list l.initial.disk)) (moment (g.D.SharedDisk.state l.disk) (g.D.SharedDisk.list l.disk))
      (take l.place l.journals) (take l.place l.plans) l.initial.items.items l.items.items;
  same : IsSameDisk (g.D.SharedDisk.state l.initial.disk) (g.D.SharedDisk.state l.disk);
  idle : IsIdle (g.D.SharedDisk.state l.disk);
  crash : crash_of l.node l.left l.items.items ≡ crash_of l.node l.fn.armed l.initial.items.items;
  awaits : Awaits l.left;
  later : (i : ℕ) → g.D.SharedDisk.faults l.initial.disk i ≤ g.D.SharedDisk.faults l.disk i;
}
