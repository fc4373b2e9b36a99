use Rattle.std.proofs.Common.{ℕ, ◌≡◌, ◌≤◌}
use Rattle.lone_answers.specs.Reading.{HasRead}
use Rattle.lone_answers.proofs.Lacking.{lacked_count}
use Rattle.lone_answers.proofs.answering.answer_call.Given as goal

abbrev pub invariant-loop-found : goal.invariant-loop-found
invariant-loop-found g l = record {
  same : g.D.SharedDisk.state l.disk ≡ g.D.SharedDisk.state l.initial.disk;
  list : g.D.SharedDisk.list l.disk ≡ g.D.SharedDisk.list l.initial.disk;
  later : (i : ℕ) → g.D.SharedDisk.faults l.initial.disk i ≤ g.D.SharedDisk.faults l.disk i;
  read : HasRead (g.D.SharedDisk.state l.initial.disk) l.initial.view l.view;
  size : l.view.size ≡ l.initial.view.size;
  groups : l.view.groups ≡ l.initial.view.groups;
}

abbrev pub decreases-loop-found : goal.decreases-loop-found
decreases-loop-found g l = lacked_count l.view.blocks (g.D.SharedDisk.state l.initial.disk).count
