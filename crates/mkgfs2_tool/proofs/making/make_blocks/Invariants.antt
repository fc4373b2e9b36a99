use Rattle.std.proofs.Common.{◌≡◌, ◌≤◌, ℕ, length, false}
use Rattle.mkgfs2_tool.specs.Outcomes.{IsMadeUpTo}
use Rattle.mkgfs2_tool.proofs.making.make_blocks.Given as goal

abbrev pub invariant-loop-block : goal.invariant-loop-block
invariant-loop-block g l = record {
  made : IsMadeUpTo l.plan (g.D.SharedDisk.state l.initial.disk) (g.D.SharedDisk.state l.disk) (g.D.SharedDisk.list l.initial.disk) (g.D.SharedDisk.list l.disk) l.block;
  room : l.in_flight ≤ 512;
  count : length ((g.D.SharedDisk.state l.disk).in_flight 0) ≡ l.in_flight;
  open_ : (g.D.SharedDisk.state l.initial.disk).is_fenced 0 ≡ false;
  later : (j : ℕ) → g.D.SharedDisk.faults l.initial.disk j ≤ g.D.SharedDisk.faults l.disk j;
}
