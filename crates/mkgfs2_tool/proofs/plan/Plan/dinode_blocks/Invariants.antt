use Rattle.std.proofs.Common.{◌≡◌, ◌≤◌, ◌+◌}
use Rattle.mkgfs2_tool.proofs.CountLaws.{dinodes_among}
use Rattle.mkgfs2_tool.proofs.plan.Plan.dinode_blocks.Given as goal

abbrev pub invariant-loop-number : goal.invariant-loop-number
invariant-loop-number l = record {
  so_far : l.count ≡ dinodes_among l.self l.group l.number;
  few : l.count ≤ 4 + l.number;
}
