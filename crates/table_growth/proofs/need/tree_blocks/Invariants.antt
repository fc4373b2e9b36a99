use Rattle.std.proofs.Common.{◌≡◌, ◌*◌, ◌≤◌}
use Rattle.table_growth.specs.Tables.{tree_blocks}
use Rattle.table_growth.proofs.need.tree_blocks.Given as goal

abbrev pub invariant-loop-level : goal.invariant-loop-level
invariant-loop-level l = record {
  same : l.all ≡ tree_blocks l.size l.level l.count;
  most : l.all ≤ l.level * l.count;
}
