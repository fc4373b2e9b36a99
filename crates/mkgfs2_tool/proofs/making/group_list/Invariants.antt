use Rattle.std.proofs.Common.{◌≡◌, ◌*◌, length}
use Rattle.mkgfs2_tool.specs.Blocks.{entries_of}
use Rattle.mkgfs2_tool.proofs.making.group_list.Given as goal

abbrev pub invariant-loop-group : goal.invariant-loop-group
invariant-loop-group l = record {
  are : l.entries.items ≡ entries_of l.plan l.group;
  long : length l.entries.items ≡ 96 * l.group;
}
