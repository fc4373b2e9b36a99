use Rattle.std.proofs.Common.{◌≡◌, ◌+◌, ◌≤◌, [], ◌++◌, length}
use Rattle.show_text.specs.Show.{tree_lines}
use Rattle.tree_lines.specs.Left.{lines_left, work_left}
use Rattle.tree_lines.proofs.append_tree.Given as goal

abbrev pub decreases-loop-dir : goal.decreases-loop-dir
decreases-loop-dir l = work_left l.stack.items

abbrev pub invariant-loop-dir : goal.invariant-loop-dir
invariant-loop-dir l = record {
  lines : l.text.items ++ lines_left [] l.stack.items l.names.items ≡ l.fn.text.items ++ tree_lines [] l.tree;
  count : length l.stack.items ≤ length l.names.items + 1;
}
