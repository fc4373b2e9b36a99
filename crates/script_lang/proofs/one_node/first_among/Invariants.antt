use Rattle.std.proofs.Common.{◌≡◌, ◌+◌, map, drop}
use Rattle.script_lang.specs.Foreign.{is_own_line, first_not}
use Rattle.script_lang.proofs.one_node.first_among.Given as goal

abbrev pub invariant-loop-line : goal.invariant-loop-line
invariant-loop-line l = record {
  counted : l.number ≡ l.first + l.line-index;
  same : first_not l.first (map is_own_line l.lines) ≡ first_not l.number (map is_own_line (drop l.line-index l.lines));
}
