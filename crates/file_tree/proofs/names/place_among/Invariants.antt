use Rattle.std.proofs.Common.{◌≡◌, ◌++◌, take, drop}
use Rattle.file_tree.specs.Tree.{with_name}
use Rattle.file_tree.proofs.names.place_among.Given as goal

abbrev pub invariant-loop-name : goal.invariant-loop-name
invariant-loop-name l = record {
  count : l.place ≡ l.name-index;
  split : with_name l.names l.bytes ≡ take l.name-index l.names ++ with_name (drop l.name-index l.names) l.bytes;
}
