use Rattle.std.proofs.Common.{◌≡◌, ◌+◌, ◌≤◌, [], length}
use Rattle.std.specs.List.{AllByRecursion}
use Rattle.file_tree.specs.Names.{IsNameByte}
use Rattle.file_tree.specs.PathText.{names_read, after_names}
use Rattle.file_tree.proofs.path.names_of.Given as goal

abbrev pub invariant-loop-rest : goal.invariant-loop-rest
invariant-loop-rest l = record {
  read : after_names l.names.items (names_read l.start l.name.items l.at l.rest) ≡ names_read 1 [] 1 l.text;
  plain : AllByRecursion IsNameByte l.name.items;
  short : length l.name.items ≤ 255;
  place : l.at + length l.rest ≡ 1 + length l.text;
}

abbrev pub decreases-loop-rest : goal.decreases-loop-rest
decreases-loop-rest l = length l.rest
