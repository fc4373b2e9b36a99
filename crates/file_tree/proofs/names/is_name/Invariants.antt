use Rattle.std.proofs.Common.{drop}
use Rattle.std.specs.Prelude.{◌↔◌}
use Rattle.std.specs.List.{AllByRecursion}
use Rattle.file_tree.specs.Names.{IsNameByte}
use Rattle.file_tree.proofs.names.is_name.Given as goal

abbrev pub invariant-loop-byte : goal.invariant-loop-byte
invariant-loop-byte l = record { same : AllByRecursion IsNameByte (drop l.byte-index l.bytes) ↔ AllByRecursion IsNameByte l.bytes }
