use Rattle.std.proofs.Common.{◌≡◌, ◌*◌, length}
use Rattle.std.specs.Prelude.{flat_map}
use Rattle.std.specs.List.{range_with_len}
use Rattle.table_files.specs.Files.{table_block}
use Rattle.table_changes.proofs.doubling.table_bytes.Given as goal

abbrev pub invariant-loop-index : goal.invariant-loop-index
invariant-loop-index l = record {
  long : length l.bytes.items ≡ l.index * l.size;
  all : l.bytes.items ≡ flat_map (table_block l.size l.headers l.pointers) (range_with_len 0 l.index);
}
