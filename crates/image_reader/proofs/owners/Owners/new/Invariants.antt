use Rattle.std.proofs.Common.{◌≡◌, vec_len}
use Rattle.std.specs.Prelude.{count_by, is_none}
use Rattle.image_reader.specs.Owning.{IsEmpty}
use Rattle.image_reader.proofs.owners.Owners.new.Given as goal

abbrev pub invariant-loop-block : goal.invariant-loop-block
invariant-loop-block l = record {
  len : vec_len l.entries ≡ l._block;
  empty : IsEmpty l.entries.items;
  free : count_by is_none l.entries.items ≡ l._block;
}
