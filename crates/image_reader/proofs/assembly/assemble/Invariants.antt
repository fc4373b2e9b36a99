use Rattle.std.proofs.Common.{◌≡◌, length, take, vec_len}
use Rattle.image_reader.specs.Assembled.{flat_found}
use Rattle.image_reader.proofs.Growing.{AreGrown}
use Rattle.image_reader.proofs.assembly.assemble.Given as goal

abbrev pub invariant-loop-child : goal.invariant-loop-child
invariant-loop-child l = record {
  left : l.found.items ≡ take (length l.found.items) l.initial.found.items;
  grown : AreGrown (flat_found l.top l.initial.found.items) (length l.found.items) l.trees.items;
}

abbrev pub decreases-loop-child : goal.decreases-loop-child
decreases-loop-child l = vec_len l.found
