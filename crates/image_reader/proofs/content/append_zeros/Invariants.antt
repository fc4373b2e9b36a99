use Rattle.std.proofs.Common.{◌≡◌, ◌++◌}
use Rattle.std.specs.Prelude.{replicate}
use Rattle.image_reader.proofs.content.append_zeros.Given as goal

abbrev pub invariant-loop-zero : goal.invariant-loop-zero
invariant-loop-zero l = l.bytes.items ≡ l.initial.bytes.items ++ replicate l._zero 0
