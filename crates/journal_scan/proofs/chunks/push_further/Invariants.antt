use Rattle.std.proofs.Common.{◌≡◌, ◌++◌}
use Rattle.std.specs.Prelude.{map}
use Rattle.std.specs.List.{range_with_len}
use Rattle.log_layout.specs.Chunks.{further_part}
use Rattle.log_layout.specs.declared.due.Due.TheVariants as variant
use Rattle.journal_scan.proofs.chunks.push_further.Given as goal

abbrev pub invariant-loop-i : goal.invariant-loop-i
invariant-loop-i l = l.due.items ≡ l.initial.due.items ++ map (λ i. variant.Further (further_part l.size l.entries i)) (range_with_len 0 l.i)
