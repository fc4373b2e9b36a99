use Rattle.std.proofs.Common.{◌≡◌, false}
use Rattle.std.specs.Prelude.{◌==◌}
use Rattle.std.specs.List.{list_any}
use Rattle.log_layout.specs.Chunks.{numbers_at}
use Rattle.journal_scan.proofs.entries.is_among.Given as goal

abbrev pub invariant-loop-i : goal.invariant-loop-i
invariant-loop-i l = list_any (λ n. n == l.number) (numbers_at 72 l.step l.i l.block) ≡ false
