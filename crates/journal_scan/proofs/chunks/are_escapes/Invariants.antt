use Rattle.std.proofs.Common.{◌≡◌, true}
use Rattle.std.specs.Prelude.{nat_le}
use Rattle.std.specs.List.{list_all}
use Rattle.log_layout.specs.Chunks.{numbers_at}
use Rattle.journal_scan.proofs.chunks.are_escapes.Given as goal

abbrev pub invariant-loop-i : goal.invariant-loop-i
invariant-loop-i l = list_all (λ escape. nat_le escape 1) (numbers_at 80 16 l.i l.block) ≡ true
