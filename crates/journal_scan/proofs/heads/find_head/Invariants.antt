use Rattle.std.proofs.Common.{◌≡◌}
use Rattle.log_layout.specs.Journal.{best_from}
use Rattle.journal_scan.specs.Images.{ring_of}
use Rattle.journal_scan.proofs.heads.find_head.Given as goal

abbrev pub invariant-loop-place : goal.invariant-loop-place
invariant-loop-place l = l.search ≡ record { place = l.place; best = best_from (ring_of l.j) 0 l.place }
