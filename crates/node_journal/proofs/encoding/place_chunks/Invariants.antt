-- Those so far are at their places, and the next goes behind them.
use Rattle.std.proofs.Common.{◌≡◌, ◌<◌, map, take}
use Rattle.log_layout.specs.Journal.{Placed}
use Rattle.journal_scan.specs.Said.{says}
use Rattle.node_journal.specs.Encoding.{chunks}
use Rattle.node_journal.specs.Places.{place_on, placed_from}
use Rattle.node_journal.proofs.encoding.place_chunks.Given as goal

abbrev pub invariant-loop-index : goal.invariant-loop-index
invariant-loop-index l = record {
  placed : map (λ b. let p : Placed = record { place = b.0; bytes = b.1.items } in p) l.placed.items ≡ placed_from l.at.length l.at.first (take l.index (chunks l.block_size l.at.jid (says l.t)));
  place : l.place ≡ place_on l.at.length l.at.first l.index;
  inside : l.place < l.at.length;
}
