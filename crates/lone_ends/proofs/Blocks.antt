-- The clean header that ends a replay, at the place behind a log's head.
use Rattle.std.proofs.Common.{◌≡◌, ℕ, ◌+◌, ◌<◌, true, List, Ok, sym, ap, ◌∙◌}
use Rattle.std.specs.Prelude.{◌^◌}
use Rattle.journal_replays.specs.Headers.{clean_block, filled}
use Rattle.log_layout.specs.Headers.{as_read, log_read}
use Rattle.log_layout.specs.Journal.{next}
use Rattle.log_layout.specs.Transactions.{after}
use Rattle.log_layout.specs.declared.log_header.LogHeader.{LogHeader}
use Rattle.log_layout.proofs.BestHeaders.{accepted_there}
use Rattle.log_values.specs.Flushing.{first_place}
use Rattle.log_values.specs.Log.{LogValue}
use Rattle.lone_logs.specs.Laws.{IsHeadAt}
use Rattle.lone_logs.proofs.Remaining.{as_read_at}
use Rattle.peer_replay.specs.Plans.{clean_after}
use Rattle.lone_ends.specs.Ends.{CleanBlocksAreLast, IsLastHeader}

module _ (log : LogValue) (head : LogHeader) (block slot dinode time : ℕ) (place : head.blkno ≡ log.head) (sequence : head.sequence ≡ log.sequence) where
  abbrev written : LogHeader
  written = filled block slot dinode time (clean_after log.journal.length head)

  abbrev bytes : List ℕ
  bytes = (clean_block log.journal.size block slot dinode time (clean_after log.journal.length head)).bytes

  at : IsHeadAt (as_read written bytes) (next log.journal.length head.blkno) (after head.sequence) true
  at = as_read_at written bytes

  last_header : log.sequence + 1 < 2 ^ 64 → log_read bytes ≡ Ok (as_read written bytes) → IsLastHeader log bytes
  last_header more reads = record {
    header = as_read written bytes;
    reads = sym (accepted_there (first_place log) bytes (as_read written bytes) (sym reads) (at.place ∙ ap (next log.journal.length) place));
    sequence = at.sequence ∙ ap after sequence;
    more = more;
    clean = at.clean;
  }

pub clean_blocks_are_last : CleanBlocksAreLast
clean_blocks_are_last log head block slot dinode time place sequence more reads = last_header log head block slot dinode time place sequence more reads
