-- The clean header that ends the journal of a node that unmounts.
use Rattle.std.specs.Prelude.{true, Some}
use Rattle.log_layout.specs.Transactions.{after}
use Rattle.log_layout.specs.declared.log_header.LogHeader.{LogHeader}
use Rattle.log_values.specs.Flushing.{block_at, first_place}
use Rattle.log_values.specs.Log.{LogValue}

-- in the place behind the head, with the next sequence, and with its own place as tail
abbrev pub last_header : LogValue → LogHeader
last_header log = record {
  jid = log.journal.jid;
  sequence = after log.sequence;
  clean = true;
  tail = first_place log;
  blkno = first_place log;
  later = Some (record {
    nsec = 0;
    sec = log.journal.time;
    addr = block_at log.journal (first_place log);
    jinode = log.journal.jinode;
    statfs_addr = 0;
    quota_addr = 0;
    local_total = 0;
    local_free = 0;
    local_dinodes = 0;
  });
}
