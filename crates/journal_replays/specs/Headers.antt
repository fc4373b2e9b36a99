-- The clean header that ends a replay, as it is written.
use Rattle.std.specs.Prelude.{ℕ, ◌≡◌, ◌-◌, ⊤, false, List, get_or, Option, None, Some, Ok, replicate}
use Rattle.drafts.specs.declared.change.Written.{Written}
use Rattle.log_layout.specs.Headers.{as_read, log_put, log_read}
use Rattle.log_layout.specs.declared.log_header.LogHeader.{LogHeader}

-- the header with the number of the journal of this slot, and with what version 2 has besides: the block that it stands in, that of the journal's dinode, and
-- when it was written
abbrev pub filled : (block slot dinode time : ℕ) → LogHeader → LogHeader
filled block slot dinode time header = record header {
  jid = slot - 1;
  later = Some (record {
    nsec = 0;
    sec = time;
    addr = block;
    jinode = dinode;
    statfs_addr = 0;
    quota_addr = 0;
    local_total = 0;
    local_free = 0;
    local_dinodes = 0;
  });
}

-- its block, of so many bytes
abbrev pub clean_block : (size block slot dinode time : ℕ) → LogHeader → Written
clean_block size block slot dinode time header = record { block = block; plain = false; bytes = log_put (filled block slot dinode time header) (replicate size 0) }

-- the header, where there is one, is read from its block, of the journal of this slot with these blocks at its places, as it was written
abbrev pub IsHeaderRead : (size slot dinode : ℕ) (blocks : List ℕ) (time : ℕ) → Option LogHeader → Type 0
IsHeaderRead size slot dinode blocks time None = ⊤
IsHeaderRead size slot dinode blocks time (Some header) =
    let block = get_or blocks header.blkno 0 in
    let bytes = (clean_block size block slot dinode time header).bytes in
    log_read bytes ≡ Ok (as_read (filled block slot dinode time header) bytes)
