-- Log headers: those of version 1, and those of version 2, which go on behind them. Places are in bytes from the block's start.
use Rattle.std.specs.Prelude.{ℕ, ◌==◌, nat_lt, if◌then◌else◌, List, [], ◌∷◌, length, drop, Option, None, Some, Result, Ok, Err}
use Rattle.std.specs.Int.{w32}
use Rattle.crc_words.specs.Remainder.{crc32c_raw_of}
use Rattle.gfs2_layout.specs.Bytes.{u32_at, u64_at, with_number}
use Rattle.gfs2_layout.specs.Structures.{answer}
use Rattle.gfs2_layout.specs.Structures.{log_read as front_read}
use Rattle.gfs2_layout.specs.Writing.{log_put as front_put}
use Rattle.gfs2_layout.specs.declared.fault.LayoutFault.{LayoutFault}
use Rattle.gfs2_layout.specs.declared.fault.LayoutFault.TheVariants.{Short, Hash}
use Rattle.gfs2_layout.specs.declared.log_header.LogHeader.{LogHeader as Front}
use Rattle.log_layout.specs.Fields.{Field, Four, Eight, with_fields}
use Rattle.log_layout.specs.declared.log_header.Later.{Later}
use Rattle.log_layout.specs.declared.log_header.LogHeader.{LogHeader}

-- ---- as they are read

-- the checksum of a header of version 2: the CRC-32C, from all ones and not inverted, of all that is behind the checksum
unfoldable pub crc_of : List ℕ → ℕ
crc_of bytes = crc32c_raw_of (drop 52 bytes)

abbrev pub later_in : List ℕ → Later
later_in bytes = record {
  nsec = u32_at 52 bytes;
  sec = u64_at 56 bytes;
  addr = u64_at 64 bytes;
  jinode = u64_at 72 bytes;
  statfs_addr = u64_at 80 bytes;
  quota_addr = u64_at 88 bytes;
  local_total = u64_at 96 bytes;
  local_free = u64_at 104 bytes;
  local_dinodes = u64_at 112 bytes;
}

-- where the checksum is zero the header is of version 1, and nothing behind it is read
abbrev pub later_of : List ℕ → Option Later
later_of bytes = if u32_at 48 bytes == 0 then None else Some (later_in bytes)

-- a checksum that isn't zero has to be right
abbrev pub crc_fault : List ℕ → Option LayoutFault
crc_fault bytes =
    if u32_at 48 bytes == 0 then None
    else if u32_at 48 bytes == crc_of bytes then None
    else Some (Hash (u32_at 48 bytes) (crc_of bytes))

abbrev pub with_later : Front → Option Later → LogHeader
with_later front later = record {
  jid = front.jid;
  sequence = front.sequence;
  clean = front.clean;
  tail = front.tail;
  blkno = front.blkno;
  later = later;
}

-- behind the first 48 bytes, which are read for themselves
abbrev pub read_behind : Result Front LayoutFault → List ℕ → Result LogHeader LayoutFault
read_behind (Err fault) bytes = Err fault
read_behind (Ok front) bytes = answer (crc_fault bytes) (with_later front (later_of bytes))

abbrev pub log_read : List ℕ → Result LogHeader LayoutFault
log_read bytes = if nat_lt (length bytes) 120 then Err Short else read_behind (front_read bytes) bytes

-- ---- as they are written

-- what its hash guards
abbrev pub front_of : LogHeader → Front
front_of h = record { jid = h.jid; sequence = h.sequence; clean = h.clean; tail = h.tail; blkno = h.blkno }

abbrev pub later_fields : Later → List Field
later_fields l =
    Four 52 l.nsec ∷
    Eight 56 l.sec ∷
    Eight 64 l.addr ∷
    Eight 72 l.jinode ∷
    Eight 80 l.statfs_addr ∷
    Eight 88 l.quota_addr ∷
    Eight 96 l.local_total ∷
    Eight 104 l.local_free ∷
    Eight 112 l.local_dinodes ∷ []

abbrev pub with_crc : List ℕ → List ℕ
with_crc bytes = with_number w32 48 (crc_of bytes) bytes

abbrev pub later_put : Option Later → List ℕ → List ℕ
later_put None bytes = bytes
later_put (Some later) bytes = with_crc (with_fields (later_fields later) bytes)

-- first the hash, then the checksum; behind all there are zeros
abbrev pub log_put : LogHeader → List ℕ → List ℕ
log_put h bytes = later_put h.later (front_put (front_of h) bytes)

-- what is read of a header that was written so: all, but where its checksum came out as zero, which says version 1
abbrev pub as_read : LogHeader → List ℕ → LogHeader
as_read h bytes = if u32_at 48 bytes == 0 then record h { later = None } else h
