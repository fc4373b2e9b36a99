-- The head of a journal on a disk, as the run reads it.
use Rattle.std.specs.Prelude.{ℕ, false, List, get_or, Option, None, Some}
use Rattle.journal_reads.specs.Reading.{ring_read}
use Rattle.log_layout.specs.Journal.{head_in}
use Rattle.log_layout.specs.declared.log_header.LogHeader.{LogHeader}
use Rattle.run_rules.specs.Lives.{AcceptedHead}
use Rattle.shared_disk.specs.Disk.{DiskState}

-- a header, by the block of its place; where there is none, none of any life
abbrev pub accepted_as : List ℕ → Option LogHeader → AcceptedHead
accepted_as blocks None = record { block = 0; sequence = 0; is_clean = false }
accepted_as blocks (Some h) = record { block = get_or blocks h.blkno 0; sequence = h.sequence; is_clean = h.clean }

-- that of the journal with these blocks at its places
abbrev pub head_on : DiskState → List ℕ → AcceptedHead
head_on d blocks = accepted_as blocks (head_in (ring_read d 0 blocks))
