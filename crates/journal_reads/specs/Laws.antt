-- Laws of journals on a disk.
use Rattle.std.specs.Prelude.{ℕ, ◌<◌, IsTrue, List}
use Rattle.std.specs.List.{All}
use Rattle.log_layout.specs.Journal.{IsWhole}
use Rattle.shared_disk.specs.Disk.{DiskState, IsSound}
use Rattle.journal_reads.specs.Reading.{ring_read}

-- a journal on a disk that tells its blocks has whole blocks
abbrev pub RingsReadAreWhole : Type 0
RingsReadAreWhole = (s : DiskState) (node : ℕ) (blocks : List ℕ) → IsSound s → IsTrue s.tells → All (λ b. b < s.count) blocks → IsWhole (ring_read s node blocks)
