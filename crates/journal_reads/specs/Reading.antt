-- A journal on a disk, read into memory.
use Rattle.std.specs.Prelude.{ℕ, ◌≡◌, ◌*◌, ◌<◌, IsTrue, List, Contains, length, get_or, ⊤}
use Rattle.fault_counts.specs.Causes.{WentUp}
use Rattle.fault_counts.specs.declared.Rise.{Rise}
use Rattle.log_layout.specs.Journal.{Ring}
use Rattle.shared_disk.specs.Blocks.{block_in}
use Rattle.shared_disk.specs.Disk.{DiskState, read_gives}
use Rattle.journal_reads.specs.declared.faults.ReadFault.{ReadFault}
use Rattle.journal_reads.specs.declared.faults.ReadFault.TheVariants.{DiskFailed, NoMemory}

-- the journal with these blocks at its places, as a node reads them
abbrev pub ring_read : DiskState → ℕ → List ℕ → Ring
ring_read s node blocks = record { size = s.size; places = length blocks; at = λ p. read_gives s node (get_or blocks p 0) }

-- these bytes are what stands at the first places, so many of them, one behind the other, as far as the disk tells it
pub record AreFirstPlaces (s : DiskState) (node : ℕ) (blocks : List ℕ) (count : ℕ) (bytes : List ℕ) : Type 0 where
  pub long : length bytes ≡ count * s.size
  pub each : IsTrue s.tells → (p : ℕ) → p < count → block_in s.size bytes p ≡ (ring_read s node blocks).at p

-- the disk failed at one of these blocks, and while the node's count went from `before` to `now` it rose so
abbrev pub HasFailedAt : (blocks : List ℕ) (before now block : ℕ) → Rise → Type 0
HasFailedAt blocks before now block rise = WentUp before now rise.before rise.after × Contains blocks block

-- a failing disk is told only with a block of the journal with these blocks at its places, where the node's count rose so
abbrev pub HasCause : (blocks : List ℕ) (before now : ℕ) → ReadFault → Type 0
HasCause blocks before now (DiskFailed block rise) = HasFailedAt blocks before now block rise
HasCause blocks before now NoMemory = ⊤
