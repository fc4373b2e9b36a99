-- What a replay does with a journal on a disk.
use Rattle.std.specs.Prelude.{ℕ, ◌≡◌, ⊤, List, Option, None, Some, Err}
use Rattle.std.specs.Option.{option_map}
use Rattle.journal_reads.specs.Reading.{HasFailedAt}
use Rattle.journal_reads.specs.declared.faults.ReadFault.{ReadFault}
use Rattle.journal_reads.specs.declared.faults.ReadFault.TheVariants as reading
use Rattle.journal_scan.specs.declared.fault.ScanFault.{ScanFault}
use Rattle.journal_scan.specs.declared.fault.ScanFault.TheVariants as scan
use Rattle.log_layout.specs.Chunks.{Logged}
use Rattle.log_layout.specs.Journal.{Ring, head_in}
use Rattle.log_layout.specs.Live.{IsReadable, live_in}
use Rattle.log_layout.specs.Transactions.{transactions_of}
use Rattle.log_layout.specs.declared.log_header.LogHeader.{LogHeader}
use Rattle.peer_replay.specs.Plans.{clean_header, put_home}
use Rattle.peer_replay.specs.declared.planned.Plan.{Plan}
use Rattle.journal_plans.specs.declared.faults.PlanFault.{PlanFault}
use Rattle.journal_plans.specs.declared.faults.PlanFault.TheVariants.{DiskFailed, NoHeader, BadChunk, NoMemory}

-- the bytes that go to a block, if some do
abbrev pub bytes_put : Plan → ℕ → Option (List ℕ)
bytes_put p block = option_map (λ (e : Logged). e.bytes) (put_home p.home.items block)

-- The plan of a journal, which can be read: exactly what is live goes home, and the clean header behind its head comes last.
pub record IsPlanOf (ring : Ring) (p : Plan) : Type 0 where
  pub readable : IsReadable ring
  pub live : (block : ℕ) → bytes_put p block ≡ live_in ring block
  pub clean : (head : LogHeader) × (head_in ring ≡ Some head) × (p.clean ≡ clean_header ring.places head)

-- why a journal has no plan: it has no header, or that place is bad; or it wasn't read
abbrev pub IsWhyNot : Ring → PlanFault → Type 0
IsWhyNot ring NoHeader = head_in ring ≡ None
IsWhyNot ring (BadChunk place) = (head : LogHeader) × (head_in ring ≡ Some head) × (transactions_of ring head ≡ Err place)
IsWhyNot ring (DiskFailed block rise) = ⊤
IsWhyNot ring NoMemory = ⊤

-- a failing disk is told only with a block of the journal with these blocks at its places, where the node's count rose so
abbrev pub HasCause : (blocks : List ℕ) (before now : ℕ) → PlanFault → Type 0
HasCause blocks before now (DiskFailed block rise) = HasFailedAt blocks before now block rise
HasCause blocks before now _ = ⊤

-- a fact for the place of a bad chunk
abbrev pub IfBadChunk : (ℕ → Type 0) → PlanFault → Type 0
IfBadChunk P (BadChunk place) = P place
IfBadChunk P _ = ⊤

-- the faults of reading and of planning, as those of both
abbrev pub of_read : ReadFault → PlanFault
of_read (reading.DiskFailed block rise) = DiskFailed block rise
of_read reading.NoMemory = NoMemory

abbrev pub of_scan : ScanFault → PlanFault
of_scan scan.NoHeader = NoHeader
of_scan (scan.BadChunk place) = BadChunk place
of_scan scan.NoMemory = NoMemory
