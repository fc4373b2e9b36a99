-- Why a journal on a disk isn't replayed.
use Rattle.std.specs.Prelude.{ℕ, ◌≡◌, ◌<◌, ⊤, List, length, None, Some, Err, get_or}
use Rattle.journal_reads.specs.Reading.{HasFailedAt}
use Rattle.journal_plans.specs.declared.faults.PlanFault.{PlanFault}
use Rattle.journal_plans.specs.declared.faults.PlanFault.TheVariants as plan
use Rattle.journal_scan.specs.Numbers.{IsNumberAt}
use Rattle.log_layout.specs.Journal.{Ring, head_in}
use Rattle.log_layout.specs.Live.{live_in}
use Rattle.log_layout.specs.Transactions.{transactions_of}
use Rattle.log_layout.specs.declared.log_header.LogHeader.{LogHeader}
use Rattle.replay_marks.specs.Marking.{mark_of}
use Rattle.replay_marks.specs.declared.marks.Mark.{Mark}
use Rattle.replay_marks.specs.declared.marks.Mark.TheVariants.{Barred, Live}
use Rattle.replay_looks.specs.declared.faults.LookFault.{LookFault}
use Rattle.replay_looks.specs.declared.faults.LookFault.TheVariants.{Damaged, DiskFailed, NoMemory}

-- The journal, with its dinode in this block and these blocks at its places, breaks a rule by itself: it has no header, or a bad chunk.
pub data BreaksAlone (ring : Ring) (dinode : ℕ) (blocks : List ℕ) : ℕ → ℕ → Type 0 where
  headless : head_in ring ≡ None → BreaksAlone ring dinode blocks 16 dinode
  bad_chunk : (head : LogHeader) (place : ℕ) → head_in ring ≡ Some head → transactions_of ring head ≡ Err place → place < length blocks → BreaksAlone ring dinode blocks 17 (get_or blocks place 0)

-- Or it breaks one by what is live: a block that may not be written, told at the block of the journal that has its number; or one that is live in a
-- journal before.
pub data BreaksByLive (ring : Ring) (blocks : List ℕ) (marks : List Mark) : ℕ → ℕ → Type 0 where
  stray : (number place : ℕ) (bytes : List ℕ) → live_in ring number ≡ Some bytes → mark_of marks number ≡ Barred → IsNumberAt ring number place
      → BreaksByLive ring blocks marks 2 (get_or blocks place 0)
  twice : (number : ℕ) (bytes : List ℕ) → live_in ring number ≡ Some bytes → mark_of marks number ≡ Live → BreaksByLive ring blocks marks 20 number

pub data Breaks (ring : Ring) (dinode : ℕ) (blocks : List ℕ) (marks : List Mark) : ℕ → ℕ → Type 0 where
  alone : (rule block : ℕ) → BreaksAlone ring dinode blocks rule block → Breaks ring dinode blocks marks rule block
  by_live : (rule block : ℕ) → BreaksByLive ring blocks marks rule block → Breaks ring dinode blocks marks rule block

-- why it isn't replayed
abbrev pub IsStopped : Ring → ℕ → List ℕ → List Mark → LookFault → Type 0
IsStopped ring dinode blocks marks (Damaged block rule) = Breaks ring dinode blocks marks rule block
IsStopped ring dinode blocks marks (DiskFailed block rise) = ⊤
IsStopped ring dinode blocks marks NoMemory = ⊤

-- the same where it can be read, and this block, which is live in it, may not be written
abbrev pub IsHindered : Ring → ℕ → List ℕ → ℕ → LookFault → Type 0
IsHindered ring dinode blocks number fault = (marks : List Mark) → mark_of marks number ≡ Barred → IsStopped ring dinode blocks marks fault

-- a failing disk is told only with a block of the journal with these blocks at its places, where the node's count rose so
abbrev pub HasCause : (blocks : List ℕ) (before now : ℕ) → LookFault → Type 0
HasCause blocks before now (DiskFailed block rise) = HasFailedAt blocks before now block rise
HasCause blocks before now _ = ⊤

-- the fault of a journal without a plan
abbrev pub told_of : ℕ → List ℕ → PlanFault → LookFault
told_of dinode blocks (plan.DiskFailed block rise) = DiskFailed block rise
told_of dinode blocks plan.NoHeader = Damaged dinode 16
told_of dinode blocks (plan.BadChunk place) = Damaged (get_or blocks place 0) 17
told_of dinode blocks plan.NoMemory = NoMemory
