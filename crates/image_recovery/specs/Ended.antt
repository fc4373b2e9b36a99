-- What the journals of an image say once all are replayed.
use Rattle.std.specs.Prelude.{ℕ, ◌≡◌, ◌≢◌, ◌+◌, ◌^◌, ◌≤◌, ◌<◌, IsTrue, List, [], slice_get, length, get_or, unwrap_or, Option, None, Some}
use Rattle.disk_turns.specs.Turns.{Moment}
use Rattle.image_mount.specs.Mounted.{Journal}
use Rattle.image_replays.specs.Replays.{put_by}
use Rattle.journal_plans.specs.Plans.{IsPlanOf, bytes_put}
use Rattle.journal_reads.specs.Reading.{ring_read}
use Rattle.journal_replays.specs.Headers.{clean_block, filled}
use Rattle.log_layout.specs.Headers.{as_read}
use Rattle.log_layout.specs.Journal.{IsClean, head_in}
use Rattle.log_layout.specs.Laws.{HasNothingLive}
use Rattle.log_layout.specs.declared.log_header.LogHeader.{LogHeader}
use Rattle.peer_replay.specs.declared.planned.Plan.{Plan}
use Rattle.shared_disk.specs.Disk.{DiskState}
use Rattle.trace_text.specs.declared.item.TraceItem.{TraceItem}
use Rattle.image_recovery.specs.Recoveries.{AreHeadersRead, AreReplays, CanReplayAll}

-- The places of journals are in different blocks, those of one and those of two; and no plan puts a block home where one is.
pub record AreApart (journals : List Journal) (plans : List Plan) : Type 0 where
  pub own : (i p q : ℕ) (j : Journal) → slice_get journals i ≡ Some j → p < length j.blocks → q < length j.blocks → get_or j.blocks p 0 ≡ get_or j.blocks q 0 → p ≡ q
  pub others : (i k p q : ℕ) (j l : Journal) → i ≢ k → slice_get journals i ≡ Some j → slice_get journals k ≡ Some l → p < length j.blocks → q < length l.blocks
      → get_or j.blocks p 0 ≢ get_or l.blocks q 0
  pub homes : (i k p : ℕ) (j : Journal) (plan : Plan) → slice_get journals i ≡ Some j → slice_get plans k ≡ Some plan → p < length j.blocks → bytes_put plan (get_or j.blocks p 0) ≡ None

-- each plan is that of its journal on the disk, whose head has not the last sequence that there is
pub record AreTheirs (d : DiskState) (node : ℕ) (journals : List Journal) (plans : List Plan) : Type 0 where
  pub plan : (i : ℕ) (j : Journal) (p : Plan) → slice_get journals i ≡ Some j → slice_get plans i ≡ Some p → IsPlanOf (ring_read d node j.blocks) p
  pub low : (i : ℕ) (j : Journal) (head : LogHeader) → slice_get journals i ≡ Some j → head_in (ring_read d node j.blocks) ≡ Some head → head.sequence + 1 < 2 ^ 64

-- the head that the journal of a slot has once it is replayed by a plan: the plan's header, as it is read in the block where it was written, or the one that it had
abbrev pub head_left : (size slot time : ℕ) → Journal → Option LogHeader → LogHeader → LogHeader
head_left size slot time j None head = head
head_left size slot time j (Some header) head =
    let block = get_or j.blocks header.blkno 0 in
    as_read (filled block slot j.dinode time header) (clean_block size block slot j.dinode time header).bytes

-- from one disk to the other the journal of this slot ended: its head is the one that is left, which is clean; it can be read, and nothing is live in it; and no more than one sequence was begun
pub record HasEnded (before after : DiskState) (node slot time : ℕ) (j : Journal) (p : Plan) : Type 0 where
  pub clean : IsClean (ring_read after node j.blocks)
  pub nothing : HasNothingLive (ring_read after node j.blocks)
  pub headed : (head : LogHeader) → head_in (ring_read before node j.blocks) ≡ Some head → head_in (ring_read after node j.blocks) ≡ Some (head_left before.size slot time j p.clean head)
  pub sequence : (head now : LogHeader) → head_in (ring_read before node j.blocks) ≡ Some head → head_in (ring_read after node j.blocks) ≡ Some now → now.sequence ≤ head.sequence + 1

-- Once all journals of a disk that tells its blocks are replayed by their plans, each of them has ended.
abbrev pub ReplayedHaveEnded : Type 0
ReplayedHaveEnded =
    (node time : ℕ) (before after : Moment) (journals : List Journal) (plans : List Plan) (items : List TraceItem) → IsTrue before.disk.tells → before.disk.in_flight node ≡ []
    → CanReplayAll before.disk journals plans → AreTheirs before.disk node journals plans → AreApart journals plans → AreHeadersRead before.disk.size 1 time journals plans
    → AreReplays node 1 time before journals plans after items → (i : ℕ) (j : Journal) (p : Plan) → slice_get journals i ≡ Some j → slice_get plans i ≡ Some p
    → HasEnded before.disk after.disk node (i + 1) time j p

-- ---- and each other block

-- no block is put home by two of these plans
abbrev pub AreOnce : List Plan → Type 0
AreOnce plans = (i k b : ℕ) (p q : Plan) (bytes : List ℕ) → i ≢ k → slice_get plans i ≡ Some p → slice_get plans k ≡ Some q → bytes_put p b ≡ Some bytes → bytes_put q b ≡ None

-- the block is not that of a header which a replay writes
abbrev pub IsNoHeader : ℕ → List Journal → List Plan → Type 0
IsNoHeader b journals plans = (i : ℕ) (j : Journal) (p : Plan) (h : LogHeader) → slice_get journals i ≡ Some j → slice_get plans i ≡ Some p → p.clean ≡ Some h → get_or j.blocks h.blkno 0 ≢ b

-- Once all journals of a disk that tells its blocks are replayed by their plans, each block but those of the headers has what is put home there, or else what it had.
abbrev pub ReplayedIsLeft : Type 0
ReplayedIsLeft =
    (node time : ℕ) (before after : Moment) (journals : List Journal) (plans : List Plan) (items : List TraceItem) → IsTrue before.disk.tells → AreTheirs before.disk node journals plans → AreOnce plans
    → AreReplays node 1 time before journals plans after items → (b : ℕ) → IsNoHeader b journals plans → after.disk.block_at b ≡ unwrap_or (put_by plans b) (before.disk.block_at b)
