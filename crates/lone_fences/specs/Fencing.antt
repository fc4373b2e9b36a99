-- How a crashed node is fenced, and what it lost is told.
use Rattle.std.specs.Prelude.{ℕ, ◌≡◌, ◌⊎◌, IsTrue, List, [], ◌∷◌, ◌++◌, Option}
use Rattle.lost_calls.specs.Heads.{IsLeftBy, accepted, first_life}
use Rattle.lost_calls.specs.declared.heads.LeftHead.{LeftHead}
use Rattle.right_losses.specs.Kept.{kept_by}
use Rattle.run_rules.specs.Follows.{history_of}
use Rattle.run_rules.specs.Lives.{DiskHeads, upto_of}
use Rattle.script_lang.specs.declared.script.Client.{Client}
use Rattle.shared_disk.specs.Disk.{DiskState, Fence, Flight, Gains, IsOutcome, Operation, after_fence}
use Rattle.trace_text.specs.declared.item.TraceItem.{TraceItem}
use Rattle.trace_text.specs.declared.item.TraceItem.TheVariants as trace
use Rattle.lone_fences.specs.Heads.{head_on}
use Rattle.lone_fences.specs.declared.ends.FenceEnd.{FenceEnd}
use Rattle.lone_fences.specs.declared.ends.FenceEnd.TheVariants as end

-- ---- the items

-- these, and then node 1's crash
abbrev pub with_crash : List TraceItem → List TraceItem
with_crash items = items ++ trace.Crash 1 ∷ []

-- its fence behind that
abbrev pub with_fence : List TraceItem → List TraceItem
with_fence items = items ++ trace.Crash 1 ∷ trace.Fence 1 ∷ []

-- and the loss, which keeps the calls up to a number
abbrev pub with_loss : List TraceItem → ℕ → List TraceItem
with_loss items kept = items ++ trace.Crash 1 ∷ trace.Fence 1 ∷ trace.Lost 1 kept ∷ []

-- ---- the fence

-- each write in flight of the node became something, and the node is fenced
pub record IsFenced (d : DiskState) (list : Option (List Operation)) (d' : DiskState) (list' : Option (List Operation)) : Type 0 where
  pub became : List Flight
  pub outcome : IsOutcome d 1 became
  pub disk : d' ≡ after_fence d 1 became
  pub gains : Gains list list' (Fence 1 became ∷ [])

-- ---- the loss

-- The node was fenced, and its crash, the fence and the loss are told. A journal with these blocks at its places has a head behind the fence; by it, and by the sequence that the head had where the
-- node's own headers began, it has the calls up to a number; and the loss keeps those before the next one that changes something.
pub record HasFenced (d : DiskState) (list : Option (List Operation)) (items : List TraceItem) (blocks : List ℕ) (first : ℕ) (d' : DiskState) (list' : Option (List Operation)) (items' : List TraceItem) : Type 0 where
  pub fenced : IsFenced d list d' list'
  pub head : LeftHead
  pub is_head : IsTrue d'.tells → accepted head ≡ head_on d' blocks
  pub upto : ℕ
  pub has : (disks : DiskHeads) → IsLeftBy disks (with_fence items) head first → upto ≡ upto_of disks first_life (with_fence items)
  pub kept : ℕ
  pub keeps : (clients : List Client) → kept ≡ kept_by 1 upto (history_of clients items)
  pub told : items' ≡ with_loss items kept

-- ---- how it ends before that

-- nothing was done on the disk, and these are the items
pub record IsUntouched (d : DiskState) (list : Option (List Operation)) (d' : DiskState) (list' : Option (List Operation)) (told items' : List TraceItem) : Type 0 where
  pub disk : d' ≡ d
  pub operations : list' ≡ list
  pub are : items' ≡ told

-- the node is fenced, and that is the last item
pub record IsFencedLast (d : DiskState) (list : Option (List Operation)) (items : List TraceItem) (d' : DiskState) (list' : Option (List Operation)) (items' : List TraceItem) : Type 0 where
  pub fenced : IsFenced d list d' list'
  pub told : items' ≡ with_fence items

-- The crash is told, and the disk failed in the fence; it failed behind the fence, as the journal was read; or there was no memory, before any of that or behind the fence.
abbrev pub EndsAt : (d : DiskState) (list : Option (List Operation)) (items : List TraceItem) (d' : DiskState) (list' : Option (List Operation)) (items' : List TraceItem) → FenceEnd → Type 0
EndsAt d list items d' list' items' (end.NotFenced rise) = IsUntouched d list d' list' (with_crash items) items'
EndsAt d list items d' list' items' (end.ReadFailed block rise) = IsFencedLast d list items d' list' items'
EndsAt d list items d' list' items' end.NoMemory = IsUntouched d list d' list' items items' ⊎ IsFencedLast d list items d' list' items'
