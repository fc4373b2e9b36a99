-- Laws of the runs of one node with its log: what remains of one, told by its items.
use Rattle.std.specs.Prelude.{ℕ, ◌≡◌, ◌⊎◌, ◌≤◌, ◌++◌, true, List, [], ◌∷◌, drop, length, take, Option, Some}
use Rattle.std.specs.List.{AllByRecursion}
use Rattle.cluster_history.specs.History.{IsNumbered, KeepsSynced, Legal, calls_of, tree_of}
use Rattle.cluster_history.specs.Losses.{LossIsRight}
use Rattle.file_tree.specs.Tree.{Tree}
use Rattle.image_machine.specs.Volumes.{Volume, volume_of}
use Rattle.image_model.specs.Image.{Image, image_of}
use Rattle.image_model.specs.Owners.{Owners}
use Rattle.image_model.specs.Replays.{StandsReplayed}
use Rattle.image_model.specs.Stands.{Layout}
use Rattle.journal_outcomes.specs.Disks.{flown_by}
use Rattle.journal_outcomes.specs.Images.{IsImageOutcome, NoFalseHeader, ring_at}
use Rattle.log_layout.specs.Journal.{head_in}
use Rattle.log_layout.specs.declared.log_header.LogHeader.{LogHeader}
use Rattle.log_values.specs.Log.{Journal}
use Rattle.lone_images.specs.Lone.{begun_on}
use Rattle.lone_view.specs.Seeing.{Lone}
use Rattle.logged_steps.specs.Disks.{disk_after, first_told}
use Rattle.logged_steps.specs.Ends.{EndsTo, FliesClean, clean_item, with_clean}
use Rattle.logged_steps.specs.Fails.{FailsTo}
use Rattle.logged_steps.specs.Laws.{CameBy}
use Rattle.logged_steps.specs.LoggedLaws.{IsInItsBlocks}
use Rattle.logged_steps.specs.Points.{Point, state_of}
use Rattle.logged_steps.specs.Starts.{IsAtRest, starting}
use Rattle.logged_steps.specs.Steps.{Steps}
use Rattle.logged_steps.specs.NodeEnds.{IsDone}
use Rattle.logged_steps.specs.States.{trees_on}
use Rattle.lone_machine.specs.Alone.{Begun}
use Rattle.run_rules.specs.Follows.{history_of}
use Rattle.right_losses.specs.Kept.{kept_by}
use Rattle.run_rules.specs.Lives.{DiskHeads, TraceKeptRight, head_of, own_from, remains, upto_of}
use Rattle.script_lang.specs.declared.script.Client.{Client}
use Rattle.shared_disk.specs.Disk.{DiskState, Flight, IsOutcome, Operation, after_barrier, after_fence}
use Rattle.trace_text.specs.declared.item.TraceItem.{TraceItem}
use Rattle.trace_text.specs.declared.item.TraceItem.TheVariants as trace
use Rattle.logged_runs.specs.Ends.{HasEndedAs}
use Rattle.logged_runs.specs.Heads.{HasFirst, IsAcceptedIn}
use Rattle.logged_runs.specs.Standing.{AreCleanAsTold, IsLeftAsTold, StandsAsTold}
use Rattle.logged_runs.specs.Starts.{BeginsAt, IsOfReplay, only_life}

-- ---- the start

-- so a run begins on a disk at rest, whatever was replayed there
abbrev pub RunsBeginSo : Type 0
RunsBeginSo = (disk : DiskState) (o : Owners) (l : Layout) (t : Tree) (d : ℕ) (journal : Journal) (head : LogHeader) (view : Lone) (clients : List Client) (list : Option (List Operation)) (replays : List TraceItem)
    → IsAtRest disk o l t d journal head view → AllByRecursion IsOfReplay replays
    → BeginsAt (volume_of (image_of disk) l) (begun_on (image_of disk) o l t) d clients (starting disk list journal head view (trace.Join 1 ∷ replays))

-- ---- its calls

-- The history of the items is numbered, has as many calls as the node answered, and is legal.
pub record HasItsCalls (clients : List Client) (start : Tree) (p : Point) : Type 0 where
  pub numbered : IsNumbered (history_of clients p.items)
  pub legal : Legal (history_of clients p.items) start
  pub count : calls_of 1 (history_of clients p.items) ≡ p.numbers.answered

abbrev pub CallsAreCounted : Type 0
CallsAreCounted = (v : Volume) (s : Begun (trees_on v)) (d : ℕ) (clients : List Client) (time : ℕ) (a p : Point) → BeginsAt v s d clients a → Steps time a p → HasItsCalls clients s.tree p

-- ---- an outcome

-- the node's writes in flight to the disk may have become this, with no false header
pub record MayLeave (v : Volume) (disk : DiskState) (left : Image) : Type 0 where
  pub outcome : IsImageOutcome (image_of disk) (flown_by disk 1) left
  pub no_false : NoFalseHeader (image_of disk) v.layout (flown_by disk 1) left

-- ---- at a front of the items

-- where the run is, also behind a write that failed and has no item
abbrev pub WhatRemainsIsTold : Type 0
WhatRemainsIsTold = (v : Volume) (s : Begun (trees_on v)) (d : ℕ) (clients : List Client) (time : ℕ) (a p q : Point) (disks : DiskHeads) (left : Image) → BeginsAt v s d clients a → Steps time a p → FailsTo time p q
    → HasFirst v d a disks.behind → MayLeave v q.disk left → IsAcceptedIn v d left (disks.now 1) → IsLeftAsTold v d clients disks q.items s.tree left

-- and behind each front of its items, of the disk as it was there
pub record FrontStands (v : Volume) (s : Begun (trees_on v)) (d : ℕ) (clients : List Client) (time : ℕ) (a p : Point) (count : ℕ) : Type 0 where
  pub came : CameBy time a p count
  pub stands : (disks : DiskHeads) (left : Image) → HasFirst v d a disks.behind → MayLeave v came.point.disk left → IsAcceptedIn v d left (disks.now 1)
      → IsLeftAsTold v d clients disks (take count p.items) s.tree left

abbrev pub FrontsStand : Type 0
FrontsStand = (v : Volume) (s : Begun (trees_on v)) (d : ℕ) (clients : List Client) (time : ℕ) (a p : Point) (count : ℕ) → BeginsAt v s d clients a → Steps time a p → length a.items ≤ count → count ≤ length p.items
    → FrontStands v s d clients time a p count

-- So it is of each front of the items, and of the disk as the operations that these tell have made it.
abbrev pub PrefixesStand : Type 0
PrefixesStand = (v : Volume) (s : Begun (trees_on v)) (d : ℕ) (clients : List Client) (time : ℕ) (a p : Point) (count : ℕ) (was operations : List Operation) (disks : DiskHeads) (left : Image) → BeginsAt v s d clients a → Steps time a p
    → a.list ≡ Some was → p.list ≡ Some (was ++ operations) → length a.items ≤ count → count ≤ length p.items → HasFirst v d a disks.behind
    → MayLeave v (disk_after a.disk (first_told (drop (length a.items) (take count p.items)) operations)) left → IsAcceptedIn v d left (disks.now 1) → IsLeftAsTold v d clients disks (take count p.items) s.tree left

-- ---- at its end

-- while the clean header is in flight with which the run ends, and behind the barrier that brings it to its place
abbrev pub EndsAreTold : Type 0
EndsAreTold = (v : Volume) (s : Begun (trees_on v)) (d : ℕ) (clients : List Client) (time : ℕ) (a p q : Point) (disks : DiskHeads) (left : Image) → BeginsAt v s d clients a → Steps time a p → EndsTo p q
    → HasFirst v d a disks.behind → MayLeave v q.disk left → IsAcceptedIn v d left (disks.now 1) → IsLeftAsTold v d clients disks q.items s.tree left

-- once it is in its place
abbrev pub RunsEnd : Type 0
RunsEnd = (v : Volume) (s : Begun (trees_on v)) (d : ℕ) (clients : List Client) (time : ℕ) (a p : Point) (bytes : List ℕ) → BeginsAt v s d clients a → Steps time a p → FliesClean p bytes
    → HasEndedAs v clients (p.items ++ clean_item p ∷ trace.Barrier 1 ∷ []) s.tree (image_of (after_barrier (with_clean p bytes) 1))

-- and without one, where nothing was ever written to its journal
abbrev pub CleanRunsEnd : Type 0
CleanRunsEnd = (v : Volume) (s : Begun (trees_on v)) (d : ℕ) (clients : List Client) (time : ℕ) (a p : Point) → BeginsAt v s d clients a → Steps time a p → IsDone (state_of p) → p.log.clean ≡ true
    → HasEndedAs v clients p.items s.tree (image_of p.disk)

-- ---- its head

-- The node's journal is in its blocks in this image, and has an accepted head.
pub record HasItsJournal (v : Volume) (d : ℕ) (left : Image) : Type 0 where
  pub header : LogHeader
  pub headed : head_in (ring_at left d) ≡ Some header
  pub blocks : IsInItsBlocks v d left

-- so it is, wherever a run is, in each outcome
abbrev pub HeadsAreThere : Type 0
HeadsAreThere = (v : Volume) (s : Begun (trees_on v)) (d : ℕ) (clients : List Client) (time : ℕ) (a p q : Point) (left : Image) → BeginsAt v s d clients a → Steps time a p → FailsTo time p q ⊎ EndsTo p q → MayLeave v q.disk left
    → HasItsJournal v d left

-- ---- behind its stop

-- node 1 crashes, or withdraws
abbrev pub IsStop : TraceItem → Type 0
IsStop (trace.Crash node) = node ≡ 1
IsStop (trace.Withdraw node before after) = node ≡ 1
IsStop _ = ⊥

-- also with the stop, until the fence
abbrev pub StopsAreTold : Type 0
StopsAreTold = (v : Volume) (s : Begun (trees_on v)) (d : ℕ) (clients : List Client) (time : ℕ) (a p q : Point) (x : TraceItem) (disks : DiskHeads) (left : Image) → BeginsAt v s d clients a → Steps time a p → FailsTo time p q ⊎ EndsTo p q
    → IsStop x → HasFirst v d a disks.behind → MayLeave v q.disk left → IsAcceptedIn v d left (disks.now 1) → IsLeftAsTold v d clients disks (q.items ++ x ∷ []) s.tree left

-- these items, and then the stop and the fence; and the loss, which keeps the calls up to k
abbrev pub to_fence : TraceItem → List TraceItem → List TraceItem
to_fence x items = items ++ x ∷ trace.Fence 1 ∷ []

abbrev pub to_loss : TraceItem → List TraceItem → ℕ → List TraceItem
to_loss x items k = items ++ x ∷ trace.Fence 1 ∷ trace.Lost 1 k ∷ []

-- With a right loss each life has its loss, so that what remains is the history. This is legal, and keeps what was synced, each loss in it is right, and the image stands, its journals replayed, for its
-- tree.
pub record StandsLost (clients : List Client) (disks : DiskHeads) (x : TraceItem) (items : List TraceItem) (start : Tree) (left : Image) (k : ℕ) : Type 0 where
  pub all : remains clients disks (to_loss x items k) ≡ history_of clients (to_loss x items k)
  pub legal : Legal (history_of clients (to_loss x items k)) start
  pub kept : KeepsSynced (history_of clients (to_loss x items k))
  pub right : TraceKeptRight clients disks.behind (to_loss x items k)
  pub stands : StandsReplayed left (tree_of (history_of clients (to_loss x items k)) start)
  pub told : StandsAsTold clients disks (to_loss x items k) start left

-- the number of the last call that the head has which the fence left
abbrev pub fenced_upto : DiskHeads → TraceItem → List TraceItem → ℕ
fenced_upto disks x items = upto_of disks only_life (to_fence x items)

-- Behind the fence what remains stands; and so it does with a right loss. One is right: that which keeps the calls before the next one that changes something.
pub record StandsFenced (v : Volume) (d : ℕ) (clients : List Client) (disks : DiskHeads) (x : TraceItem) (items : List TraceItem) (start : Tree) (left : Image) : Type 0 where
  pub told : IsLeftAsTold v d clients disks (to_fence x items) start left
  pub lost : (k : ℕ) → LossIsRight (history_of clients items) 1 (fenced_upto disks x items) k → StandsLost clients disks x items start left k
  pub journals : (k : ℕ) → AreCleanAsTold v d disks (to_loss x items k) left
  pub right : LossIsRight (history_of clients items) 1 (fenced_upto disks x items) (kept_by 1 (fenced_upto disks x items) (history_of clients items))

-- so it is of the image on the disk there, whose head the disks have behind the fence's item
abbrev pub FencesAreTold : Type 0
FencesAreTold = (v : Volume) (s : Begun (trees_on v)) (d : ℕ) (clients : List Client) (time : ℕ) (a p q : Point) (x : TraceItem) (disks : DiskHeads) (became : List Flight) → BeginsAt v s d clients a → Steps time a p → FailsTo time p q ⊎ EndsTo p q
    → IsStop x → IsOutcome q.disk 1 became → HasFirst v d a disks.behind
    → let left = image_of (after_fence q.disk 1 became) in
    NoFalseHeader (image_of q.disk) v.layout (flown_by q.disk 1) left → IsAcceptedIn v d left (disks.behind 1 (length (to_fence x q.items))) → StandsFenced v d clients disks x q.items s.tree left

-- ---- the head that the loss goes by

-- behind the fence the life's head is that which the disks have there; and where its own headers began they have one of this sequence
pub record GoesByHead (disks : DiskHeads) (sequence : ℕ) (fenced : List TraceItem) : Type 0 where
  pub head : head_of disks only_life fenced ≡ disks.behind 1 (length fenced)
  pub first : (disks.behind 1 (own_from only_life fenced)).sequence ≡ sequence

-- so it is of a run that stopped, with the sequence that its head had at the start
abbrev pub LossesGoByHeads : Type 0
LossesGoByHeads = (v : Volume) (s : Begun (trees_on v)) (d : ℕ) (clients : List Client) (time : ℕ) (a p q : Point) (x : TraceItem) (disks : DiskHeads) → BeginsAt v s d clients a → Steps time a p → FailsTo time p q ⊎ EndsTo p q
    → IsStop x → HasFirst v d a disks.behind → GoesByHead disks a.log.sequence (to_fence x q.items)
