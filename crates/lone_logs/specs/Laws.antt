-- Laws of one node alone on an image, with its log: one for each of its steps, and what remains of it.
use Rattle.std.specs.Prelude.{ℕ, ◌≡◌, ◌≢◌, ◌<◌, ◌≤◌, ◌++◌, Bool, true, false, suc, List, [], ◌∷◌, None, Some}
use Rattle.std.specs.FinMap as table
use Rattle.std.specs.Ordering.{nat_cmp}
use Rattle.file_tree.specs.Tree.{Tree}
use Rattle.file_tree.specs.Apply.{TakesSpace, apply}
use Rattle.file_tree.specs.declared.call.Call.{Call}
use Rattle.file_tree.specs.declared.call.Call.TheVariants as calls
use Rattle.file_tree.specs.declared.reply.Reply.TheVariants as replies
use Rattle.cluster_history.specs.History.{tree_of}
use Rattle.cluster_history.specs.History as history
use Rattle.cluster_laws.specs.Files.{laid}
use Rattle.cluster_laws.specs.Log.{Calm}
use Rattle.cluster_laws.specs.World.{World}
use Rattle.glock_names.specs.Views.{Seen}
use Rattle.glock_names.specs.declared.LockName.{LockName}
use Rattle.drafts.specs.declared.change.Change.{Change}
use Rattle.gfs2_layout.specs.Inode.{content_block}
use Rattle.image_model.specs.Claims.{every}
use Rattle.image_model.specs.Image.{Image}
use Rattle.image_model.specs.Owners.{Owners}
use Rattle.image_model.specs.Replays.{MayChange, StandsReplayed}
use Rattle.image_model.specs.Stands.{IsJournalAt, Layout}
use Rattle.image_changes.specs.Changes.{cover, is_free}
use Rattle.image_changes.specs.Does.{AreInside, Does, IsOf, is_nothing, writes}
use Rattle.image_changes.specs.Instances.{StandsBy}
use Rattle.log_layout.specs.Journal.{IsClean, head_in}
use Rattle.log_layout.specs.Transactions.{after}
use Rattle.log_layout.specs.declared.log_header.LogHeader.{LogHeader}
use Rattle.journal_outcomes.specs.Images.{IsImageOutcome, NoFalseHeader, ring_at}
use Rattle.journal_outcomes.specs.Rings.{InFlight}
use Rattle.tree_histories.specs.Trees.{Told, TreeHeadline}
use Rattle.image_machine.specs.Cells.{IsOfVolume, cells_of}
use Rattle.image_machine.specs.Volumes.{Volume, images_of, volume_of}
use Rattle.log_values.specs.Log.{Flush, Journal, LogValue}
use Rattle.log_values.specs.Log.Stage.{Headed, Writing}
use Rattle.log_values.specs.Changes.{CanBeAdded, Suffices, with_change}
use Rattle.log_values.specs.Flushing.{AllAreHome, FlushStep, HasRoom, IsDue, NothingIsLive, begun, begun_alone, head_place}
use Rattle.log_values.specs.Homing.{HomeAnswer, Settles}
use Rattle.log_values.specs.Laws.{IsJournal, empty_log}
use Rattle.log_values.specs.Transactions.{due}
use Rattle.log_values.specs.declared.steps.LogStep.TheVariants as step
use Rattle.log_rings.specs.Laws.{HasNumbers}
use Rattle.lone_images.specs.Lone.{begun_on, version_with}
use Rattle.lone_machine.specs.Alone as alone
use Rattle.lone_machine.specs.Alone.{Begun, next_item, now}
use Rattle.image_disks.specs.Lone.{remaining}
use Rattle.lone_logs.specs.States.{ArePlacesApart, FliesBesides, HasLandedAs, IsHeaded, IsJournalOf, IsLoggedNode, NodeState, Numbers, trees_on}

-- ---- after a step

-- There is a world in which the node is this after a step that answers no call: it works on what it worked on, and the items are as they were.
pub record StaysLogged (v : Volume) (s : Begun (trees_on v)) (w : World (trees_on v)) (d : ℕ) (after : NodeState) : Type 0 where
  pub world : World (trees_on v)
  pub is : IsLoggedNode v s world d after
  pub now : now (trees_on v) world ≡ now (trees_on v) w
  pub items : world.items ≡ w.items

-- There is one in which it is this after it answered a call: it works on the image with the change, and the call's item is behind the others.
pub record AnswersLogged (v : Volume) (s : Begun (trees_on v)) (w : World (trees_on v)) (d : ℕ) (after : NodeState) (said : Told) (change : Change) : Type 0 where
  pub world : World (trees_on v)
  pub is : IsLoggedNode v s world d after
  pub now : (b : ℕ) → now (trees_on v) world b ≡ laid (cells_of v change b) (now (trees_on v) w b)
  pub items : world.items ≡ w.items ++ (next_item (trees_on v) s w said ∷ [])

-- ---- the start

-- no call yet
abbrev pub no_numbers : Numbers
no_numbers = record { answered = 0; changed = 0; low = 0; begun = 0 }

-- on an image at rest, whose journal has this head
abbrev pub at_rest : Image → Journal → LogHeader → NodeState
at_rest im journal head = record { image = im; flying = λ b. None; log = empty_log journal head.blkno head.sequence; kept = table.empty; numbers = no_numbers }

-- An image that stands for a tree as it lies, each journal clean and no two places of journals in one block, with nothing in flight and an empty log of journal 0, is one on which the node begins.
abbrev pub Begins : Type 0
Begins = (im : Image) (o : Owners) (l : Layout) (t : Tree) (d : ℕ) (journal : Journal) (head : LogHeader) → StandsBy im o l t → ((j k : ℕ) → IsJournalAt l j k → IsClean (ring_at im k))
    → ArePlacesApart (volume_of im l) → IsJournal journal → IsJournalOf (volume_of im l) d journal → head_in (ring_at im d) ≡ Some head
    → IsLoggedNode (volume_of im l) (begun_on im o l t) (alone.begun (trees_on (volume_of im l)) (begun_on im o l t)) d (at_rest im journal head)

-- ---- calls

-- one more call, which changed something or not
abbrev pub counted : Numbers → (changes : Numbers → ℕ) → Numbers
counted n changes = record n { answered = suc n.answered; changed = changes n }

-- The view is of the volume, and has the blocks that the node keeps.
pub record IsItsView (v : Volume) (st : NodeState) (seen : Seen) : Type 0 where
  pub volume : IsOfVolume v seen
  pub blocks : (b : ℕ) → seen.block_at b ≡ table.get st.kept b

-- the node with one more call, whose change is added to its log and to what it keeps
abbrev pub with_call : NodeState → Change → table.FinMap nat_cmp (List ℕ) → NodeState
with_call st change kept = record st { log = with_change st.log change; kept = kept; numbers = counted st.numbers (λ n. suc n.answered) }

-- with one that changes nothing
abbrev pub with_quiet : NodeState → NodeState
with_quiet st = record st { numbers = counted st.numbers (λ n. n.changed) }

-- A call that does what it should over what the node keeps, with a change for which the log has room, and which writes blocks that a replay may change: it keeps what the call writes, and not what it frees.
abbrev pub CallsAreLogged : Type 0
CallsAreLogged = (v : Volume) (s : Begun (trees_on v)) (w : World (trees_on v)) (d : ℕ) (st : NodeState) (seen : Seen) (said : Told) (change : Change) (kept : table.FinMap nat_cmp (List ℕ))
    → IsLoggedNode v s w d st → ((said.call ≡ calls.Sync) × (said.reply ≡ replies.Ok) → ⊥) → IsItsView v st seen → AreInside seen change → Does seen said.call said.reply change
    → CanBeAdded st.log.journal.size change → Suffices (with_change st.log change) → ((b : ℕ) → writes change b ≡ true → MayChange st.image v.layout b) → ((b : ℕ) → table.get kept b ≡ version_with change (table.get st.kept) b)
    → AnswersLogged v s w d (with_call st change kept) said change

-- one that does what it should, and changes nothing
abbrev pub QuietCallsAreLogged : Type 0
QuietCallsAreLogged = (v : Volume) (s : Begun (trees_on v)) (w : World (trees_on v)) (d : ℕ) (st : NodeState) (seen : Seen) (said : Told) (change : Change)
    → IsLoggedNode v s w d st → ((said.call ≡ calls.Sync) × (said.reply ≡ replies.Ok) → ⊥) → IsItsView v st seen → AreInside seen change → Does seen said.call said.reply change
    → is_nothing change ≡ true → AnswersLogged v s w d (with_quiet st) said change

-- There is a world after an answer without a change.
pub record StaysAnswered (v : Volume) (s : Begun (trees_on v)) (w : World (trees_on v)) (d : ℕ) (after : NodeState) (said : Told) : Type 0 where
  pub world : World (trees_on v)
  pub is : IsLoggedNode v s world d after
  pub now : (b : ℕ) → now (trees_on v) world b ≡ now (trees_on v) w b
  pub items : world.items ≡ w.items ++ (next_item (trees_on v) s w said ∷ [])

-- one for which there is no space, though each image that the view may be of would take it
abbrev pub SpacelessCallsAreLogged : Type 0
SpacelessCallsAreLogged = (v : Volume) (s : Begun (trees_on v)) (w : World (trees_on v)) (d : ℕ) (st : NodeState) (seen : Seen) (client : ℕ) (call : Call)
    → IsLoggedNode v s w d st → IsItsView v st seen → TakesSpace call → ((im : Image) (o : Owners) (l : Layout) (t : Tree) → IsOf seen im o l t → (apply call t).reply ≡ replies.Ok)
    → StaysAnswered v s w d (with_quiet st) (record { client = client; call = call; reply = replies.NoSpace })

-- and a sync, once the last call that changed anything is in the journal
abbrev pub SyncsAreLogged : Type 0
SyncsAreLogged = (v : Volume) (s : Begun (trees_on v)) (w : World (trees_on v)) (d : ℕ) (st : NodeState) (client : ℕ)
    → IsLoggedNode v s w d st → st.numbers.changed ≤ st.numbers.low → StaysAnswered v s w d (with_quiet st) (record { client = client; call = calls.Sync; reply = replies.Ok })

-- ---- reads

-- what the disk gives of a block: the node's own write in flight first
abbrev pub read_of : NodeState → ℕ → List ℕ
read_of st b = laid (st.flying b) (st.image.at b)

-- A block that it doesn't keep, and that in each image that its view may be of is under this lock and not free: what the disk gives of it is what the node works on, and it may keep it.
abbrev pub ReadsAreLogged : Type 0
ReadsAreLogged = (v : Volume) (s : Begun (trees_on v)) (w : World (trees_on v)) (d : ℕ) (st : NodeState) (seen : Seen) (b : ℕ) (lock : LockName)
    → IsLoggedNode v s w d st → IsItsView v st seen → table.get st.kept b ≡ None
    → ((im : Image) (o : Owners) (l : Layout) (t : Tree) → IsOf seen im o l t → (cover l b (o b) ≡ Some lock) × (is_free (o b) ≡ false))
    → (read_of st b ≡ (now (trees_on v) w b).content) × StaysLogged v s w d (record st { kept = table.insert st.kept b (read_of st b) })

-- ---- a flush

-- with all that is due: its number is that of the last call
abbrev pub FlushesBegin : Type 0
FlushesBegin = (v : Volume) (s : Begun (trees_on v)) (w : World (trees_on v)) (d : ℕ) (st : NodeState)
    → IsLoggedNode v s w d st → st.log.flush ≡ None → IsDue st.log → HasRoom st.log (due st.log)
    → StaysLogged v s w d (record st { log = begun st.log; numbers = record st.numbers { begun = st.numbers.answered } })

-- a header alone: its number is that of the last call in the journal
abbrev pub HeadersBegin : Type 0
HeadersBegin = (v : Volume) (s : Begun (trees_on v)) (w : World (trees_on v)) (d : ℕ) (st : NodeState)
    → IsLoggedNode v s w d st → st.log.flush ≡ None → AllAreHome st.log → (NothingIsLive st.log → ⊥) → (IsDue st.log → HasRoom st.log (due st.log) → ⊥)
    → StaysLogged v s w d (record st { log = begun_alone st.log; numbers = record st.numbers { begun = st.numbers.low } })

-- a block of it is written
abbrev pub BlocksAreWritten : Type 0
BlocksAreWritten = (v : Volume) (s : Begun (trees_on v)) (w : World (trees_on v)) (d : ℕ) (st : NodeState) (new : LogValue) (f : Flush) (b : ℕ) (bytes : List ℕ) (flying : InFlight)
    → IsLoggedNode v s w d st → st.log.flush ≡ Some f → HasNumbers st.log f → FlushStep st.log new f bytes (step.Write b) → FliesBesides st.image st.flying flying b bytes
    → StaysLogged v s w d (record st { log = new; flying = flying })

-- its header is written
abbrev pub HeadersAreWritten : Type 0
HeadersAreWritten = (v : Volume) (s : Begun (trees_on v)) (w : World (trees_on v)) (d : ℕ) (st : NodeState) (new : LogValue) (f : Flush) (b sequence : ℕ) (bytes : List ℕ) (flying : InFlight)
    → IsLoggedNode v s w d st → st.log.flush ≡ Some f → HasNumbers st.log f → FlushStep st.log new f bytes (step.Head b sequence) → FliesBesides st.image st.flying flying b bytes
    → StaysLogged v s w d (record st { log = new; flying = flying })

-- ---- barriers

-- the node behind a barrier, with this log
abbrev pub landed_node : NodeState → Image → LogValue → NodeState
landed_node st left new = record st { image = left; flying = λ b. None; log = new }

-- any, while no header is in flight
abbrev pub BarriersSettle : Type 0
BarriersSettle = (v : Volume) (s : Begun (trees_on v)) (w : World (trees_on v)) (d : ℕ) (st : NodeState) (new : LogValue) (left : Image)
    → IsLoggedNode v s w d st → (IsHeaded st.log.flush → ⊥) → Settles st.log new → HasLandedAs st.image st.flying left → StaysLogged v s w d (landed_node st left new)

-- that between the blocks of a flush and its header
abbrev pub FirstBarriersSettle : Type 0
FirstBarriersSettle = (v : Volume) (s : Begun (trees_on v)) (w : World (trees_on v)) (d : ℕ) (st : NodeState) (new : LogValue) (f : Flush) (done : ℕ) (bytes : List ℕ) (left : Image)
    → IsLoggedNode v s w d st → st.log.flush ≡ Some f → f.stage ≡ Writing done → FlushStep st.log new f bytes step.Barrier → HasLandedAs st.image st.flying left
    → StaysLogged v s w d (landed_node st left new)

-- the last: the flush is in the journal, and its number that of the last call there
abbrev pub LastBarriersLand : Type 0
LastBarriersLand = (v : Volume) (s : Begun (trees_on v)) (w : World (trees_on v)) (d : ℕ) (st : NodeState) (new : LogValue) (f : Flush) (tail : ℕ) (bytes : List ℕ) (left : Image)
    → IsLoggedNode v s w d st → st.log.flush ≡ Some f → HasNumbers st.log f → f.stage ≡ Headed tail → FlushStep st.log new f bytes step.Barrier → HasLandedAs st.image st.flying left
    → StaysLogged v s w d (record (landed_node st left new) { numbers = record st.numbers { low = st.numbers.begun } })

-- ---- on the way home

-- a live block is written to its place
abbrev pub BlocksGoHome : Type 0
BlocksGoHome = (v : Volume) (s : Begun (trees_on v)) (w : World (trees_on v)) (d : ℕ) (st : NodeState) (new : LogValue) (lock : LockName) (b : ℕ) (bytes : List ℕ) (flying : InFlight)
    → IsLoggedNode v s w d st → HomeAnswer st.log new lock bytes (Some (step.Write b)) → FliesBesides st.image st.flying flying b bytes → StaysLogged v s w d (record st { log = new; flying = flying })

-- ---- what remains

-- a header at place p, with sequence n, clean or not
pub record IsHeadAt (h : LogHeader) (p n : ℕ) (c : Bool) : Type 0 where
  pub place : h.blkno ≡ p
  pub sequence : h.sequence ≡ n
  pub clean : h.clean ≡ c

-- The head of the journal that is left, and the number of the last call in it: the log's; or that of the flush whose header is in flight.
pub data IsHeadLeft (st : NodeState) (h : LogHeader) (n : ℕ) : Type 0 where
  old : n ≡ st.numbers.low → IsHeadAt h st.log.head st.log.sequence st.log.clean → IsHeadLeft st h n
  new : (f : Flush) (tail : ℕ) → st.log.flush ≡ Some f → f.stage ≡ Headed tail → n ≡ st.numbers.begun → IsHeadAt h (head_place st.log f) (after st.log.sequence) false → IsHeadLeft st h n

-- with a loss that keeps the calls up to k the history is legal, and the image stands, its journals replayed, for its tree
abbrev pub RemainsWith : (v : Volume) → Begun (trees_on v) → World (trees_on v) → Image → ℕ → Type 0
RemainsWith v s w left k = history.Legal (remaining v s w k) s.tree × StandsReplayed left (tree_of (remaining v s w k) s.tree)

-- the journal with its dinode in block d is in its blocks in this image
pub record IsInItsBlocks (v : Volume) (d : ℕ) (left : Image) : Type 0 where
  pub many : (ring_at left d).places ≡ v.places d
  pub there : (p : ℕ) → p < v.places d → content_block (every left d) p ≡ v.place d p

-- What remains of a node that has answered so many calls, in an image that is left, where its journal, which is in its blocks, has a head; its head and the number of the last call in that are such: with a loss that keeps the calls up to
-- this number, or more that change nothing, the image stands for the tree of the history; and each other journal is clean.
pub record Remains (v : Volume) (s : Begun (trees_on v)) (w : World (trees_on v)) (d answered : ℕ) (left : Image) (IsHead : LogHeader → ℕ → Type 0) : Type 0 where
  pub head : LogHeader
  pub number : ℕ
  pub headed : head_in (ring_at left d) ≡ Some head
  pub blocks : IsInItsBlocks v d left
  pub is : IsHead head number
  pub stands : (k : ℕ) → number ≤ k → k ≤ answered → Calm (trees_on v) w.book s.node number k → RemainsWith v s w left k
  pub others : (j k : ℕ) → IsJournalAt v.layout j k → k ≢ d → IsClean (ring_at left k)

-- so it is in each outcome without a false header of the image with what is in flight
abbrev pub ItsOutcomesStand : Type 0
ItsOutcomesStand = (v : Volume) (s : Begun (trees_on v)) (w : World (trees_on v)) (d : ℕ) (st : NodeState) (left : Image) → IsLoggedNode v s w d st
    → IsImageOutcome st.image st.flying left → NoFalseHeader st.image v.layout st.flying left → Remains v s w d st.numbers.answered left (IsHeadLeft st)

-- and what was answered so far is a legal history
abbrev pub ItsHistoryIsLegal : Type 0
ItsHistoryIsLegal = (v : Volume) (s : Begun (trees_on v)) (w : World (trees_on v)) (d : ℕ) (st : NodeState) → IsLoggedNode v s w d st → TreeHeadline (images_of v) w
