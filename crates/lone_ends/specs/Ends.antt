-- How a node that runs alone ends: a clean header behind the head of its journal, and what the image stands for then.
use Rattle.std.specs.Prelude.{ℕ, ◌≡◌, ◌+◌, ◌^◌, ◌<◌, true, List, None, Some, Ok}
use Rattle.cluster_history.specs.History.{tree_of}
use Rattle.cluster_laws.specs.World.{World}
use Rattle.image_changes.specs.Instances.{StandsBy}
use Rattle.image_machine.specs.Laws.{HasBlocksFor}
use Rattle.image_machine.specs.Volumes.{HasItsPlaces, Volume, images_of, volume_of}
use Rattle.image_model.specs.Claims.{every}
use Rattle.image_model.specs.Image.{Image}
use Rattle.image_model.specs.Owners.{Owners}
use Rattle.image_model.specs.Replays.{StandsReplayed}
use Rattle.image_model.specs.Stands.{IsJournalAt}
use Rattle.journal_outcomes.specs.Images.{IsImageOutcome, NoFalseHeader, ring_at}
use Rattle.journal_outcomes.specs.Rings.{InFlight}
use Rattle.journal_replays.specs.Headers.{clean_block, filled}
use Rattle.log_layout.specs.Headers.{as_read, log_read}
use Rattle.log_layout.specs.Journal.{IsClean, accepted, head_in}
use Rattle.log_layout.specs.Transactions.{after}
use Rattle.log_layout.specs.declared.log_header.LogHeader.{LogHeader}
use Rattle.log_values.specs.Flushing.{AllAreHome, IsDue, block_at, first_place}
use Rattle.log_values.specs.Log.{LogValue}
use Rattle.lone_logs.specs.Laws.{IsHeadAt, Remains}
use Rattle.lone_logs.specs.States.{ArePlacesApart, FliesBesides, HasLandedAs, IsLoggedNode, NodeState, trees_on}
use Rattle.lone_machine.specs.Alone.{Begun}
use Rattle.peer_replay.specs.Plans.{clean_after}
use Rattle.tree_histories.specs.Trees.{history_of}

-- ---- when a node may end

-- Nothing more is to be written: no flush was begun and none is due, what is live is home, and nothing is in flight.
pub record IsDone (st : NodeState) : Type 0 where
  pub flush : st.log.flush ≡ None
  pub due : IsDue st.log → ⊥
  pub home : AllAreHome st.log
  pub still : (b : ℕ) → st.flying b ≡ None

-- ---- its last header

-- The bytes are a clean header at the place behind the log's head, with the next sequence, which there is.
pub record IsLastHeader (log : LogValue) (bytes : List ℕ) : Type 0 where
  pub header : LogHeader
  pub reads : accepted (first_place log) bytes ≡ Some header
  pub sequence : header.sequence ≡ after log.sequence
  pub more : log.sequence + 1 < 2 ^ 64
  pub clean : header.clean ≡ true

-- such is the one that ends a replay of a journal with this head, where it is read as it was written
abbrev pub CleanBlocksAreLast : Type 0
CleanBlocksAreLast =
    (log : LogValue) (head : LogHeader) (block slot dinode time : ℕ) → head.blkno ≡ log.head → head.sequence ≡ log.sequence → log.sequence + 1 < 2 ^ 64
    → let header = clean_after log.journal.length head in
    let bytes = (clean_block log.journal.size block slot dinode time header).bytes in
    log_read bytes ≡ Ok (as_read (filled block slot dinode time header) bytes) → IsLastHeader log bytes

-- it is in flight to its place, and nothing else
pub record FliesLast (st : NodeState) (flying : InFlight) : Type 0 where
  pub done : IsDone st
  pub bytes : List ℕ
  pub is : IsLastHeader st.log bytes
  pub flies : FliesBesides st.image st.flying flying (block_at st.log.journal (first_place st.log)) bytes

-- ---- what remains while it is in flight

-- The head of the journal that is left, and the number of the last call in it: the log's; or the clean one, behind which nothing is to be replayed, so that all calls are in it.
pub data IsHeadAtEnd (st : NodeState) (h : LogHeader) (n : ℕ) : Type 0 where
  old : n ≡ st.numbers.low → IsHeadAt h st.log.head st.log.sequence st.log.clean → IsHeadAtEnd st h n
  last : n ≡ st.numbers.answered → IsHeadAt h (first_place st.log) (after st.log.sequence) true → IsHeadAtEnd st h n

-- so it is in each outcome without a false header
abbrev pub ItsEndsStand : Type 0
ItsEndsStand = (v : Volume) (s : Begun (trees_on v)) (w : World (trees_on v)) (d : ℕ) (st : NodeState) (flying : InFlight) (left : Image) → IsLoggedNode v s w d st → FliesLast st flying
    → IsImageOutcome st.image flying left → NoFalseHeader st.image v.layout flying left → Remains v s w d st.numbers.answered left (IsHeadAtEnd st)

-- ---- once it has ended

-- The image stands for the tree of all that the node answered, as it lies and so too when its journals are replayed: each is clean, and has its places where it had them, so that a node may begin on it.
-- Its own journal's head is the clean one at this place, with this sequence.
pub record HasEnded (v : Volume) (s : Begun (trees_on v)) (w : World (trees_on v)) (d : ℕ) (left : Image) (place sequence : ℕ) : Type 0 where
  pub owners : Owners
  pub stands : StandsBy left owners v.layout (tree_of (history_of (images_of v) w.items) s.tree)
  pub replayed : StandsReplayed left (tree_of (history_of (images_of v) w.items) s.tree)
  pub clean : (j k : ℕ) → IsJournalAt v.layout j k → IsClean (ring_at left k)
  pub has : HasBlocksFor v left
  pub places : (j k : ℕ) → IsJournalAt v.layout j k → HasItsPlaces v k (every left k)
  pub apart : ArePlacesApart (volume_of left v.layout)
  pub head : LogHeader
  pub headed : head_in (ring_at left d) ≡ Some head
  pub is : IsHeadAt head place sequence true

-- behind the barrier that brings the last header to its place: its head is that one
abbrev pub ItsEndsLand : Type 0
ItsEndsLand = (v : Volume) (s : Begun (trees_on v)) (w : World (trees_on v)) (d : ℕ) (st : NodeState) (flying : InFlight) (left : Image) → IsLoggedNode v s w d st → FliesLast st flying
    → HasLandedAs st.image flying left → HasEnded v s w d left (first_place st.log) (after st.log.sequence)

-- and without one where the journal's head is clean, since nothing was ever written to it: it is the log's
abbrev pub CleanNodesHaveEnded : Type 0
CleanNodesHaveEnded = (v : Volume) (s : Begun (trees_on v)) (w : World (trees_on v)) (d : ℕ) (st : NodeState) → IsLoggedNode v s w d st → IsDone st → st.log.clean ≡ true
    → HasEnded v s w d st.image st.log.head st.log.sequence
