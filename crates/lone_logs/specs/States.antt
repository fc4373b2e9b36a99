-- One node alone on an image, with its log: what it has, and what always holds of it.
use Rattle.std.specs.Prelude.{ℕ, ◌≡◌, ◌≢◌, ◌⊎◌, ◌<◌, ◌≤◌, true, false, List, length, slice_get, Option, None, Some}
use Rattle.std.specs.FinMap as table
use Rattle.std.specs.Option.{option_map}
use Rattle.std.specs.Ordering.{nat_cmp}
use Rattle.cluster_laws.specs.Files.{Files}
use Rattle.cluster_laws.specs.Log.{Calm}
use Rattle.cluster_laws.specs.Notes.{Caches}
use Rattle.cluster_laws.specs.Rings.{Rings}
use Rattle.cluster_laws.specs.World.{World}
use Rattle.image_disks.specs.Disks.{IsDiskOf}
use Rattle.image_machine.specs.Cells.{BlockCell}
use Rattle.image_machine.specs.Volumes.{IsPlace, Volume, images_of}
use Rattle.image_model.specs.Image.{Image}
use Rattle.image_model.specs.Replays.{MayChange}
use Rattle.image_model.specs.Stands.{IsJournalAt}
use Rattle.journal_outcomes.specs.Images.{HeaderFliesTo, ring_at, to_journal}
use Rattle.journal_outcomes.specs.Rings.{InFlight}
use Rattle.log_layout.specs.Journal.{IsClean, Ring}
use Rattle.log_layout.specs.Live.{live_in}
use Rattle.log_rings.specs.Flights.{AreWritten, chunk_place}
use Rattle.log_rings.specs.Laid.{IsRingOf, Laid}
use Rattle.log_tables.specs.Kept.{is_home}
use Rattle.log_tables.specs.Versions.Way.{Home, Away, Flying}
use Rattle.log_values.specs.Blocks as set
use Rattle.log_values.specs.Changes.{is_flushed}
use Rattle.log_values.specs.Flushing.{block_at, flush_chunks, head_place, header_bytes, place_of}
use Rattle.log_values.specs.Log.{Entry, Flush, Journal, LogValue, Stage, Version}
use Rattle.log_values.specs.Log.Stage.{Ending, Headed, Writing}
use Rattle.log_values.specs.Sound.{IsSoundLog}
use Rattle.log_values.specs.Transactions.{flushed_as}
use Rattle.lone_images.specs.Lone.{all_locks}
use Rattle.lone_machine.specs.Alone.{Begun, IsAlone, head_of, now}
use Rattle.lone_machine.specs.Laws.{AreOwnRings}
use Rattle.lone_machine.specs.Versions.{AreVersions}
use Rattle.node_journal.specs.Written.{IsHeaderRead}
use Rattle.tree_histories.specs.Trees.{Trees}

-- the images of a volume, as a file system of the machine
abbrev pub trees_on : Volume → Files
trees_on v = Trees (images_of v)

-- ---- what the node has

-- Numbers of its calls: of the last, of the last that changed anything, of the last in its journal, and of the last as the flush began that was begun last.
pub record Numbers : Type 0 where
  pub answered : ℕ
  pub changed : ℕ
  pub low : ℕ
  pub begun : ℕ

-- the image on its disk with what is in flight to it; its log; the blocks that it keeps; and the numbers of its calls
pub record NodeState : Type 0 where
  pub image : Image
  pub flying : InFlight
  pub log : LogValue
  pub kept : table.FinMap nat_cmp (List ℕ)
  pub numbers : Numbers

-- ---- its calls

-- the numbers are the machine's; no call behind the last that changed anything does
pub record HasCallNumbers (v : Volume) (s : Begun (trees_on v)) (w : World (trees_on v)) (n : Numbers) : Type 0 where
  pub answered : w.book.answered s.node ≡ n.answered
  pub low : w.book.low s.node ≡ n.low
  pub begun : (n.low ≤ n.begun) × (n.begun ≤ n.answered)
  pub changed : n.changed ≤ n.answered
  pub calm : Calm (trees_on v) w.book s.node n.changed n.answered

abbrev pub bytes_of : table.FinMap nat_cmp Version → ℕ → Option (List ℕ)
bytes_of versions b = option_map (λ (x : Version). x.bytes) (table.get versions b)

-- What is fresh in the log are the versions of the calls behind those of the flush that was begun, and what that logs those of the calls between; without one, of the calls
-- behind the last in the journal.
abbrev pub HasVersions : (v : Volume) → Begun (trees_on v) → World (trees_on v) → LogValue → Numbers → Option Flush → Type 0
HasVersions v s w log n None = AreVersions (trees_on v) w.book s.node n.low n.answered (bytes_of log.fresh) (set.contains log.gone)
HasVersions v s w log n (Some f) =
    AreVersions (trees_on v) w.book s.node n.low n.begun (bytes_of f.versions) (set.contains f.revokes)
    × AreVersions (trees_on v) w.book s.node n.begun n.answered (bytes_of log.fresh) (set.contains log.gone)

-- ---- what is in flight

-- a live block that is on its way home
abbrev pub flies_home : Option Entry → Option (List ℕ)
flies_home None = None
flies_home (Some e) = elim e.way [ Home ↦ None | Away bytes ↦ None | Flying bytes ↦ Some bytes ]

-- a chunk of the flush is in flight to its place, or stands there
abbrev pub IsSent : Ring → InFlight → ℕ → List ℕ → Type 0
IsSent ring flying p bytes = (flying p ≡ Some bytes) ⊎ ((flying p ≡ None) × (ring.at p ≡ bytes))

-- What of the flush is in flight to the journal: of its chunks the first so many are in flight or stand at their places, and nothing else flies; or all stand there, and nothing flies; or all stand
-- there, and the header flies alone.
pub data FliesAs (ring : Ring) (flying : InFlight) (log : LogValue) (f : Flush) : Stage → Type 0 where
  writes : (done : ℕ) → ((k : ℕ) (bytes : List ℕ) → k < done → slice_get (flush_chunks log f) k ≡ Some bytes → IsSent ring flying (chunk_place log k) bytes)
      → ((p : ℕ) (bytes : List ℕ) → p < ring.places → flying p ≡ Some bytes → (k : ℕ) × (k < done) × (p ≡ chunk_place log k)) → FliesAs ring flying log f (Writing done)
  ends : AreWritten ring log f (length (flush_chunks log f)) → ((p : ℕ) → p < ring.places → flying p ≡ None) → FliesAs ring flying log f Ending
  headed : (tail : ℕ) → AreWritten ring log f (length (flush_chunks log f)) → flying (head_place log f) ≡ Some (header_bytes log f tail)
      → ((p : ℕ) → p < ring.places → p ≢ head_place log f → flying p ≡ None) → FliesAs ring flying log f (Headed tail)

-- without a flush nothing is
abbrev pub FliesToJournal : Ring → InFlight → LogValue → Option Flush → Type 0
FliesToJournal ring flying log None = (p : ℕ) → p < ring.places → flying p ≡ None
FliesToJournal ring flying log (Some f) = FliesAs ring flying log f f.stage

-- a header of the flush is in flight
abbrev pub IsHeaded : Option Flush → Type 0
IsHeaded o = (f : Flush) × (tail : ℕ) × (o ≡ Some f) × (f.stage ≡ Headed tail)

-- a header in flight is read as it was written
abbrev pub IsRead : LogValue → Type 0
IsRead log = (f : Flush) (tail : ℕ) → log.flush ≡ Some f → f.stage ≡ Headed tail → IsHeaderRead log.journal.size (place_of log f tail) (flushed_as f)

-- the header in flight has the flush's calls; without one both heads are one
pub record HasHeads (v : Volume) (s : Begun (trees_on v)) (w : World (trees_on v)) (begun : ℕ) (o : Option Flush) : Type 0 where
  pub headed : IsHeaded o → (head_of (trees_on v) s w true).cut ≡ begun
  pub one : (IsHeaded o → ⊥) → head_of (trees_on v) s w true ≡ head_of (trees_on v) s w false

-- one more write is in flight, of a whole block of the image
pub record FliesBesides (im : Image) (flying flying' : InFlight) (b : ℕ) (bytes : List ℕ) : Type 0 where
  pub whole : length bytes ≡ im.size
  pub there : flying' b ≡ Some bytes
  pub others : (c : ℕ) → c ≢ b → flying' c ≡ flying c

-- all that was in flight is in its place
pub record HasLandedAs (im : Image) (flying : InFlight) (left : Image) : Type 0 where
  pub size : left.size ≡ im.size
  pub count : left.count ≡ im.count
  pub new : (b : ℕ) (bytes : List ℕ) → flying b ≡ Some bytes → left.at b ≡ bytes
  pub still : (b : ℕ) → flying b ≡ None → left.at b ≡ im.at b

-- ---- its journal

-- no block is two places of journals
abbrev pub ArePlacesApart : Volume → Type 0
ArePlacesApart v = (j d p i e q : ℕ) → IsJournalAt v.layout j d → IsJournalAt v.layout i e → p < v.places d → q < v.places e → v.place d p ≡ v.place e q → (j ≡ i) × (d ≡ e) × (p ≡ q)

-- the log has content of the block that isn't in its journal yet
abbrev pub HasUnlogged : LogValue → ℕ → Type 0
HasUnlogged log b = (table.contains_key log.fresh b ≡ true) ⊎ (is_flushed log.flush b ≡ true)

-- the log's journal is the one with its dinode in block d
pub record IsJournalOf (v : Volume) (d : ℕ) (journal : Journal) : Type 0 where
  pub is : IsJournalAt v.layout 0 d
  pub size : journal.size ≡ v.size
  pub places : journal.length ≡ v.places d
  pub place : (p : ℕ) → p < v.places d → block_at journal p ≡ v.place d p

-- ---- what always holds

-- The machine has come here with node 1 alone, which holds all locks, and its disk is the node's; the journal on that is the log's, and each other one is clean; live blocks that the log holds for
-- home are there; what is in flight is what the log says; its versions are its calls', of blocks that a replay may change; what the node keeps of blocks is what it works on, and of what isn't home it
-- keeps all that isn't free.
pub record IsLoggedNode (v : Volume) (s : Begun (trees_on v)) (w : World (trees_on v)) (d : ℕ) (st : NodeState) : Type 0 where
  pub alone : IsAlone (trees_on v) s w
  pub node : s.node ≡ 1
  pub held : s.held ≡ all_locks
  pub start : w.book.start ≡ s.tree
  -- the disk
  pub rings : Rings (trees_on v) w.disk
  pub own : AreOwnRings (trees_on v) w rings
  pub disk : IsDiskOf v w.disk rings st.image st.flying
  pub flights : (b : ℕ) → (IsPlace v b → ⊥) → w.disk.flight s.node b ≡ st.flying b
  -- its journal
  pub apart : ArePlacesApart v
  pub journal : IsJournalOf v d st.log.journal
  pub sound : IsSoundLog st.log
  pub laid : List Laid
  pub ring : IsRingOf (ring_at st.image d) st.log laid
  pub home : (b : ℕ) (e : Entry) → table.get st.log.live b ≡ Some e → e.way ≡ Home → live_in (ring_at st.image d) b ≡ Some (st.image.at b)
  pub others : (j k : ℕ) → IsJournalAt v.layout j k → k ≢ d → IsClean (ring_at st.image k)
  -- what is in flight, and the heads
  pub flies : FliesToJournal (ring_at st.image d) (to_journal st.image d st.flying) st.log st.log.flush
  pub homeward : (b : ℕ) → (IsPlace v b → ⊥) → st.flying b ≡ flies_home (table.get st.log.live b)
  pub elsewhere : (j k p : ℕ) → IsJournalAt v.layout j k → k ≢ d → p < v.places k → st.flying (v.place k p) ≡ None
  pub only_headed : HeaderFliesTo st.image d st.flying → IsHeaded st.log.flush
  pub read : IsRead st.log
  pub heads : HasHeads v s w st.numbers.begun st.log.flush
  -- its calls
  pub numbers : HasCallNumbers v s w st.numbers
  pub versions : HasVersions v s w st.log st.numbers st.log.flush
  pub may : (b : ℕ) → HasUnlogged st.log b → MayChange st.image v.layout b
  -- what it keeps
  pub cached : Caches (trees_on v) w.book w.disk s.node
  pub keeps : (b : ℕ) → table.get st.kept b ≡ option_map (λ (x : BlockCell). x.content) (w.book.cache s.node b)
  pub away : (b : ℕ) (e : Entry) → table.get st.log.live b ≡ Some e → is_home e.way ≡ false → (((now (trees_on v) w b).place).free ≡ true → ⊥)
      → w.book.cache s.node b ≡ Some (now (trees_on v) w b)
