-- The machine's disk as an image with writes in flight to it, and what becomes of them.
use Rattle.std.specs.Prelude.{ℕ, ◌≡◌, ◌⊎◌, ◌<◌, if◌then◌else◌, Bool, true, false, List, ◌++◌, length, Some, None}
use Rattle.gfs2_layout.specs.Inode.{content_block}
use Rattle.cluster_history.specs.History.{tree_of}
use Rattle.cluster_history.specs.History as history
use Rattle.cluster_laws.specs.Mirror.{Disk, IsOutcome}
use Rattle.cluster_laws.specs.Rings.{IsReplayOfRings, Rings}
use Rattle.cluster_laws.specs.History.{AreLives, Loss, gones}
use Rattle.cluster_laws.specs.Laws.{head_cuts}
use Rattle.cluster_laws.specs.World.{BeginsAt, Run, World}
use Rattle.image_model.specs.Claims.{every}
use Rattle.image_model.specs.Image.{Image}
use Rattle.image_model.specs.Replays.{HasItsJournals, MayChange, Replayed, StandsReplayed, live_at}
use Rattle.image_model.specs.Stands.{IsJournalAt}
use Rattle.journal_outcomes.specs.Images.{HeaderFliesTo, MayBeInFlight, landed_at, ring_at, to_journal}
use Rattle.journal_outcomes.specs.Rings.{InFlight, SaysAs}
use Rattle.log_layout.specs.Live.{IsReadable, live_in}
use Rattle.tree_histories.specs.Trees.{Trees, history_of}
use Rattle.image_machine.specs.Laws.{HasBlocksFor}
use Rattle.image_machine.specs.Volumes.{IsPlace, RingsCanBeRead, Volume, images_of}

-- ---- the tie

-- The machine's disk is this image with these writes in flight, each journal of the image being the machine's of its number. Beside the places of rings the blocks are the
-- same, and what flies to them flies there. What is live by a journal's old head is what is live in the image; by the one in flight, what is live once that has landed.
-- What is live is a whole block that a replay may change.
pub record IsDiskOf (v : Volume) (d : Disk (Trees (images_of v))) (rings : Rings (Trees (images_of v)) d) (im : Image) (flying : InFlight) : Type 0 where
  pub has : HasBlocksFor v im
  pub journals : HasItsJournals im v.layout
  pub many : (j k : ℕ) → IsJournalAt v.layout j k → (ring_at im k).places ≡ v.places k
  pub there : (j k p : ℕ) → IsJournalAt v.layout j k → p < v.places k → content_block (every im k) p ≡ v.place k p
  pub readable : (j k : ℕ) → IsJournalAt v.layout j k → IsReadable (ring_at im k)
  pub may : MayBeInFlight im v.layout flying
  pub blocks : (b : ℕ) → (IsPlace v b → ⊥) → d.blocks b ≡ im.at b
  pub flights : (b : ℕ) (bytes : List ℕ) → (IsPlace v b → ⊥) → flying b ≡ Some bytes → (r : ℕ) × (d.flight r b ≡ Some bytes)
  pub old : (j k b : ℕ) → IsJournalAt v.layout j k → rings.live j false b ≡ live_at im k b
  pub new : (j k b : ℕ) → IsJournalAt v.layout j k → HeaderFliesTo im k flying → rings.live j true b ≡ live_in (landed_at im k flying) b
  pub none : (j b : ℕ) (c : Bool) → ((k : ℕ) → IsJournalAt v.layout j k → ⊥) → rings.live j c b ≡ None
  pub inside : (j b : ℕ) (c : Bool) (bytes : List ℕ) → rings.live j c b ≡ Some bytes → MayChange im v.layout b
  pub whole : (j b : ℕ) (c : Bool) (bytes : List ℕ) → rings.live j c b ≡ Some bytes → length bytes ≡ v.size

-- ---- what becomes of it

-- each write that flew to the journal is in its place
abbrev pub HasLandedAt : Image → ℕ → InFlight → Image → Type 0
HasLandedAt im k flying left = (p : ℕ) (bytes : List ℕ) → p < (ring_at im k).places → to_journal im k flying p ≡ Some bytes → left.at (content_block (every im k) p) ≡ bytes

-- beside the places of rings the machine's blocks are the image's
abbrev pub HasSettledTo : (v : Volume) → Image → Disk (Trees (images_of v)) → Type 0
HasSettledTo v left e = (b : ℕ) → (IsPlace v b → ⊥) → e.blocks b ≡ left.at b

-- each journal has what its chosen head has live, and no other head
abbrev pub KeepsHeads : (v : Volume) {d e : Disk (Trees (images_of v))} → Rings (Trees (images_of v)) d → (ℕ → Bool) → Rings (Trees (images_of v)) e → Type 0
KeepsHeads v rings choice after = (j b : ℕ) (c : Bool) → after.live j c b ≡ rings.live j (choice j) b

-- Of an outcome of the image: for one choice of heads, which takes a new one only where a header is in flight, it can be replayed, and what a replay leaves of it is what
-- the machine has, but for places of rings: an outcome of its disk, with what these heads have live put in its place.
pub record IsOutcomeOf (v : Volume) (d : Disk (Trees (images_of v))) (rings : Rings (Trees (images_of v)) d) (im : Image) (flying : InFlight) (left : Image) : Type 0 where
  pub choice : ℕ → Bool
  pub taken : (j : ℕ) → choice j ≡ true → (k : ℕ) × IsJournalAt v.layout j k × HeaderFliesTo im k flying
  pub full : Image
  pub is : Replayed left v.layout full
  pub has : HasBlocksFor v full
  pub readable : RingsCanBeRead v full.at
  pub became : ℕ → List ℕ
  pub replayed : ℕ → List ℕ
  pub outcome : IsOutcome (Trees (images_of v)) d became
  pub replay : IsReplayOfRings (Trees (images_of v)) d rings choice became replayed
  pub near : (b : ℕ) → (replayed b ≡ full.at b) ⊎ IsPlace v b
  -- a replay may still change what it might
  pub change : (b : ℕ) → MayChange im v.layout b → MayChange left v.layout b
  -- a header that has come to its place, with all else that flew to its journal, counts
  pub landed : (j k : ℕ) → IsJournalAt v.layout j k → HeaderFliesTo im k flying → HasLandedAt im k flying left → choice j ≡ true
  -- each journal is in its blocks
  pub many : (j k : ℕ) → IsJournalAt v.layout j k → (ring_at left k).places ≡ v.places k
  pub there : (j k p : ℕ) → IsJournalAt v.layout j k → p < v.places k → content_block (every left k) p ≡ v.place k p
  -- each journal says what it said, or, where its new head is taken, what it says with that header in its place
  pub says : (j k : ℕ) → IsJournalAt v.layout j k → SaysAs (ring_at left k) (if choice j then landed_at im k flying else ring_at im k)
  -- and it is the machine's disk once all has settled so, with nothing in flight
  pub rests : (e : Disk (Trees (images_of v))) (after : Rings (Trees (images_of v)) e) → HasSettledTo v left e → KeepsHeads v rings choice after → IsDiskOf v e after left (λ b. None)

-- Such an outcome stands, its journals replayed, for the tree of the history with a loss for each life that has none, whichever lives these are that keep what the heads of that
-- choice have; and this history is legal.
abbrev pub OutcomesStand : Type 0
OutcomesStand = (v : Volume) (u w : World (Trees (images_of v))) (rings : Rings (Trees (images_of v)) w.disk) (im left : Image) (flying : InFlight)
    → BeginsAt (Trees (images_of v)) u → Run (Trees (images_of v)) u w → IsDiskOf v w.disk rings im flying → (of : IsOutcomeOf v w.disk rings im flying left)
    → (ls : List Loss) → AreLives w.book.published (head_cuts (Trees (images_of v)) w.disk (λ i. of.choice (rings.one i))) ls
    → history.Legal (history_of (images_of v) (w.items ++ gones (Trees (images_of v)) ls)) w.book.start
    × StandsReplayed left (tree_of (history_of (images_of v) (w.items ++ gones (Trees (images_of v)) ls)) w.book.start)
