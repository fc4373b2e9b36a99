-- Laws of what becomes of writes in flight.
use Rattle.std.specs.Prelude.{ℕ, ◌≡◌, ◌⊎◌, ◌<◌, List, length, Some}
use Rattle.log_layout.specs.Journal.{IsWhole, Ring, head_in}
use Rattle.journal_outcomes.specs.Rings.{ChunksFly, HeaderFlies, InFlight, IsRingOutcome, MayFly, SaysAs, landed}

-- ---- of one journal

-- The law of outcomes: whatever became of the writes in flight to a journal, it says what it said, or, where a log header was in flight, what it
-- says with that header in its place.
abbrev pub OutcomesSayOne : Type 0
OutcomesSayOne = (ring : Ring) (flying : InFlight) (left : Ring) (may : MayFly ring flying) → IsRingOutcome ring flying left
    → SaysAs left ring ⊎ (HeaderFlies ring may.head flying × SaysAs left (landed ring flying))

-- blocks of a transaction that have landed change nothing
abbrev pub LandedChunksSayNothing : Type 0
LandedChunksSayNothing = (ring : Ring) (flying : InFlight) (may : MayFly ring flying) → ChunksFly ring may.head flying → SaysAs (landed ring flying) ring

-- a log header that has landed is the head
abbrev pub LandedHeadersHead : Type 0
LandedHeadersHead = (ring : Ring) (flying : InFlight) (may : MayFly ring flying) (one : HeaderFlies ring may.head flying) → head_in (landed ring flying) ≡ Some one.header

-- the writes are of whole blocks
abbrev pub AreWhole : Ring → InFlight → Type 0
AreWhole ring flying = (p : ℕ) (bytes : List ℕ) → p < ring.places → flying p ≡ Some bytes → length bytes ≡ ring.size

-- that no write has come to its place is an outcome, and so is that each has
pub record AreOutcomes (ring : Ring) (flying : InFlight) : Type 0 where
  pub all_old : IsWhole ring → IsRingOutcome ring flying ring
  pub all_new : AreWhole ring flying → IsRingOutcome ring flying (landed ring flying)

abbrev pub OldAndNewAreOutcomes : Type 0
OldAndNewAreOutcomes = (ring : Ring) (flying : InFlight) → AreOutcomes ring flying
