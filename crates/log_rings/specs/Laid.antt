-- A journal on the disk and a node's log in memory: what the one has is what the other says.
use Rattle.std.specs.Prelude.{ℕ, ◌≡◌, ◌+◌, ◌<◌, ◌≤◌, true, false, List, [], ◌∷◌, ◌++◌, map, Option, None, Some, Ok, ⊤}
use Rattle.std.specs.FinMap as table
use Rattle.std.specs.List.{AllByRecursion}
use Rattle.log_layout.specs.Chunks.{Logged, nothing}
use Rattle.log_layout.specs.Journal.{Ring, blocks_from, head_in, next, tail_of, way}
use Rattle.log_layout.specs.Live.{live_entry}
use Rattle.log_layout.specs.Transactions.{Sequenced, reading}
use Rattle.log_layout.specs.declared.log_header.LogHeader.{LogHeader}
use Rattle.node_journal.specs.Places.{place_on}
use Rattle.log_tables.specs.Versions.Way.{Home, Away, Flying}
use Rattle.log_values.specs.Log.{Entry, LogValue, Way}

-- ---- transactions in a journal

-- a transaction that stands in a journal: where it begins, how many places it takes, its header's among them, and what is read there
pub record Laid : Type 0 where
  pub first : ℕ
  pub count : ℕ
  pub sequenced : Sequenced

abbrev pub sequenced_all : List Laid → List Sequenced
sequenced_all ts = map (λ (t : Laid). t.sequenced) ts

-- how many places they take
abbrev pub places_of : List Laid → ℕ
places_of [] = 0
places_of (t ∷ ts) = t.count + places_of ts

-- They stand one behind the other, from one place up to before another, and each is read behind the one before it; the first behind a header of this sequence, if there is one.
abbrev pub AreLaid : Ring → ℕ → Option ℕ → List Laid → ℕ → Type 0
AreLaid ring p last [] q = p ≡ q
AreLaid ring p last (t ∷ ts) q = (t.first ≡ p) × (1 ≤ t.count) × (reading ring.size [] last nothing (blocks_from ring p t.count) ≡ Ok (t.sequenced ∷ []))
    × AreLaid ring (place_on ring.places p t.count) (Some t.sequenced.sequence) ts q

-- the sequence of each is below those of all behind it
abbrev pub SequencesRise : List Laid → Type 0
SequencesRise [] = ⊤
SequencesRise (t ∷ ts) = AllByRecursion (λ (u : Laid). t.sequenced.sequence < u.sequenced.sequence) ts × SequencesRise ts

-- ---- live blocks

-- the journal's copy of a block that isn't home is what is to go there
abbrev pub HasContent : Way → Logged → Type 0
HasContent Home l = ⊤
HasContent (Away bytes) l = l.bytes ≡ bytes
HasContent (Flying bytes) l = l.bytes ≡ bytes

-- The block is live in the journal as the log says: its copy is that of a transaction that begins at the entry's place, and those behind that have none.
pub record IsEntryOf (laid : List Laid) (b : ℕ) (e : Entry) : Type 0 where
  pub copy : Logged
  pub before : List Laid
  pub its : Laid
  pub behind : List Laid
  pub parts : laid ≡ before ++ its ∷ behind
  pub begins : its.first ≡ e.first
  pub live : live_entry (sequenced_all (its ∷ behind)) b ≡ Some copy
  pub last : live_entry (sequenced_all behind) b ≡ None
  pub content : HasContent e.way copy

abbrev pub IsLiveAs : List Laid → ℕ → Option Entry → Type 0
IsLiveAs laid b None = live_entry (sequenced_all laid) b ≡ None
IsLiveAs laid b (Some e) = IsEntryOf laid b e

-- ---- a journal and a log

-- The journal's head is the log's. From its tail up to it these transactions stand, none where the head is a clean one; and what they have live is what the log says.
pub record IsRingOf (ring : Ring) (log : LogValue) (laid : List Laid) : Type 0 where
  pub size : ring.size ≡ log.journal.size
  pub places : ring.places ≡ log.journal.length
  pub head : LogHeader
  pub headed : head_in ring ≡ Some head
  pub place : head.blkno ≡ log.head
  pub sequence : head.sequence ≡ log.sequence
  pub clean : head.clean ≡ log.clean
  pub tail : tail_of head ≡ log.tail
  pub none : log.clean ≡ true → laid ≡ []
  pub are : log.clean ≡ false → AreLaid ring log.tail None laid (next ring.places log.head)
  pub whole : log.clean ≡ false → places_of laid ≡ way ring.places log.tail log.head + 1
  pub rise : SequencesRise laid
  -- the last of them is the head's
  pub last : (ts : List Laid) (t : Laid) → laid ≡ ts ++ t ∷ [] → t.sequenced.sequence ≡ log.sequence
  pub live : (b : ℕ) → IsLiveAs laid b (table.get log.live b)
