-- What sets a demotion's stages back, and that no other event does.
use Rattle.std.specs.Prelude.{ℕ, ◌≡◌, ⊤, false}
use Rattle.cluster_laws.specs.Files.{Files, LockOf, Touches}
use Rattle.cluster_laws.specs.World as world
use Rattle.cluster_events.specs.Cluster.{Cluster, BookOf, Event, Works, Together}
use Rattle.cluster_laws.specs.Log.{IsHeader, IsFlushed, IsRevoked}
use Rattle.event_lists.specs.Gives.{DiskOf}
use Rattle.event_lists.specs.Demotions.{IsAtHome}

-- node i answers a call that touches the lock
abbrev pub TouchesLock : (F : Files) (c c' : Cluster F) → Event F c c' → ℕ → F.Lock → Type 0
TouchesLock F c _ (Works _ (world.Answers j said v change cache no_sync a) may) i l = (j ≡ i) × Touches F change l
TouchesLock F c _ _ i l = ⊥

-- a header of journal i that begins is one that its log writes
abbrev pub HeaderMinds : (F : Files) (c c' : Cluster F) → Event F c c' → ℕ → Type 0
HeaderMinds F c _ (Works _ (world.Begins k h single heads) may) i = k ≡ i → (u : ℕ) × IsHeader F (BookOf F c) (DiskOf F c) i u h
HeaderMinds F c _ _ i = ⊤

-- a live block of journal i under the lock is written home once more
abbrev pub WritesHomeUnder : (F : Files) (c c' : Cluster F) → Event F c c' → ℕ → F.Lock → Type 0
WritesHomeUnder F c _ (Works _ (world.Writes r b v k live) may) i l = (k ≡ i) × (LockOf F ((BookOf F c).says i ((BookOf F c).low i) b) ≡ l)
WritesHomeUnder F c _ _ i l = ⊥

-- Past its flush a lock keeps the later stages while headers of the journal, for other locks, begin, are in flight, and end.
pub record StagesKeep (F : Files) (c c' : Cluster F) (event : Event F c c') (i : ℕ) (l : F.Lock) : Type 0 where
  pub flushed : (TouchesLock F c c' event i l → ⊥) → IsFlushed F (BookOf F c) i l → IsFlushed F (BookOf F c') i l
  pub at_home : HeaderMinds F c c' event i → (WritesHomeUnder F c c' event i l → ⊥) → IsFlushed F (BookOf F c) i l
      → IsAtHome F (BookOf F c) (DiskOf F c) i l → IsAtHome F (BookOf F c') (DiskOf F c') i l
  pub revoked : HeaderMinds F c c' event i → IsFlushed F (BookOf F c) i l
      → IsRevoked F (BookOf F c) (DiskOf F c) i l → IsRevoked F (BookOf F c') (DiskOf F c') i l

-- of a node whose slot doesn't wait: what it reached stays, whatever it or another node does
abbrev pub StagesStay : Files → Type 0
StagesStay F = (c c' : Cluster F) (event : Event F c c') (i : ℕ) (l : F.Lock) → Together F c → c.waits i ≡ false → StagesKeep F c c' event i l
