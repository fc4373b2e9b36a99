-- The rings of a dirty start: no block is live in two; and so it stays, but for a header that begins or ends.
use Rattle.std.specs.Prelude.{ℕ, ◌≡◌, ⊤, Bool, true, false, Option, Some}
use Rattle.cluster_laws.specs.Files.{Files}
use Rattle.cluster_laws.specs.Mirror.{Disk}
use Rattle.cluster_laws.specs.Rings.{Rings}
use Rattle.cluster_laws.specs.World as world
use Rattle.cluster_events.specs.Cluster.{Cluster, Event, Works}
use Rattle.event_lists.specs.Gives.{DiskOf}
use Rattle.event_lists.specs.Begins.{Start, starting_disk}

-- what each journal has live at the start
pub record AreRings (F : Files) (s : Start F) (rings : ℕ → ℕ → Option F.Content) : Type 0 where
  -- none, where its slot doesn't wait
  pub waiting : (k b : ℕ) (v : F.Content) → rings k b ≡ Some v → s.waits k ≡ true
  -- no block is live in two
  pub apart : (r k b : ℕ) (u v : F.Content) → rings r b ≡ Some u → rings k b ≡ Some v → r ≡ k
  -- together they have what the start has
  pub has : (k b : ℕ) (v : F.Content) → rings k b ≡ Some v → s.live b ≡ Some v
  pub every : (b : ℕ) (v : F.Content) → s.live b ≡ Some v → (k : ℕ) × (rings k b ≡ Some v)

-- they are these: a journal whose slot waits speaks for the past, and another for its own node
pub record RingsAre (F : Files) (s : Start F) (rings : ℕ → ℕ → Option F.Content) (R : Rings F (starting_disk F s)) : Type 0 where
  pub past : R.past ≡ s.past
  pub live : (k : ℕ) (d : Bool) → R.live k d ≡ rings k
  pub waits : (k : ℕ) → s.waits k ≡ true → R.speaks k ≡ s.past
  pub own : (k : ℕ) → s.waits k ≡ false → R.speaks k ≡ k

abbrev pub RingsBegin : Files → Type 0
RingsBegin F = (s : Start F) (rings : ℕ → ℕ → Option F.Content) → AreRings F s rings → (R : Rings F (starting_disk F s)) × RingsAre F s rings R

-- of two disks the journals are the same
pub record SameRings (F : Files) (D D' : Disk F) (R : Rings F D) (R' : Rings F D') : Type 0 where
  pub speaks : R'.speaks ≡ R.speaks
  pub past : R'.past ≡ R.past
  pub live : R'.live ≡ R.live
  pub one : R'.one ≡ R.one

-- a header begins or ends: then the journals are those of `RingBegins` and `RingEnds`
abbrev pub IsOfHeader : (F : Files) (c c' : Cluster F) → Event F c c' → Type 0
IsOfHeader F c _ (Works _ (world.Begins i h single heads) may) = ⊤
IsOfHeader F c _ (Works _ (world.Ends i d) may) = ⊤
IsOfHeader F c _ _ = ⊥

-- every other event leaves each journal as it is: a write home and one that lands, a loss, a crash, a fence, a recovery among them
abbrev pub RingsStay : Files → Type 0
RingsStay F = (c c' : Cluster F) (event : Event F c c') → (IsOfHeader F c c' event → ⊥) → (R : Rings F (DiskOf F c)) → (R' : Rings F (DiskOf F c')) × SameRings F (DiskOf F c) (DiskOf F c') R R'
