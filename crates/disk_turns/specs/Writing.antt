-- Whole blocks, put on a disk at rest by a node.
use Rattle.std.specs.Prelude.{ℕ, ◌≡◌, ◌+◌, ◌≤◌, ◌<◌, ⊤, IsTrue, List, [], ◌∷◌, length, map}
use Rattle.std.specs.List.{AllByRecursion}
use Rattle.drafts.specs.declared.change.Written.{Written}
use Rattle.shared_disk.specs.Disk.{DiskState, Flight, written}

-- by rising number, none twice, from this one on
abbrev pub RiseFrom : ℕ → List Written → Type 0
RiseFrom least [] = ⊤
RiseFrom least (w ∷ ws) = (least ≤ w.block) × RiseFrom (w.block + 1) ws

-- whole blocks of the disk, by rising number
pub record AreOfDisk (d : DiskState) (blocks : List Written) : Type 0 where
  pub rise : RiseFrom 0 blocks
  pub inside : AllByRecursion (λ (w : Written). w.block < d.count) blocks
  pub whole : AllByRecursion (λ (w : Written). length w.bytes ≡ d.size) blocks

-- these as writes in flight
abbrev pub flights_of : List Written → List Flight
flights_of blocks = map (λ (w : Written). record { block = w.block; bytes = w.bytes }) blocks

-- only the writes of this node in flight are others: these
pub record AreInFlight (node : ℕ) (d d' : DiskState) (flights : List Flight) : Type 0 where
  pub size : d'.size ≡ d.size
  pub count : d'.count ≡ d.count
  pub tells : d'.tells ≡ d.tells
  pub blocks : d'.block_at ≡ d.block_at
  pub fenced : d'.is_fenced ≡ d.is_fenced
  pub own : d'.in_flight node ≡ flights
  pub others : (i : ℕ) → (i ≡ node → ⊥) → d'.in_flight i ≡ d.in_flight i

-- the disk is at rest again, and holds these blocks over what it held
pub record AreWritten (d d' : DiskState) (blocks : List Written) : Type 0 where
  pub size : d'.size ≡ d.size
  pub count : d'.count ≡ d.count
  pub tells : d'.tells ≡ d.tells
  pub fenced : d'.is_fenced ≡ d.is_fenced
  pub idle : (i : ℕ) → d'.in_flight i ≡ []
  pub blocks_are : IsTrue d.tells → (b : ℕ) → d'.block_at b ≡ written d.block_at (flights_of blocks) b
