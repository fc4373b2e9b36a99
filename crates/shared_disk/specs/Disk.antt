-- What a shared disk holds, and what its calls do to it.
use Rattle.std.specs.Prelude.{ℕ, ◌≡◌, ◌<◌, ◌≤◌, ◌==◌, Bool, true, false, IsTrue, List, [], ◌∷◌, ◌++◌, length, map, nat_lt, Option, None, Some, unwrap_or, if◌then◌else◌, ⊤}
use Rattle.std.specs.List.{AllByRecursion}

-- a write in flight: the block that it goes to, and its bytes
pub record Flight : Type 0 where
  pub block : ℕ
  pub bytes : List ℕ

-- A disk has `count` blocks of `size` bytes. Where it tells what they hold, that is `block_at`.
-- Each node has its writes in flight, in rising order of their blocks.
pub record DiskState : Type 0 where
  pub count : ℕ
  pub size : ℕ
  pub tells : Bool
  pub block_at : ℕ → List ℕ
  pub in_flight : ℕ → List Flight
  pub is_fenced : ℕ → Bool

-- an entry of the list of operations; a fence has what each write in flight of its node became
pub data Operation : Type 0 where
  Write : ℕ → ℕ → List ℕ → Operation
  Barrier : ℕ → Operation
  Fence : ℕ → List Flight → Operation

-- the function with another value at one place
abbrev pub with_value : {A : Type 0} → (ℕ → A) → ℕ → A → ℕ → A
with_value f place value k = if k == place then value else f k

-- the bytes in flight to a block
abbrev pub flight_to : List Flight → ℕ → Option (List ℕ)
flight_to [] block = None
flight_to (f ∷ fs) block = if f.block == block then Some f.bytes else flight_to fs block

-- one more write in flight, at its place in the order
abbrev pub with_flight : List Flight → Flight → List Flight
with_flight [] new = new ∷ []
with_flight (f ∷ fs) new = if nat_lt new.block f.block then new ∷ f ∷ fs else f ∷ with_flight fs new

-- a block where these writes have come to their places
abbrev pub written : (ℕ → List ℕ) → List Flight → ℕ → List ℕ
written block_at flights block = unwrap_or (flight_to flights block) (block_at block)

-- what a node reads: its own write in flight for the block, else the block on the disk
abbrev pub read_gives : DiskState → ℕ → ℕ → List ℕ
read_gives s node block = written s.block_at (s.in_flight node) block

-- the blocks, as far as the disk tells them, once these writes have come to their places
abbrev pub settled : DiskState → List Flight → ℕ → List ℕ
settled s flights block = if s.tells then written s.block_at flights block else s.block_at block

abbrev pub after_write : DiskState → ℕ → ℕ → List ℕ → DiskState
after_write s node block bytes = record s { in_flight = with_value s.in_flight node (with_flight (s.in_flight node) (record { block = block; bytes = bytes })) }

abbrev pub after_barrier : DiskState → ℕ → DiskState
after_barrier s node = record s { block_at = settled s (s.in_flight node); in_flight = with_value s.in_flight node [] }

abbrev pub after_fence : DiskState → ℕ → List Flight → DiskState
after_fence s node became = record s { block_at = settled s became; in_flight = with_value s.in_flight node []; is_fenced = with_value s.is_fenced node true }

abbrev pub after_admit : DiskState → ℕ → DiskState
after_admit s node = record s { is_fenced = with_value s.is_fenced node false }

-- what each write in flight of the node may become: a whole block in the same place
pub record IsOutcome (s : DiskState) (node : ℕ) (became : List Flight) : Type 0 where
  pub places : map (λ f. f.block) became ≡ map (λ f. f.block) (s.in_flight node)
  pub sizes : AllByRecursion (λ f. length f.bytes ≡ s.size) became

-- the list of operations grows by these, as far as it is told
abbrev pub Gains : Option (List Operation) → Option (List Operation) → List Operation → Type 0
Gains old None ops = ⊤
Gains None (Some new) ops = ⊥
Gains (Some old) (Some new) ops = new ≡ old ++ ops

-- the blocks of these writes rise, so no block has two
abbrev pub AreRising : List Flight → Type 0
AreRising [] = ⊤
AreRising (f ∷ []) = ⊤
AreRising (f ∷ g ∷ fs) = (f.block < g.block) × AreRising (g ∷ fs)

-- writes to blocks of the disk, each of a whole block
pub record AreFlights (count size : ℕ) (flights : List Flight) : Type 0 where
  pub rise : AreRising flights
  pub within : AllByRecursion (λ f. f.block < count) flights
  pub sizes : AllByRecursion (λ f. length f.bytes ≡ size) flights

-- what holds of every disk
pub record IsSound (s : DiskState) : Type 0 where
  pub sizes : IsTrue s.tells → (k : ℕ) → k < s.count → length (s.block_at k) ≡ s.size
  pub flights : (node : ℕ) → AreFlights s.count s.size (s.in_flight node)
  pub run_open : s.is_fenced 0 ≡ false

-- nothing is in flight and no node is fenced, as on a disk just made or opened
pub record IsIdle (s : DiskState) : Type 0 where
  pub none_in_flight : (node : ℕ) → s.in_flight node ≡ []
  pub none_fenced : (node : ℕ) → s.is_fenced node ≡ false

-- a call only reads: the disk stays as it was, and so does its list of operations; no count of faults falls
pub record ReadsOnly (before now : DiskState) (told told_now : Option (List Operation)) (faults faults_now : ℕ → ℕ) : Type 0 where
  pub same : now ≡ before
  pub list : told_now ≡ told
  pub later : (node : ℕ) → faults node ≤ faults_now node
