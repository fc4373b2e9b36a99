-- The list of operations of a disk in memory, as far as it is told.
use Rattle.std.specs.Prelude.{ℕ, ◌≡◌, ◌+◌, ◌≤◌, List, [], ◌∷◌, ◌++◌, length, take, drop, Option, None, Some, nat_lt, if◌then◌else◌, vec_capacity}
use Rattle.shared_disk.specs.Disk.{Flight, Operation, Write, Barrier, Fence}
use Rattle.shared_disk.specs.Flights.{flights_in, AreSized}
use Rattle.shared_disk.specs.declared.places.Place.{Place}
use Rattle.shared_disk.specs.declared.operations.Kept.{Kept}
use Rattle.shared_disk.specs.declared.operations.Kept.TheVariants.{Written, Flushed, Settled}
use Rattle.shared_disk.specs.declared.operations.Operations.{Operations}

-- how many entries an operation is: a fence has one more for each write that it settles
abbrev pub entries_of : Operation → ℕ
entries_of (Write node block bytes) = 1
entries_of (Barrier node) = 1
entries_of (Fence node flights) = 1 + length flights

abbrev pub entries_in : List Operation → ℕ
entries_in [] = 0
entries_in (op ∷ ops) = entries_of op + entries_in ops

-- the list with one more operation, told while it has fewer entries than the limit
abbrev pub with_operation : ℕ → Option (List Operation) → Operation → Option (List Operation)
with_operation limit None op = None
with_operation limit (Some ops) op = if nat_lt (entries_in ops + entries_of op) limit then Some (ops ++ op ∷ []) else None

-- how many of the flights that are kept belong to an operation
abbrev pub takes_of : Kept → ℕ
takes_of (Written node) = 1
takes_of (Flushed node) = 0
takes_of (Settled node count) = count

abbrev pub takes_in : List Kept → ℕ
takes_in [] = 0
takes_in (k ∷ ks) = takes_of k + takes_in ks

-- the operations that are kept, each with its flights
abbrev pub operations : List Kept → List Flight → List Operation
operations [] fs = []
operations (Written node ∷ ks) [] = []
operations (Written node ∷ ks) (f ∷ fs) = Write node f.block f.bytes ∷ operations ks fs
operations (Flushed node ∷ ks) fs = Barrier node ∷ operations ks fs
operations (Settled node count ∷ ks) fs = Fence node (take count fs) ∷ operations ks (drop count fs)

abbrev pub flights_kept : Operations → List Flight
flights_kept o = flights_in (take o.used o.slots.items)

abbrev pub list_kept : Operations → List Operation
list_kept o = operations o.kept.items (flights_kept o)

abbrev pub list_told : Operations → Option (List Operation)
list_told o = if o.told then Some (list_kept o) else None

-- there is room for as many entries as the limit says
pub record IsKept (o : Operations) : Type 0 where
  pub slots : length o.slots.items ≡ o.limit
  pub sizes : AreSized o.size o.slots.items
  pub room : vec_capacity o.kept ≡ o.limit
  pub kept : length o.kept.items ≤ o.entries
  pub used : o.used ≤ o.entries
  pub within : o.entries ≤ o.limit
  pub takes : takes_in o.kept.items ≡ o.used
  pub entries : entries_in (list_kept o) ≡ o.entries

-- what stands in the block of a write that was in flight there
abbrev pub now_at : (ℕ → List ℕ) → Place → Flight
now_at block_at p = record { block = p.block; bytes = block_at p.block }

-- a flight that has become what stands in its block
abbrev pub as_in : (ℕ → List ℕ) → Flight → Flight
as_in block_at f = record { block = f.block; bytes = block_at f.block }

-- only what is kept and told has changed
pub record SameRoom (old new : Operations) : Type 0 where
  pub limit : new.limit ≡ old.limit
  pub size : new.size ≡ old.size
