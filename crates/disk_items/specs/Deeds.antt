-- What the items of a trace tell of a disk, and the operations that were made on it.
use Rattle.std.specs.Prelude.{ℕ, ◌≡◌, List, [], ◌∷◌, ◌++◌, map, Option, None, Some}
use Rattle.std.specs.List.{filter_map}
use Rattle.shared_disk.specs.Disk.{Operation, Write, Barrier, Fence, Gains}
use Rattle.trace_text.specs.declared.item.TraceItem.{TraceItem}
use Rattle.trace_text.specs.declared.item.TraceItem.TheVariants as trace

-- A node's write to a block, its barrier, or its fence.
pub data Deed : Type 0 where
  Wrote : (node block : ℕ) → Deed
  MadeBarrier : (node : ℕ) → Deed
  WasFenced : (node : ℕ) → Deed

-- what an operation was, but for the bytes
abbrev pub deed_of : Operation → Deed
deed_of (Write node block bytes) = Wrote node block
deed_of (Barrier node) = MadeBarrier node
deed_of (Fence node became) = WasFenced node

-- what an item tells, if it tells of one: a write of any kind, a barrier, or a fence
abbrev pub deed_told : TraceItem → Option Deed
deed_told (trace.WriteLog node block) = Some (Wrote node block)
deed_told (trace.WriteHead node block sequence upto) = Some (Wrote node block)
deed_told (trace.WriteClean node block sequence upto) = Some (Wrote node block)
deed_told (trace.WriteHome node block) = Some (Wrote node block)
deed_told (trace.WriteReplay node block) = Some (Wrote node block)
deed_told (trace.Barrier node) = Some (MadeBarrier node)
deed_told (trace.Fence node) = Some (WasFenced node)
deed_told _ = None

-- the writes, barriers and fences that these items tell are these operations, in order
abbrev pub AreDoneBy : List TraceItem → List Operation → Type 0
AreDoneBy items operations = filter_map deed_told items ≡ map deed_of operations

-- the list of operations gained what these items tell, as far as it is told
abbrev pub AreTold : (before after : Option (List Operation)) → List TraceItem → Type 0
AreTold before after items = (operations : List Operation) × AreDoneBy items operations × Gains before after operations

-- it gained that, or one write of this node besides, of which no item tells: one that failed
pub data AreToldButOne (node : ℕ) (before after : Option (List Operation)) (items : List TraceItem) : Type 0 where
  each : AreTold before after items → AreToldButOne node before after items
  but_one : (operations : List Operation) (block : ℕ) (bytes : List ℕ) → AreDoneBy items operations → Gains before after (operations ++ Write node block bytes ∷ [])
      → AreToldButOne node before after items
