-- What operations make of a disk, and which of them items tell.
use Rattle.std.specs.Prelude.{ℕ, List, [], ◌∷◌, length, take}
use Rattle.std.specs.List.{filter_map}
use Rattle.disk_items.specs.Deeds.{deed_told}
use Rattle.shared_disk.specs.Disk.{Barrier, DiskState, Fence, Operation, Write, after_barrier, after_fence, after_write}
use Rattle.trace_text.specs.declared.item.TraceItem.{TraceItem}

-- a write is in flight, a barrier brings its node's writes to their places, and a fence leaves there what they became
abbrev pub with_operation : DiskState → Operation → DiskState
with_operation d (Write node block bytes) = after_write d node block bytes
with_operation d (Barrier node) = after_barrier d node
with_operation d (Fence node became) = after_fence d node became

-- the disk behind operations, one by one
abbrev pub disk_after : DiskState → List Operation → DiskState
disk_after d [] = d
disk_after d (o ∷ os) = disk_after (with_operation d o) os

-- how many operations these items tell
abbrev pub told_count : List TraceItem → ℕ
told_count items = length (filter_map deed_told items)

-- of operations those that these items tell, which are the first
abbrev pub first_told : List TraceItem → List Operation → List Operation
first_told items operations = take (told_count items) operations
