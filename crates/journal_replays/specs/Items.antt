-- The items of a replay's operations.
use Rattle.std.specs.Prelude.{List, map}
use Rattle.shared_disk.specs.Disk.{Operation, Write, Barrier, Fence}
use Rattle.trace_text.specs.declared.item.TraceItem.{TraceItem}
use Rattle.trace_text.specs.declared.item.TraceItem.TheVariants as trace

abbrev pub item_of : Operation → TraceItem
item_of (Write node block bytes) = trace.WriteReplay node block
item_of (Barrier node) = trace.Barrier node
item_of (Fence node became) = trace.Fence node

abbrev pub items_of : List Operation → List TraceItem
items_of operations = map item_of operations
