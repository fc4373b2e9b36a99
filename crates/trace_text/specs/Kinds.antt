-- What an item tells of: a lock that a node asks for, holds or lowers; what a node reads and writes; or what becomes of nodes.
use Rattle.std.specs.Prelude.{⊤}
use Rattle.trace_text.specs.declared.item.TraceItem.{TraceItem}
use Rattle.trace_text.specs.declared.item.TraceItem.TheVariants as trace

abbrev pub IsOfLock : TraceItem → Type 0
IsOfLock (trace.Ask node lock state) = ⊤
IsOfLock (trace.Grant node lock state) = ⊤
IsOfLock (trace.Callback node lock state) = ⊤
IsOfLock (trace.Down node lock state) = ⊤
IsOfLock _ = ⊥

abbrev pub IsOfDisk : TraceItem → Type 0
IsOfDisk (trace.Read node block) = ⊤
IsOfDisk (trace.WriteLog node block) = ⊤
IsOfDisk (trace.WriteHead node block sequence upto) = ⊤
IsOfDisk (trace.WriteClean node block sequence upto) = ⊤
IsOfDisk (trace.WriteHome node block) = ⊤
IsOfDisk (trace.WriteReplay node block) = ⊤
IsOfDisk (trace.Barrier node) = ⊤
IsOfDisk (trace.Commit node sequence upto) = ⊤
IsOfDisk _ = ⊥

abbrev pub IsOfNode : TraceItem → Type 0
IsOfNode (trace.Join node) = ⊤
IsOfNode (trace.Full node need free) = ⊤
IsOfNode (trace.Crash node) = ⊤
IsOfNode (trace.Withdraw node before now) = ⊤
IsOfNode (trace.Fence node) = ⊤
IsOfNode (trace.View generation) = ⊤
IsOfNode (trace.Recovered node by) = ⊤
IsOfNode (trace.Lost node kept) = ⊤
IsOfNode (trace.Unmount node) = ⊤
IsOfNode _ = ⊥
