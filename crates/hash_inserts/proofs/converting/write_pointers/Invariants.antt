use Rattle.std.proofs.Common.{length}
use Rattle.hash_inserts.proofs.FirstTable.{LeadTo}
use Rattle.hash_inserts.proofs.converting.write_pointers.Given as goal

abbrev pub invariant-loop-k : goal.invariant-loop-k
invariant-loop-k l = LeadTo l.area (length l.initial.area) l.k l.leaf
