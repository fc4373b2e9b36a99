use Rattle.std.proofs.Common.{take}
use Rattle.std.specs.Prelude.{Contains}
use Rattle.drafts.specs.declared.change.Written.{Written}
use Rattle.table_changes.specs.Doubling.{IsOfTable}
use Rattle.table_changes.proofs.putting.are_of_table.Given as goal

abbrev pub invariant-loop-one : goal.invariant-loop-one
invariant-loop-one l = (w : Written) → Contains (take l.one-index l.blocks) w → IsOfTable l.directory l.below l.taken.items w.block
