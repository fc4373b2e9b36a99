use Rattle.std.proofs.Common.{◌≡◌, take}
use Rattle.file_tree.specs.Tree.{names_in}
use Rattle.file_tree.specs.Held.{entries_held}
use Rattle.file_tree.proofs.tree.reads.names_of.Given as goal

abbrev pub invariant-loop-entry : goal.invariant-loop-entry
invariant-loop-entry l = l.names.items ≡ names_in (entries_held (take l.entry-index l.entries))
