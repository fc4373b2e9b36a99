use Rattle.std.proofs.Common.{◌≡◌, []}
use Rattle.file_tree.specs.Tree.{all_put}
use Rattle.read_calls.proofs.answers.in_order.Given as goal

abbrev pub invariant-loop-name : goal.invariant-loop-name
invariant-loop-name l = all_put l.list l.name-iterator.rest.items ≡ all_put [] l.fn.names.items
