use Rattle.call_blocks.proofs.Lists.{lists_are_of_the_tree}
use Rattle.call_blocks.proofs.calls_lock_inodes_of_the_tree.Goals as goal

pub returns : goal.returns
returns c = lists_are_of_the_tree
