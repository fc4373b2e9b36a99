use Rattle.call_locks.proofs.Changes.{needs_no_tree}
use Rattle.call_locks.proofs.laws.what_wants_nothing_looks_at_nothing.Goals as goal

pub returns : goal.returns
returns c = needs_no_tree
