-- The numbers of a node's calls, with one more.
use Rattle.std.specs.Prelude.{◌+◌, Bool, if◌then◌else◌}
use Rattle.logged_node.specs.declared.node.CallNumbers.{CallNumbers}

-- with a call that changes something or not
abbrev pub with_call : CallNumbers → Bool → CallNumbers
with_call n changes = record n { answered = n.answered + 1; changed = if changes then n.answered + 1 else n.changed }
