-- What happens to a cluster's membership.
use Rattle.std.specs.Prelude.{ℕ, ◌+◌, ◌==◌, Option, None, if◌then◌else◌}
use Rattle.fencing.specs.declared.Membership.{Membership}
use Rattle.fencing.specs.NodeSets.{with_node, without_node, least_of}

-- the node is no member any more, and its slot waits
abbrev pub stopped : Membership → ℕ → Membership
stopped m node = record m { members = without_node m.members node; waiting = with_node m.waiting node }

abbrev pub fenced_too : Membership → ℕ → Membership
fenced_too m node = record m { fenced = with_node m.fenced node }

abbrev pub recovered_too : Membership → ℕ → Membership
recovered_too m node = record m { waiting = without_node m.waiting node }

-- the node is a member, and not fenced
abbrev pub admitted : Membership → ℕ → Membership
admitted m node = record m { members = with_node m.members node; fenced = without_node m.fenced node }

abbrev pub in_next_view : Membership → Membership
in_next_view m = record m { generation = m.generation + 1 }

-- the least member, where a slot waits
abbrev pub replayer_of : Membership → Option ℕ
replayer_of m = if m.waiting == 0 then None else least_of m.members
