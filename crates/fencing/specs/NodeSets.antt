-- Sets of nodes.
use Rattle.std.specs.Prelude.{ℕ, ◌-◌, ◌^◌, Bool, not, nat_eq, bit_and, bit_or, List, [], ◌∷◌, Option, filter, find}

-- whether the node belongs to the set: its bit is set
abbrev pub has : ℕ → ℕ → Bool
has set node = not (nat_eq (bit_and set (2 ^ node)) 0)

abbrev pub with_node : ℕ → ℕ → ℕ
with_node set node = bit_or set (2 ^ node)

abbrev pub without_node : ℕ → ℕ → ℕ
without_node set node = bit_and set (2 ^ 16 - 1 - 2 ^ node)

-- every node, in rising order
abbrev pub all_nodes : List ℕ
all_nodes = 0 ∷ 1 ∷ 2 ∷ 3 ∷ 4 ∷ 5 ∷ 6 ∷ 7 ∷ 8 ∷ 9 ∷ 10 ∷ 11 ∷ 12 ∷ 13 ∷ 14 ∷ 15 ∷ []

-- the nodes of the set, in rising order
abbrev pub nodes_of : ℕ → List ℕ
nodes_of set = filter (has set) all_nodes

-- the least node of the set, if it has one
abbrev pub least_of : ℕ → Option ℕ
least_of set = find (has set) all_nodes
