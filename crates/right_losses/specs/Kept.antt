-- The number up to which a loss keeps a node's calls.
use Rattle.std.specs.Prelude.{ℕ, ◌-◌, ◌==◌, ◌&&◌, nat_lt, if◌then◌else◌, List, [], ◌∷◌, Option, None, Some}
use Rattle.cluster_history.specs.Changes.{Changes}
use Rattle.cluster_history.specs.History.{calls_of}
use Rattle.cluster_history.specs.declared.Item.{Item}
use Rattle.cluster_history.specs.declared.Item.TheVariants as item

-- the number of the node's first call above this one that changes something, if there is one
abbrev pub next_change : ℕ → ℕ → List Item → Option ℕ
next_change node upto [] = None
next_change node upto (item.Lost i kept ∷ is) = next_change node upto is
next_change node upto (item.Call i client number call reply ∷ is) =
    if (i == node) && (nat_lt upto number && Changes (record { call = call; reply = reply })) then Some number else next_change node upto is

-- the number before that, or that of the last of all calls
abbrev pub before_change : Option ℕ → ℕ → ℕ
before_change None all = all
before_change (Some number) all = number - 1

-- Where the accepted head had the node's calls up to a number, its loss keeps those before the next one that changes something.
abbrev pub kept_by : ℕ → ℕ → List Item → ℕ
kept_by node upto history = before_change (next_change node upto history) (calls_of node history)
