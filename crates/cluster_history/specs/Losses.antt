-- Which calls are alive, as items; and which calls a loss may take out.
use Rattle.std.specs.Prelude.{ℕ, ◌≡◌, ◌+◌, ◌<◌, ◌≤◌, ◌==◌, ◌&&◌, nat_lt, true, false, List, [], ◌∷◌, ◌++◌, take, slice_get, Some, if◌then◌else◌}
use Rattle.file_tree.specs.declared.call.Call.{Call}
use Rattle.file_tree.specs.declared.reply.Reply.{Reply}
use Rattle.cluster_history.specs.declared.Item.{Item}
use Rattle.cluster_history.specs.declared.Item.TheVariants as item
use Rattle.cluster_history.specs.History.{Replied, any_drops, alive, calls_of}
use Rattle.cluster_history.specs.Changes.{Changes}

-- the call items that no later loss of their node takes out
abbrev pub living : List Item → List Item
living [] = []
living (item.Lost i kept ∷ is) = living is
living (item.Call i client n call reply ∷ is) = if any_drops i n is then living is else item.Call i client n call reply ∷ living is

-- calls and replies of items
abbrev pub replied : List Item → List Replied
replied [] = []
replied (item.Lost i kept ∷ is) = replied is
replied (item.Call i client n call reply ∷ is) = record { call = call; reply = reply } ∷ replied is

-- the items without the node's calls above a number
abbrev pub without_above : ℕ → ℕ → List Item → List Item
without_above node kept [] = []
without_above node kept (item.Lost i k ∷ is) = item.Lost i k ∷ without_above node kept is
without_above node kept (item.Call i client n call reply ∷ is) =
    if (node == i) && nat_lt kept n then without_above node kept is else item.Call i client n call reply ∷ without_above node kept is

-- what is alive is alive as items; one more call is alive, and a loss takes out its node's calls above what it keeps
pub record LivesOn : Type 0 where
  pub alive : (history : List Item) → alive history ≡ replied (living history)
  pub call : (history : List Item) (node client number : ℕ) (call : Call) (reply : Reply)
      → living (history ++ item.Call node client number call reply ∷ []) ≡ living history ++ item.Call node client number call reply ∷ []
  pub lost : (history : List Item) (node kept : ℕ) → living (history ++ item.Lost node kept ∷ []) ≡ without_above node kept (living history)

-- ---- what a loss may take out

-- A loss comes after these items, and the accepted head of its journal had the calls up to a number. It keeps at least those, and no
-- more than there are; none of those that it keeps beyond them changes the tree, and the first that it takes out does.
pub record LossIsRight (before : List Item) (node upto kept : ℕ) : Type 0 where
  pub order : upto ≤ kept
  pub below : kept ≤ calls_of node before
  pub between : (p client number : ℕ) (call : Call) (reply : Reply) → slice_get before p ≡ Some (item.Call node client number call reply)
      → upto < number → number ≤ kept → Changes (record { call = call; reply = reply }) ≡ false
  pub next : (p client number : ℕ) (call : Call) (reply : Reply) → slice_get before p ≡ Some (item.Call node client number call reply)
      → number ≡ kept + 1 → Changes (record { call = call; reply = reply }) ≡ true

-- each loss is right, where for the loss at each place the head's number is this
abbrev pub KeptRight : (ℕ → ℕ) → List Item → Type 0
KeptRight upto history = (p node kept : ℕ) → slice_get history p ≡ Some (item.Lost node kept) → LossIsRight (take p history) node (upto p) kept
