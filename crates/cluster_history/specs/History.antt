-- Histories: which calls are alive, which histories are legal, and what they keep.
use Rattle.std.specs.Prelude.{ℕ, ◌≡◌, ◌+◌, ◌<◌, ◌≤◌, ◌==◌, ◌&&◌, ◌||◌, Bool, false, nat_lt, List, [], ◌∷◌, ◌++◌, length, take, slice_get, Some, if◌then◌else◌, ⊤}
use Rattle.file_tree.specs.Tree.{Tree}
use Rattle.file_tree.specs.Apply.{Answers, apply}
use Rattle.file_tree.specs.declared.call.Call.{Call}
use Rattle.file_tree.specs.declared.call.Call.TheVariants as calls
use Rattle.file_tree.specs.declared.reply.Reply.{Reply}
use Rattle.file_tree.specs.declared.reply.Reply.TheVariants as replies
use Rattle.cluster_history.specs.declared.Item.{Item}
use Rattle.cluster_history.specs.declared.Item.TheVariants as item

-- a call and its reply
pub record Replied : Type 0 where
  pub call : Call
  pub reply : Reply

-- ---- which calls are alive

-- the item takes out the call of this node with this number
abbrev pub drops : ℕ → ℕ → Item → Bool
drops node number (item.Call i client n call reply) = false
drops node number (item.Lost i kept) = (i == node) && nat_lt kept number

abbrev pub any_drops : ℕ → ℕ → List Item → Bool
any_drops node number [] = false
any_drops node number (i ∷ is) = drops node number i || any_drops node number is

-- the calls, without each that a later loss of its node takes out
abbrev pub alive : List Item → List Replied
alive [] = []
alive (item.Lost i kept ∷ is) = alive is
alive (item.Call i client n call reply ∷ is) =
    if any_drops i n is then alive is else record { call = call; reply = reply } ∷ alive is

-- how many calls losses take out
abbrev pub lost_count : List Item → ℕ
lost_count [] = 0
lost_count (item.Lost i kept ∷ is) = lost_count is
lost_count (item.Call i client n call reply ∷ is) = (if any_drops i n is then 1 else 0) + lost_count is

-- ---- which histories are legal

-- the tree after a call that was answered so
abbrev pub after : Replied → Tree → Tree
after r t = elim r.reply [ replies.NoSpace ↦ t | _ ↦ (apply r.call t).tree ]

abbrev pub tree_after : List Replied → Tree → Tree
tree_after [] t = t
tree_after (r ∷ rs) t = tree_after rs (after r t)

-- taken one by one, each call answers its reply
abbrev pub AllAnswer : List Replied → Tree → Type 0
AllAnswer [] t = ⊤
AllAnswer (r ∷ rs) t = Answers r.call t r.reply (after r t) × AllAnswer rs (after r t)

-- in each prefix of the history, the calls that are alive there answer their replies
abbrev pub Legal : List Item → Tree → Type 0
Legal history start = (n : ℕ) → n ≤ length history → AllAnswer (alive (take n history)) start

-- the tree at the history's end
abbrev pub tree_of : List Item → Tree → Tree
tree_of history start = tree_after (alive history) start

-- a loss keeps every earlier sync of its node that was answered Ok, and so all before it
abbrev pub KeepsSynced : List Item → Type 0
KeepsSynced history = (p q node client number kept : ℕ) → p < q
    → slice_get history p ≡ Some (item.Call node client number calls.Sync replies.Ok)
    → slice_get history q ≡ Some (item.Lost node kept) → number ≤ kept

-- ---- the numbers of calls

abbrev pub calls_of : ℕ → List Item → ℕ
calls_of node [] = 0
calls_of node (item.Call i client n call reply ∷ is) = (if i == node then 1 else 0) + calls_of node is
calls_of node (item.Lost i kept ∷ is) = calls_of node is

-- the calls of each node are numbered one after the other, from 1 through the whole history
abbrev pub IsNumbered : List Item → Type 0
IsNumbered history = (p node client number : ℕ) (call : Call) (reply : Reply)
    → slice_get history p ≡ Some (item.Call node client number call reply) → number ≡ calls_of node (take p history) + 1

-- ---- histories without a loss

abbrev pub NoneLost : List Item → Type 0
NoneLost [] = ⊤
NoneLost (item.Call i client n call reply ∷ is) = NoneLost is
NoneLost (item.Lost i kept ∷ is) = ⊥

-- one more call, answered as the tree at the end answers it, keeps a history without a loss legal, and is what its tree then has
abbrev pub GoesOn : Type 0
GoesOn = (history : List Item) (start : Tree) (node client number : ℕ) (call : Call) (reply : Reply) → NoneLost history → Legal history start
    → Answers call (tree_of history start) reply (after (record { call = call; reply = reply }) (tree_of history start))
    → Legal (history ++ item.Call node client number call reply ∷ []) start
    × (tree_of (history ++ item.Call node client number call reply ∷ []) start ≡ after (record { call = call; reply = reply }) (tree_of history start))
