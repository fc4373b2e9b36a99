-- What the check of a history answers.
use Rattle.std.specs.Prelude.{ℕ, ◌<◌, ◌≤◌, Bool, false, not, List, length, take}
use Rattle.file_tree.specs.Apply.{Answers}
use Rattle.file_tree.specs.Tree.{Tree}
use Rattle.file_tree.specs.declared.call.Call.{Call}
use Rattle.file_tree.specs.declared.reply.Reply.{Reply}
use Rattle.cluster_history.specs.History.{AllAnswer, Legal, after, alive, any_drops}
use Rattle.cluster_history.specs.declared.Item.{Item}
use Rattle.cluster_history.specs.declared.Item.TheVariants as item
use Rattle.history_checks.specs.declared.checking.Verdict.{Verdict}
use Rattle.history_checks.specs.declared.checking.Verdict.TheVariants as verdict

-- the item is a call that no later loss takes out
abbrev pub lives : Item → List Item → Bool
lives (item.Lost node kept) later = false
lives (item.Call node client number call reply) later = not (any_drops node number later)

-- in the front of this length the calls that are alive don't answer so, and in each shorter one they do
pub record IsLeastFailing (history : List Item) (start : Tree) (n : ℕ) : Type 0 where
  pub within : n ≤ length history
  pub fails : AllAnswer (alive (take n history)) start → ⊥
  pub before : (m : ℕ) → m < n → AllAnswer (alive (take m history)) start

-- what a verdict says of a history
abbrev pub Says : Verdict → List Item → Tree → Type 0
Says verdict.Legal history start = Legal history start
Says (verdict.Fails n) history start = IsLeastFailing history start n

-- the tree behind a call that was answered so
abbrev pub tree_after : Call → Reply → Tree → Tree
tree_after call reply t = after (record { call = call; reply = reply }) t

abbrev pub MayAnswer : Call → Reply → Tree → Type 0
MayAnswer call reply t = Answers call t reply (tree_after call reply t)
