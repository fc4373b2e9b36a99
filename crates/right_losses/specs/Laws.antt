-- Laws of right losses: there is one, and only one, and it keeps what was synced.
use Rattle.std.specs.Prelude.{ℕ, ◌≡◌, ◌<◌, ◌≤◌, ◌++◌, false, List, [], ◌∷◌, slice_get, Some}
use Rattle.cluster_history.specs.Changes.{Changes}
use Rattle.cluster_history.specs.History.{IsNumbered, KeepsSynced, calls_of}
use Rattle.cluster_history.specs.Losses.{LossIsRight}
use Rattle.cluster_history.specs.declared.Item.{Item}
use Rattle.cluster_history.specs.declared.Item.TheVariants as item
use Rattle.file_tree.specs.declared.call.Call.{Call}
use Rattle.file_tree.specs.declared.call.Call.TheVariants as calls
use Rattle.file_tree.specs.declared.reply.Reply.{Reply}
use Rattle.file_tree.specs.declared.reply.Reply.TheVariants as replies
use Rattle.right_losses.specs.Kept.{kept_by}

-- Where the head had no more calls than there are, the loss that keeps those before the next change is right.
abbrev pub RightLossesAreFound : Type 0
RightLossesAreFound = (history : List Item) (node upto : ℕ) → IsNumbered history → upto ≤ calls_of node history → LossIsRight history node upto (kept_by node upto history)

-- no other is
abbrev pub RightLossesAreOne : Type 0
RightLossesAreOne = (history : List Item) (node upto kept : ℕ) → IsNumbered history → LossIsRight history node upto kept → kept ≡ kept_by node upto history

-- No call of the node changes anything that is behind this number and up to a sync that was answered Ok.
abbrev pub SyncsAreIn : List Item → ℕ → ℕ → Type 0
SyncsAreIn history node upto = (p q client other number earlier : ℕ) (call : Call) (reply : Reply) → slice_get history p ≡ Some (item.Call node client number calls.Sync replies.Ok)
    → slice_get history q ≡ Some (item.Call node other earlier call reply) → upto < earlier → earlier ≤ number → Changes (record { call = call; reply = reply }) ≡ false

-- Where that is so, a history that kept what was synced keeps it with a right loss.
abbrev pub RightLossesKeepSyncs : Type 0
RightLossesKeepSyncs = (history : List Item) (node upto kept : ℕ) → IsNumbered history → KeepsSynced history → SyncsAreIn history node upto → LossIsRight history node upto kept
    → KeepsSynced (history ++ item.Lost node kept ∷ [])
