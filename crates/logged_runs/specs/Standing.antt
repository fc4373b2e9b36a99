-- What remains of items, by what the disks say of the journal's heads.
use Rattle.std.specs.Prelude.{ℕ, ◌≡◌, ◌≢◌, ◌<◌, ◌≤◌, ◌↔◌, false, true, slice_get, List, Some}
use Rattle.cluster_history.specs.Changes.{Changes}
use Rattle.cluster_history.specs.History.{Legal, calls_of, tree_of}
use Rattle.cluster_history.specs.declared.Item.TheVariants as item
use Rattle.file_tree.specs.Tree.{Tree}
use Rattle.file_tree.specs.declared.call.Call.{Call}
use Rattle.file_tree.specs.declared.call.Call.TheVariants as calls
use Rattle.file_tree.specs.declared.reply.Reply.{Reply}
use Rattle.file_tree.specs.declared.reply.Reply.TheVariants as replies
use Rattle.image_machine.specs.Volumes.{Volume}
use Rattle.image_model.specs.Image.{Image}
use Rattle.image_model.specs.Replays.{StandsReplayed}
use Rattle.image_model.specs.Stands.{IsJournalAt}
use Rattle.journal_outcomes.specs.Images.{ring_at}
use Rattle.log_layout.specs.Journal.{IsClean}
use Rattle.run_rules.specs.Follows.{history_of}
use Rattle.run_rules.specs.Lives.{DiskHeads, head_of, remains, upto_of}
use Rattle.script_lang.specs.declared.script.Client.{Client}
use Rattle.trace_text.specs.declared.item.TraceItem.{TraceItem}
use Rattle.logged_runs.specs.Starts.{only_life}

-- No call of node 1 changes anything that is behind this number and up to a sync that was answered Ok.
abbrev pub SyncsStand : List Client → ℕ → List TraceItem → Type 0
SyncsStand clients upto items = (p q client other number earlier : ℕ) (call : Call) (reply : Reply)
    → slice_get (history_of clients items) p ≡ Some (item.Call 1 client number calls.Sync replies.Ok)
    → slice_get (history_of clients items) q ≡ Some (item.Call 1 other earlier call reply)
    → upto < earlier → earlier ≤ number → Changes (record { call = call; reply = reply }) ≡ false

-- What remains of the items is legal, and the image stands, its journals replayed, for its tree; and what was synced is in it.
pub record StandsAsTold (clients : List Client) (disks : DiskHeads) (items : List TraceItem) (start : Tree) (left : Image) : Type 0 where
  pub legal : Legal (remains clients disks items) start
  pub stands : StandsReplayed left (tree_of (remains clients disks items) start)
  pub synced : SyncsStand clients (upto_of disks only_life items) items
  -- the head has no more calls than were answered
  pub within : upto_of disks only_life items ≤ calls_of 1 (history_of clients items)

-- Of the journals in the image that is left each is clean but the node's own, with its dinode in block d, and that is where its head is.
pub record AreCleanAsTold (v : Volume) (d : ℕ) (disks : DiskHeads) (items : List TraceItem) (left : Image) : Type 0 where
  pub others : (j k : ℕ) → IsJournalAt v.layout j k → k ≢ d → IsClean (ring_at left k)
  pub own : IsClean (ring_at left d) ↔ ((head_of disks only_life items).is_clean ≡ true)

-- both
pub record IsLeftAsTold (v : Volume) (d : ℕ) (clients : List Client) (disks : DiskHeads) (items : List TraceItem) (start : Tree) (left : Image) : Type 0 where
  pub stands : StandsAsTold clients disks items start left
  pub journals : AreCleanAsTold v d disks items left
