-- The machine over file systems whose calls are those of the file tree: its history is a history of the cluster.
use Rattle.std.specs.Prelude.{false, ℕ, zero, suc, ◌≡◌, ◌⊎◌, Bool, List, [], ◌∷◌, ◌++◌, map, ◌<◌, ◌≤◌, Some, slice_get}
use Rattle.file_tree.specs.Tree.{Tree}
use Rattle.file_tree.specs.Apply as tree
use Rattle.file_tree.specs.declared.call.Call.{Call}
use Rattle.file_tree.specs.declared.call.Call.TheVariants as calls
use Rattle.file_tree.specs.declared.reply.Reply.{Reply}
use Rattle.file_tree.specs.declared.reply.Reply.TheVariants as replies
use Rattle.cluster_history.specs.declared.Item.TheVariants as item
use Rattle.cluster_history.specs.declared.Item as its
use Rattle.cluster_history.specs.History.{Replied, after, alive, tree_of}
use Rattle.cluster_history.specs.History as history
use Rattle.cluster_history.specs.Changes as changes
use Rattle.cluster_history.specs.Losses as losses
use Rattle.cluster_laws.specs.Files.{Files, RightTo, OthersLeaveTrees}
use Rattle.cluster_laws.specs.Book.{W}
use Rattle.cluster_laws.specs.Mirror.{IsOutcome, IsReplay}
use Rattle.cluster_laws.specs.History.{Item, Called, Gone, living, saids, Legal, KeepsSynced, IsNumbered, KeptRight, Loss, gones, AreLives}
use Rattle.cluster_laws.specs.World.{World, BeginsAt, Run}
use Rattle.cluster_laws.specs.Contents.{Rules, files_of, places, FreeDoesNotMatter}
use Rattle.cluster_laws.specs.Rings.{RingsDoNotMatter}
use Rattle.cluster_laws.specs.Laws.{head_cuts}
use Rattle.cluster_events.specs.Cluster.{Cluster, Starts, Events}

-- a call of a client, and its reply
pub record Told : Type 0 where
  pub client : ℕ
  pub call : Call
  pub reply : Reply

abbrev pub replied : Told → Replied
replied s = record { call = s.call; reply = s.reply }

-- images, and what they stand for
pub record Images : Type 1 where
  pub Content : Type 0
  pub Place : Type 0
  pub Lock : Type 0
  pub lock_of : Place → Lock
  pub IsFree : Place → Type 0
  pub StandsFor : (ℕ → Content) → (ℕ → Place) → Tree → Type 0
  pub inode : ℕ → Lock
  pub IsRing : ℕ → Type 0
  pub RingsAreGood : (ℕ → Content) → Type 0

-- with the calls of the file tree
abbrev pub rules_of : Images → Rules
rules_of I = record {
  Content = I.Content;
  Place = I.Place;
  Lock = I.Lock;
  Tree = Tree;
  Said = Told;
  lock_of = I.lock_of;
  IsFree = I.IsFree;
  StandsFor = I.StandsFor;
  after = λ s t. after (replied s) t;
  Answers = λ s t. tree.Answers (s.call) t (s.reply) (after (replied s) t);
  IsSync = λ s. (s.call ≡ calls.Sync) × (s.reply ≡ replies.Ok);
  Changes = λ s. changes.Changes (replied s);
  inode = I.inode;
  IsRing = I.IsRing;
  RingsAreGood = I.RingsAreGood;
}

abbrev pub Trees : Images → Files
Trees I = files_of (rules_of I)

-- ---- the history of the machine's items

abbrev pub item_of : (I : Images) → Item (Trees I) → its.Item
item_of I (Called k) = item.Call (k.node) (k.said.client) (k.number) (k.said.call) (k.said.reply)
item_of I (Gone i upto kept) = item.Lost i kept

abbrev pub history_of : (I : Images) → List (Item (Trees I)) → List its.Item
history_of I items = map (item_of I) items

-- the number in the head of the loss at this place, which the machine's item has beside what a trace prints. It is that of a header of the life that was lost, or the
-- number of the last call before this life (`LossesAreMarked` of cluster_rows)
abbrev pub upto_at : (I : Images) → List (Item (Trees I)) → ℕ → ℕ
upto_at I [] p = 0
upto_at I (Called k ∷ is) zero = 0
upto_at I (Gone i upto kept ∷ is) zero = upto
upto_at I (x ∷ is) (suc p) = upto_at I is p

-- the machine's definitions of a history are those of the cluster
pub record HistoriesAgree (I : Images) : Type 0 where
  pub alive : (items : List (Item (Trees I))) → alive (history_of I items) ≡ map replied (saids (Trees I) (living (Trees I) items))
  pub legal : (items : List (Item (Trees I))) (t : Tree) → Legal (Trees I) items t → history.Legal (history_of I items) t
  pub keeps_synced : (items : List (Item (Trees I))) → KeepsSynced (Trees I) items → history.KeepsSynced (history_of I items)
  pub numbered : (items : List (Item (Trees I))) → IsNumbered (Trees I) items → history.IsNumbered (history_of I items)
  pub kept_right : (items : List (Item (Trees I))) → KeptRight (Trees I) items → losses.KeptRight (upto_at I items) (history_of I items)
  pub tree : (items : List (Item (Trees I))) (t u : Tree) → RightTo (Trees I) (saids (Trees I) (living (Trees I) items)) t u → u ≡ tree_of (history_of I items) t
  pub others_leave : OthersLeaveTrees (Trees I)

-- ---- the headline, in the words of the cluster's history

pub record TreeHeadline (I : Images) (w : World (Trees I)) : Type 0 where
  pub legal : history.Legal (history_of I (w.items)) ((w.book).start)
  pub keeps_synced : history.KeepsSynced (history_of I (w.items))
  pub numbered : history.IsNumbered (history_of I (w.items))
  pub kept_right : losses.KeptRight (upto_at I (w.items)) (history_of I (w.items))
  -- whichever heads the journals turn out to have: no call that isn't in one changes anything up to a sync of its node that was answered Ok
  pub synced : (choice : ℕ → Bool) (p q node client other number earlier : ℕ) (call : Call) (reply : Reply)
      → slice_get (history_of I (w.items)) p ≡ Some (item.Call node client number calls.Sync replies.Ok)
      → slice_get (history_of I (w.items)) q ≡ Some (item.Call node other earlier call reply)
      → head_cuts (Trees I) (w.disk) choice node < earlier → earlier ≤ number → changes.Changes (record { call = call; reply = reply }) ≡ false
  -- each outcome of the disk, whichever heads its journals then have, replayed, with rings that are good: the history with a loss for each life that
  -- has none is legal, and this image stands for the tree at its end
  pub remains : FreeDoesNotMatter (rules_of I) → RingsDoNotMatter (rules_of I) → (choice : ℕ → Bool) (x r full : ℕ → I.Content) (ls : List Loss)
      → IsOutcome (Trees I) (w.disk) x → IsReplay (Trees I) (w.disk) choice x r → I.RingsAreGood full → ((b : ℕ) → (r b ≡ full b) ⊎ I.IsRing b)
      → AreLives ((w.book).published) (head_cuts (Trees I) (w.disk) choice) ls
      → history.Legal (history_of I (w.items ++ gones (Trees I) ls)) ((w.book).start)
      × I.StandsFor full (places (W (Trees I) (w.book) (head_cuts (Trees I) (w.disk) choice))) (tree_of (history_of I (w.items ++ gones (Trees I) ls)) ((w.book).start))
  -- where no call behind the number of its node's head changes anything, as where each node unmounted, no loss is needed: the image stands for the tree of the history
  -- as it is
  pub at_the_end : FreeDoesNotMatter (rules_of I) → RingsDoNotMatter (rules_of I) → (choice : ℕ → Bool) (x r full : ℕ → I.Content)
      → ((p node client number : ℕ) (call : Call) (reply : Reply) → slice_get (history_of I (w.items)) p ≡ Some (item.Call node client number call reply)
      → head_cuts (Trees I) (w.disk) choice node < number → changes.Changes (record { call = call; reply = reply }) ≡ false)
      → IsOutcome (Trees I) (w.disk) x → IsReplay (Trees I) (w.disk) choice x r → I.RingsAreGood full → ((b : ℕ) → (r b ≡ full b) ⊎ I.IsRing b)
      → I.StandsFor full (places (W (Trees I) (w.book) ((w.book).published))) (tree_of (history_of I (w.items)) ((w.book).start))

abbrev pub EveryTreeRun : Images → Type 0
EveryTreeRun I = (u w : World (Trees I)) → BeginsAt (Trees I) u → Run (Trees I) u w → TreeHeadline I w

-- of nodes, disk and locks together
abbrev pub EveryTreeCluster : Images → Type 0
EveryTreeCluster I = (a c : Cluster (Trees I)) → Starts (Trees I) a → Events (Trees I) a c → TreeHeadline I (c.world)
