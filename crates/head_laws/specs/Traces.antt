-- The items of a trace of a cluster over the file tree, as far as they tell of heads and losses.
use Rattle.std.specs.Prelude.{ℕ, ◌≡◌, ◌<◌, ◌≤◌, ◌⊎◌, ⊤, Bool, true, false, None, Some, List, [], ◌∷◌, slice_get}
use Rattle.file_tree.specs.declared.call.Call.{Call}
use Rattle.file_tree.specs.declared.call.Call.TheVariants as calls
use Rattle.file_tree.specs.declared.reply.Reply.{Reply}
use Rattle.file_tree.specs.declared.reply.Reply.TheVariants as replies
use Rattle.cluster_history.specs.declared.Item.TheVariants as item
use Rattle.cluster_history.specs.Changes.{Changes}
use Rattle.cluster_history.specs.History.{Legal, tree_of}
use Rattle.trace_text.specs.declared.item.TraceItem.{TraceItem}
use Rattle.trace_text.specs.declared.item.TraceItem.TheVariants as trace
use Rattle.script_lang.specs.declared.script.Client.{Client}
use Rattle.run_rules.specs.Follows as run
use Rattle.run_rules.specs.Lives.{Life, AcceptedHead, TraceKeptRight, upto_of, losses_of, lives_of, life_at, remains}
use Rattle.cluster_laws.specs.Book.{W}
use Rattle.cluster_laws.specs.Mirror.{IsOutcome, IsReplay}
use Rattle.cluster_laws.specs.Contents.{places, FreeDoesNotMatter}
use Rattle.cluster_laws.specs.Rings.{RingsDoNotMatter}
use Rattle.cluster_laws.specs.Laws.{head_cuts}
use Rattle.cluster_events.specs.Cluster.{Cluster, Starts}
use Rattle.cluster_events.specs.Cluster as cluster
use Rattle.tree_histories.specs.Trees.{Images, rules_of, Trees, history_of}
use Rattle.head_laws.specs.Journals.{Journal, JournalEvent, JournalEvents, IsNew, NoHeadMatters}

-- a cluster, the names of its journals' heads, which nodes wrote their last without an item, and the items so far
pub record Traced (I : Images) : Type 0 where
  pub cluster : Cluster (Trees I)
  pub names : ℕ → Bool → AcceptedHead
  pub silent : ℕ → Bool
  pub items : List TraceItem

abbrev pub journal_of : (I : Images) → Traced I → ℕ → Journal
journal_of I t i = record {
  runs = (t.cluster).runs i;
  waits = (t.cluster).waits i;
  fenced = (t.cluster).fenced i;
  unlost = (t.cluster).unlost i;
  last = (((t.cluster).world).book).published i;
  cut = λ d. ((((t.cluster).world).disk).heads i d).cut;
  name = t.names i;
  flies = (t.cluster).header_of i;
  silent = t.silent i;
}

-- something happens to the journal, or an item comes, or neither
pub data Happens (node : ℕ) (behind : ℕ → AcceptedHead) (j : Journal) (items : List TraceItem) : Journal → List TraceItem → Type 0 where
  Rests : Happens node behind j items j items
  Does : (k : Journal) (more : List TraceItem) → JournalEvent node behind j items k more → Happens node behind j items k more

-- One event of the cluster, or none, with its item or without: of each node's journal it is what may happen there; and the calls and losses among the items are the
-- cluster's history.
pub record TracedStep (I : Images) (clients : List Client) (behind : ℕ → ℕ → AcceptedHead) (t u : Traced I) : Type 0 where
  pub event : (u.cluster ≡ t.cluster) ⊎ cluster.Event (Trees I) (t.cluster) (u.cluster)
  pub journals : (i : ℕ) → Happens i (behind i) (journal_of I t i) (t.items) (journal_of I u i) (u.items)
  pub history : run.history_of clients (u.items) ≡ history_of I (((u.cluster).world).items)

pub data TracedSteps (I : Images) (clients : List Client) (behind : ℕ → ℕ → AcceptedHead) (t : Traced I) : Traced I → Type 0 where
  Done : TracedSteps I clients behind t t
  Then : (u v : Traced I) → TracedSteps I clients behind t u → TracedStep I clients behind u v → TracedSteps I clients behind t v

abbrev pub AreJoins : List TraceItem → Type 0
AreJoins [] = ⊤
AreJoins (trace.Join i ∷ is) = AreJoins is
AreJoins (x ∷ is) = ⊥

-- a start of the cluster, behind the first joins: each node's journal comes by these items from one that nobody had joined
pub record Begins (I : Images) (clients : List Client) (behind : ℕ → ℕ → AcceptedHead) (t : Traced I) : Type 0 where
  pub starts : Starts (Trees I) (t.cluster)
  pub joined : (i : ℕ) → (j : Journal) × IsNew j × JournalEvents i (behind i) j [] (journal_of I t i) (t.items)
  pub joins : AreJoins (t.items)

-- each loss is that of a life, and right by the number that the items tell of the head which the life left
abbrev pub LossesAreRight : Images → Type 0
LossesAreRight I = (clients : List Client) (behind : ℕ → ℕ → AcceptedHead) (a t : Traced I) → Begins I clients behind a → TracedSteps I clients behind a t → TraceKeptRight clients behind (t.items)

-- a header of a replay of the past's ring may come to the disk
pub record MayLand (I : Images) (t : Traced I) (i : ℕ) : Type 0 where
  pub waits : (t.cluster).waits i ≡ true
  pub over : NoHeadMatters i (journal_of I t i) (t.items)
  pub alone : (t.cluster).header_of i ≡ None

-- these may be the accepted heads, by the choice of each journal, or where such a header came
abbrev pub HeadsMayBe : (I : Images) → Traced I → (ℕ → Bool) → (ℕ → AcceptedHead) → Type 0
HeadsMayBe I t choice now = (i : ℕ) → (now i ≡ t.names i (choice i)) ⊎ MayLand I t i

-- No call of a node changes anything that is behind the number that the items tell of a life without a loss, and up to a sync that was answered Ok.
abbrev pub SyncsStand : Images → Type 0
SyncsStand I = (clients : List Client) (behind : ℕ → ℕ → AcceptedHead) (a t : Traced I) → Begins I clients behind a → TracedSteps I clients behind a t
    → (choice : ℕ → Bool) (now : ℕ → AcceptedHead) → HeadsMayBe I t choice now → (p q n client other number earlier : ℕ) (call : Call) (reply : Reply) (l : Life)
    → losses_of l.node (t.items) ≤ n → life_at l.node n (lives_of (t.items)) ≡ Some l
    → slice_get (run.history_of clients (t.items)) p ≡ Some (item.Call l.node client number calls.Sync replies.Ok)
    → slice_get (run.history_of clients (t.items)) q ≡ Some (item.Call l.node other earlier call reply)
    → upto_of (record { behind = behind; now = now }) l (t.items) < earlier → earlier ≤ number → Changes (record { call = call; reply = reply }) ≡ false

-- Each outcome of the disk, whichever heads the journals then have, replayed, stands for the tree of what remains of the items, which is legal.
abbrev pub RemainsStand : Images → Type 0
RemainsStand I = (clients : List Client) (behind : ℕ → ℕ → AcceptedHead) (a t : Traced I) → Begins I clients behind a → TracedSteps I clients behind a t
    → FreeDoesNotMatter (rules_of I) → RingsDoNotMatter (rules_of I) → (choice : ℕ → Bool) (now : ℕ → AcceptedHead) → HeadsMayBe I t choice now → (x r full : ℕ → I.Content)
    → IsOutcome (Trees I) (((t.cluster).world).disk) x → IsReplay (Trees I) (((t.cluster).world).disk) choice x r → I.RingsAreGood full → ((b : ℕ) → (r b ≡ full b) ⊎ I.IsRing b)
    → Legal (remains clients (record { behind = behind; now = now }) (t.items)) ((((t.cluster).world).book).start)
    × I.StandsFor full (places (W (Trees I) (((t.cluster).world).book) (head_cuts (Trees I) (((t.cluster).world).disk) choice)))
    (tree_of (remains clients (record { behind = behind; now = now }) (t.items)) ((((t.cluster).world).book).start))
