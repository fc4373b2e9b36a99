-- That a run of two nodes can be told. Node 1 answers a sync, writes a header and crashes; it is fenced, node 2 writes the clean header of its journal and says that its slot is recovered, its life's loss keeps
-- the sync, and it joins again.
use Rattle.std.specs.Prelude.{ℕ, ◌≡◌, ◌==◌, ◌||◌, ◌&&◌, nat_lt, if◌then◌else◌, true, false, None, List, [], ◌∷◌}
use Rattle.file_tree.specs.Tree.{Tree}
use Rattle.file_tree.specs.declared.call.Call.TheVariants as calls
use Rattle.file_tree.specs.declared.reply.Reply.TheVariants as replies
use Rattle.trace_text.specs.declared.item.TraceItem.{TraceItem}
use Rattle.trace_text.specs.declared.item.TraceItem.TheVariants as trace
use Rattle.script_lang.specs.declared.script.Client.{Client}
use Rattle.run_rules.specs.Follows as run
use Rattle.run_rules.specs.Lives.{AcceptedHead}
use Rattle.cluster_laws.specs.Files.{Image}
use Rattle.event_lists.specs.Begins.{Start, started}
use Rattle.tree_histories.specs.Trees as trees
use Rattle.tree_histories.specs.Trees.{Images, Trees}
use Rattle.head_laws.specs.Example.{head, clean}
use Rattle.head_laws.specs.Traces.{Traced, Begins}
use Rattle.head_laws.specs.Tellings.{Tellings}

-- a sync of the client of this name
abbrev pub synced : List Client → List ℕ → trees.Told
synced clients name = record { client = run.place_of clients name; call = calls.Sync; reply = replies.Ok }

-- all journals are clean
abbrev pub two_start : (I : Images) → Image (Trees I) → Tree → trees.Told → Start (Trees I)
two_start I m t said = record {
  image = m;
  tree = t;
  blocks = λ b. (m b).content;
  live = λ b. None;
  runs = λ i. (i == 1) || (i == 2);
  waits = λ i. false;
  past = 9;
  told = said;
}

abbrev pub two_begin : (I : Images) → Image (Trees I) → Tree → trees.Told → Traced I
two_begin I m t said = record {
  cluster = started (Trees I) (two_start I m t said);
  names = λ i e. clean 20 3;
  silent = λ i. false;
  items = trace.Join 1 ∷ trace.Join 2 ∷ [];
}

abbrev pub two_run : List ℕ → List TraceItem
two_run name = trace.Join 1 ∷ trace.Join 2 ∷ trace.Call 1 name 1 calls.Sync replies.Ok ∷ trace.WriteHead 1 21 4 1 ∷ trace.Barrier 1 ∷ trace.Commit 1 4 1 ∷ trace.Crash 1 ∷ trace.Fence 1
    ∷ trace.WriteReplay 2 22 ∷ trace.Barrier 2 ∷ trace.Recovered 1 2 ∷ trace.Lost 1 1 ∷ trace.Join 1 ∷ []

-- node 1's header is on the disk behind its barrier, and the clean one behind that of node 2
abbrev pub two_disk : ℕ → ℕ → AcceptedHead
two_disk i p = if nat_lt 9 p && (i == 1) then clean 22 5 else if nat_lt 4 p && (i == 1) then head 21 4 else clean 20 3

-- over any image that stands for a tree
abbrev pub TwoNodesAreTold : Images → Type 0
TwoNodesAreTold I = (clients : List Client) (name : List ℕ) (m : Image (Trees I)) (t : Tree) (said : trees.Told) → (Trees I).Stands m t
    → Begins I clients two_disk (two_begin I m t said)
    × ((e : Traced I) × Tellings I clients two_disk (two_begin I m t said) e
    × (e.items ≡ two_run name) × ((e.cluster).runs 1 ≡ true) × ((e.cluster).waits 1 ≡ false) × ((e.cluster).unlost 1 ≡ 0))
