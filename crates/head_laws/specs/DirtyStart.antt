-- That a run from a dirty start can be told. Node 1's journal has one block live, which is the past's; node 1 replays it, and its slot is recovered.
use Rattle.std.specs.Prelude.{ℕ, ◌≡◌, ◌==◌, nat_lt, ◌&&◌, ◌||◌, false, None, Some, List, [], ◌∷◌, if◌then◌else◌}
use Rattle.file_tree.specs.Tree.{Tree}
use Rattle.trace_text.specs.declared.item.TraceItem.{TraceItem}
use Rattle.trace_text.specs.declared.item.TraceItem.TheVariants as trace
use Rattle.script_lang.specs.declared.script.Client.{Client}
use Rattle.run_rules.specs.Lives.{AcceptedHead}
use Rattle.cluster_laws.specs.Files.{Image}
use Rattle.cluster_laws.specs.Book.{at}
use Rattle.event_lists.specs.Begins.{Start, started}
use Rattle.tree_histories.specs.Trees as trees
use Rattle.tree_histories.specs.Trees.{Images, Trees}
use Rattle.head_laws.specs.Example.{head, clean}
use Rattle.head_laws.specs.Traces.{Traced, Begins}
use Rattle.head_laws.specs.Tellings.{Tellings}

-- block 5 has something else on the disk
abbrev pub dirty_start : (I : Images) → Image (Trees I) → Tree → I.Content → trees.Told → Start (Trees I)
dirty_start I m t d said = record {
  image = m;
  tree = t;
  blocks = at (λ b. (m b).content) 5 d;
  live = at (λ b. None) 5 (Some ((m 5).content));
  runs = λ i. i == 1;
  waits = λ i. (i == 1) || (i == 9);
  past = 9;
  told = said;
}

-- the ring that speaks for the past has the head of node 1's journal
abbrev pub heads_at_start : ℕ → AcceptedHead
heads_at_start i = if (i == 1) || (i == 9) then head 30 8 else clean 20 3

abbrev pub dirty_begin : (I : Images) → Image (Trees I) → Tree → I.Content → trees.Told → Traced I
dirty_begin I m t d said = record {
  cluster = started (Trees I) (dirty_start I m t d said);
  names = λ i e. heads_at_start i;
  silent = λ i. false;
  items = trace.Join 1 ∷ [];
}

-- the block goes home, then the clean header, at block 31
abbrev pub dirty_run : List TraceItem
dirty_run = trace.Join 1 ∷ trace.WriteReplay 1 5 ∷ trace.Barrier 1 ∷ trace.WriteReplay 1 31 ∷ trace.Barrier 1 ∷ trace.Recovered 1 1 ∷ []

-- what the disk has behind so many of these items: behind the second barrier the clean header
abbrev pub disk_heads : ℕ → ℕ → AcceptedHead
disk_heads i p = if nat_lt 4 p && (i == 1) then clean 31 9 else heads_at_start i

-- over any image that stands for a tree
abbrev pub DirtyStartIsTold : Images → Type 0
DirtyStartIsTold I = (clients : List Client) (m : Image (Trees I)) (t : Tree) (d : I.Content) (said : trees.Told) → (Trees I).Stands m t
    → Begins I clients disk_heads (dirty_begin I m t d said)
    × ((e : Traced I) × Tellings I clients disk_heads (dirty_begin I m t d said) e
    × (e.items ≡ dirty_run) × ((i : ℕ) → (e.cluster).waits i ≡ false) × (e.names 1 false ≡ clean 31 9))
