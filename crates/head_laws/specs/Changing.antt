-- That a call that changes the tree can be told, with the lock that it needs: node 1 asks for it, the master hears this and grants it, the node reads the block, answers, and the call is published.
-- Over images of one block, which has the whole tree.
use Rattle.std.specs.Prelude.{ℕ, ◌≡◌, ◌==◌, ⊤, true, false, None, List, [], ◌∷◌}
use Rattle.file_tree.specs.Tree.{Tree}
use Rattle.file_tree.specs.Apply.{apply}
use Rattle.file_tree.specs.declared.call.Call.{Call}
use Rattle.file_tree.specs.declared.reply.Reply.TheVariants as replies
use Rattle.trace_text.specs.declared.item.TraceItem.TheVariants as trace
use Rattle.script_lang.specs.declared.script.Client.{Client}
use Rattle.run_rules.specs.Follows as run
use Rattle.run_rules.specs.Lives.{AcceptedHead}
use Rattle.cluster_history.specs.Changes.{may_change}
use Rattle.cluster_laws.specs.Book.{W}
use Rattle.event_lists.specs.Begins.{Start, started}
use Rattle.tree_histories.specs.Trees as trees
use Rattle.tree_histories.specs.Trees.{Images, Trees}
use Rattle.head_laws.specs.Example.{clean}
use Rattle.head_laws.specs.Traces.{Traced, Begins}
use Rattle.head_laws.specs.Tellings.{Tellings}

abbrev pub one_block : Images
one_block = record {
  Content = Tree;
  Place = ⊤;
  Lock = ⊤;
  lock_of = λ p. p;
  IsFree = λ p. ⊥;
  StandsFor = λ im at t. im 0 ≡ t;
  inode = λ b. tt;
  IsRing = λ b. ⊥;
  RingsAreGood = λ im. ⊤;
}

-- it was answered Ok
abbrev pub answered_ok : List Client → List ℕ → Call → trees.Told
answered_ok clients name call = record { client = run.place_of clients name; call = call; reply = replies.Ok }

abbrev pub one_start : Tree → trees.Told → Start (Trees one_block)
one_start t said = record {
  image = λ b. record { content = t; place = tt };
  tree = t;
  blocks = λ b. t;
  live = λ b. None;
  runs = λ i. i == 1;
  waits = λ i. false;
  past = 9;
  told = said;
}

abbrev pub one_begin : Tree → trees.Told → Traced one_block
one_begin t said = record { cluster = started (Trees one_block) (one_start t said); names = λ i e. clean 20 3; silent = λ i. false; items = trace.Join 1 ∷ [] }

abbrev pub one_disk : ℕ → ℕ → AcceptedHead
one_disk i p = clean 20 3

-- any tree, and any call that the tree takes and that may change it
abbrev pub ChangingCallIsTold : Type 0
ChangingCallIsTold = (clients : List Client) (name : List ℕ) (call : Call) (t : Tree) (said : trees.Told) → (apply call t).reply ≡ replies.Ok → may_change call ≡ true
    → Begins one_block clients one_disk (one_begin t said)
    × ((e : Traced one_block) × Tellings one_block clients one_disk (one_begin t said) e
    × (e.items ≡ trace.Join 1 ∷ trace.Call 1 name 1 call replies.Ok ∷ [])
    -- the block, as the image of all calls has it
    × ((W (Trees one_block) (((e.cluster).world).book) ((((e.cluster).world).book).answered) 0).content ≡ (apply call t).tree))
