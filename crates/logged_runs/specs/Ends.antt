-- What a run that has ended leaves.
use Rattle.std.specs.Prelude.{ℕ, List}
use Rattle.cluster_history.specs.History.{tree_of}
use Rattle.file_tree.specs.Tree.{Tree}
use Rattle.image_changes.specs.Instances.{StandsBy}
use Rattle.image_machine.specs.Volumes.{Volume}
use Rattle.image_model.specs.Image.{Image}
use Rattle.image_model.specs.Owners.{Owners}
use Rattle.image_model.specs.Replays.{StandsReplayed}
use Rattle.image_model.specs.Stands.{IsJournalAt}
use Rattle.journal_outcomes.specs.Images.{ring_at}
use Rattle.log_layout.specs.Journal.{IsClean}
use Rattle.run_rules.specs.Follows.{history_of}
use Rattle.script_lang.specs.declared.script.Client.{Client}
use Rattle.trace_text.specs.declared.item.TraceItem.{TraceItem}

-- Once a run has ended the image stands, as it lies and so too when its journals are replayed, for the tree of all that its items answer, and each journal is clean.
pub record HasEndedAs (v : Volume) (clients : List Client) (items : List TraceItem) (start : Tree) (left : Image) : Type 0 where
  pub owners : Owners
  pub stands : StandsBy left owners v.layout (tree_of (history_of clients items) start)
  pub replayed : StandsReplayed left (tree_of (history_of clients items) start)
  pub clean : (j k : ℕ) → IsJournalAt v.layout j k → IsClean (ring_at left k)
