-- The image on which a node with its log works.
use Rattle.std.specs.Prelude.{ℕ, List}
use Rattle.file_tree.specs.Tree.{Tree}
use Rattle.cluster_history.specs.History.{tree_of}
use Rattle.image_model.specs.Image.{Image}
use Rattle.image_model.specs.Owners.{Owners}
use Rattle.image_model.specs.Stands.{Layout}
use Rattle.image_machine.specs.Volumes.{Volume}
use Rattle.logged_steps.specs.Reading.{WorksOn}
use Rattle.logged_steps.specs.States.{trees_on}
use Rattle.lone_machine.specs.Alone.{Begun}
use Rattle.run_rules.specs.Follows.{history_of}
use Rattle.script_lang.specs.declared.script.Client.{Client}
use Rattle.logged_steps.specs.Laws.{IsLoggedAt}
use Rattle.logged_steps.specs.Points.{Point}

-- At this point of a run that began with a tree the node works on an image that stands for the tree after the calls of the items.
pub record WorksAt (clients : List Client) (p : Point) (l : Layout) (start : Tree) : Type 0 where
  pub image : Image
  pub owners : Owners
  pub works : WorksOn p.disk p.view image owners l (tree_of (history_of clients p.items) start)

abbrev pub NodesWorkOnAnImage : Type 0
NodesWorkOnAnImage = (v : Volume) (s : Begun (trees_on v)) (d : ℕ) (clients : List Client) (p : Point) → IsLoggedAt v s d clients p → WorksAt clients p v.layout s.tree
