-- What the calls of one node alone write, a replay of the image on its disk may change.
use Rattle.std.specs.Prelude.{ℕ, ◌≡◌, true}
use Rattle.file_tree.specs.Tree.{Tree}
use Rattle.file_tree.specs.declared.call.Call.{Call}
use Rattle.file_tree.specs.declared.reply.Reply.{Reply}
use Rattle.cluster_laws.specs.Files.{laid}
use Rattle.cluster_laws.specs.World.{World}
use Rattle.glock_names.specs.Views.{Seen}
use Rattle.drafts.specs.declared.change.Change.{Change}
use Rattle.image_model.specs.Image.{Image}
use Rattle.image_model.specs.Owners.{Owners}
use Rattle.image_model.specs.Replays.{MayChange}
use Rattle.image_model.specs.Stands.{Layout}
use Rattle.image_changes.specs.Does.{AreInside, Does, IsOf, writes}
use Rattle.image_changes.specs.Instances.{StandsBy}
use Rattle.image_machine.specs.Cells.{cells_of}
use Rattle.image_machine.specs.Volumes.{Volume, image_with, volume_of}
use Rattle.lone_images.specs.Lone.{begun_on}
use Rattle.lone_machine.specs.Alone.{Begun, begun, now}
use Rattle.lone_logs.specs.Laws.{IsItsView}
use Rattle.lone_logs.specs.States.{HasLandedAs, IsLoggedNode, NodeState, trees_on}
use Rattle.lone_answers.specs.Calls.{IsUnderItsLocks}

-- the image with all calls of the node: what it works on
abbrev pub image_now : (v : Volume) → World (trees_on v) → Image
image_now v w = image_with v (λ b. (now (trees_on v) w b).content)

-- what a replay may change of the image that the node works on, it may change of this one
abbrev pub MayChangeThere : (v : Volume) → World (trees_on v) → Image → Type 0
MayChangeThere v w im = (b : ℕ) → MayChange (image_now v w) v.layout b → MayChange im v.layout b

-- so it is of the image on which the node begins
abbrev pub MayChangeAtTheStart : Type 0
MayChangeAtTheStart = (im : Image) (o : Owners) (l : Layout) (t : Tree) → StandsBy im o l t → MayChangeThere (volume_of im l) (begun (trees_on (volume_of im l)) (begun_on im o l t)) im

-- the node works on the same in both worlds
abbrev pub WorksOnTheSame : (v : Volume) → (w w' : World (trees_on v)) → Type 0
WorksOnTheSame v w w' = (b : ℕ) → now (trees_on v) w' b ≡ now (trees_on v) w b

-- it stays so while the node works on the same
abbrev pub MayChangeWithoutCalls : Type 0
MayChangeWithoutCalls = (v : Volume) (w w' : World (trees_on v)) (im : Image) → WorksOnTheSame v w w' → MayChangeThere v w im → MayChangeThere v w' im

-- also behind a barrier, of the image with all that flew in its place
abbrev pub MayChangeBehindBarriers : Type 0
MayChangeBehindBarriers = (v : Volume) (s : Begun (trees_on v)) (w w' : World (trees_on v)) (d : ℕ) (st : NodeState) (left : Image) → IsLoggedNode v s w d st
    → HasLandedAs st.image st.flying left → WorksOnTheSame v w w' → MayChangeThere v w st.image → MayChangeThere v w' left

-- The node's view answers the call so, under the locks of its list in each image that the view may be of.
pub record IsItsAnswer (v : Volume) (st : NodeState) (seen : Seen) (call : Call) (node : ℕ) (reply : Reply) (change : Change) : Type 0 where
  pub view : IsItsView v st seen
  pub inside : AreInside seen change
  pub does : Does seen call reply change
  pub under : (im : Image) (o : Owners) (l : Layout) (t : Tree) → IsOf seen im o l t → IsUnderItsLocks seen im o l t call node change

-- then each block that it writes is one that a replay of the disk may change
abbrev pub ItsBlocksMayChange : Type 0
ItsBlocksMayChange = (v : Volume) (s : Begun (trees_on v)) (w : World (trees_on v)) (d : ℕ) (st : NodeState) (seen : Seen) (call : Call) (node : ℕ) (reply : Reply) (change : Change)
    → IsLoggedNode v s w d st → IsItsAnswer v st seen call node reply change → MayChangeThere v w st.image → (b : ℕ) → writes change b ≡ true → MayChange st.image v.layout b

-- and it stays so once the node works on the image with the change
abbrev pub MayChangeBehindCalls : Type 0
MayChangeBehindCalls = (v : Volume) (s : Begun (trees_on v)) (w w' : World (trees_on v)) (d : ℕ) (st : NodeState) (seen : Seen) (call : Call) (node : ℕ) (reply : Reply) (change : Change)
    → IsLoggedNode v s w d st → IsItsAnswer v st seen call node reply change → ((b : ℕ) → now (trees_on v) w' b ≡ laid (cells_of v change b) (now (trees_on v) w b))
    → MayChangeThere v w st.image → MayChangeThere v w' st.image
