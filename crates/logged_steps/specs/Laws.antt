-- Laws of the steps of one node with its log.
use Rattle.std.specs.Prelude.{ℕ, ◌≡◌, ◌≢◌, ◌≤◌, ◌++◌, IsTrue, List, [], drop, length, take, Option, Some}
use Rattle.std.specs.List.{AllByRecursion}
use Rattle.call_blocks.specs.Lone.{MayChangeThere}
use Rattle.cluster_laws.specs.World.{World}
use Rattle.file_tree.specs.Tree.{Tree}
use Rattle.disk_items.specs.Deeds.{AreDoneBy}
use Rattle.image_machine.specs.Cells.{IsOfVolume}
use Rattle.image_machine.specs.Volumes.{Volume, images_of, volume_of}
use Rattle.image_model.specs.Image.{image_of}
use Rattle.image_model.specs.Owners.{Owners}
use Rattle.image_model.specs.Stands.{Layout}
use Rattle.log_layout.specs.declared.log_header.LogHeader.{LogHeader}
use Rattle.log_values.specs.Log.{Journal}
use Rattle.lone_images.specs.Lone.{begun_on}
use Rattle.lone_ends.specs.States.{IsHeaded, IsLoggedNode, trees_on}
use Rattle.lone_machine.specs.Alone.{Begun}
use Rattle.lone_view.specs.Seeing.{Lone, seen_alone}
use Rattle.run_rules.specs.Follows as run
use Rattle.script_lang.specs.declared.script.Client.{Client}
use Rattle.shared_disk.specs.Disk.{DiskState, Gains, IsSound, Operation}
use Rattle.trace_text.specs.declared.item.TraceItem.{TraceItem}
use Rattle.tree_histories.specs.Trees.{history_of}
use Rattle.logged_steps.specs.Disks.{disk_after, first_told}
use Rattle.logged_steps.specs.Fails.{FailsTo}
use Rattle.logged_steps.specs.Heads.{TellsItsHeads}
use Rattle.logged_steps.specs.Points.{IsOfRun, Point, state_of}
use Rattle.logged_steps.specs.Starts.{IsAtRest, starting}
use Rattle.logged_steps.specs.Steps.{Steps}

-- ---- what always holds

-- nothing is in flight of any other node's
abbrev pub OthersRest : DiskState → Type 0
OthersRest d = (j : ℕ) → j ≢ 1 → d.in_flight j ≡ []

-- On a disk that tells its blocks: there is a world of the machine in which the node is what it is at this point, and its history is that of the items.
pub record IsLoggedAt (v : Volume) (s : Begun (trees_on v)) (d : ℕ) (clients : List Client) (p : Point) : Type 0 where
  pub tells : IsTrue p.disk.tells
  pub sound : IsSound p.disk
  pub others : OthersRest p.disk
  pub world : World (trees_on v)
  pub is : IsLoggedNode v s world d (state_of p)
  pub volume : IsOfVolume v (seen_alone p.view)
  pub history : run.history_of clients p.items ≡ history_of (images_of v) world.items
  -- what a replay may change of the image that the node works on, it may change of that on the disk
  pub may : MayChangeThere v world (image_of p.disk)

-- so it is on a disk at rest, behind items without a call
abbrev pub RunsBegin : Type 0
RunsBegin = (disk : DiskState) (o : Owners) (l : Layout) (t : Tree) (d : ℕ) (journal : Journal) (head : LogHeader) (view : Lone) (clients : List Client) (list : Option (List Operation)) (items : List TraceItem)
    → IsAtRest disk o l t d journal head view → run.history_of clients items ≡ []
    → IsLoggedAt (volume_of (image_of disk) l) (begun_on (image_of disk) o l t) d clients (starting disk list journal head view items)

-- and it stays so with each step
abbrev pub StepsKeep : Type 0
StepsKeep = (v : Volume) (s : Begun (trees_on v)) (d : ℕ) (clients : List Client) (time : ℕ) (p q : Point) → IsLoggedAt v s d clients p → Steps time p q → IsLoggedAt v s d clients q

-- also where a write failed that may be in flight without an item
abbrev pub FailedWritesKeep : Type 0
FailedWritesKeep = (v : Volume) (s : Begun (trees_on v)) (d : ℕ) (clients : List Client) (time : ℕ) (p q : Point) → IsLoggedAt v s d clients p → FailsTo time p q → IsLoggedAt v s d clients q

-- ---- items and operations

-- From one point to the other these items came, each of which a step tells; the operations that the list gained are those that they tell, and the disk is what these made.
pub record TellsWhatItDoes (p q : Point) : Type 0 where
  pub more : List TraceItem
  pub items : q.items ≡ p.items ++ more
  pub of_run : AllByRecursion IsOfRun more
  pub operations : List Operation
  pub told : AreDoneBy more operations
  pub gains : Gains p.list q.list operations
  pub disk : q.disk ≡ disk_after p.disk operations

abbrev pub StepsAreTold : Type 0
StepsAreTold = (time : ℕ) (p q : Point) → Steps time p q → TellsWhatItDoes p q

-- ---- headers

-- from a point at which no header is in flight
abbrev pub HeadsAreTold : Type 0
HeadsAreTold = (time : ℕ) (p q : Point) → (IsHeaded p.log.flush → ⊥) → Steps time p q → TellsItsHeads p q

-- ---- fronts of the items

-- The run came by this point, where it had so many items. As far as the list is told, it was there the operations that these items tell, and the disk is what they made.
pub record CameBy (time : ℕ) (p q : Point) (count : ℕ) : Type 0 where
  pub point : Point
  pub before : Steps time p point
  pub behind : Steps time point q
  pub items : take count q.items ≡ point.items
  pub list : (was operations : List Operation) → p.list ≡ Some was → q.list ≡ Some (was ++ operations) → point.list ≡ Some (was ++ first_told (drop (length p.items) point.items) operations)
  pub disk : (was operations : List Operation) → p.list ≡ Some was → q.list ≡ Some (was ++ operations) → point.disk ≡ disk_after p.disk (first_told (drop (length p.items) point.items) operations)

abbrev pub FrontsArePassed : Type 0
FrontsArePassed = (time : ℕ) (p q : Point) (count : ℕ) → Steps time p q → length p.items ≤ count → count ≤ length q.items → CameBy time p q count

-- ---- a run goes on

abbrev pub StepsGoOn : Type 0
StepsGoOn = (time : ℕ) (p q r : Point) → Steps time p q → Steps time q r → Steps time p r
