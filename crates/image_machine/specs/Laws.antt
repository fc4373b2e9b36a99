-- Laws of images as a file system of the machine.
use Rattle.std.specs.Prelude.{ℕ, ◌≡◌, ◌⊎◌, ◌<◌, Bool, false, List, length, ◌++◌, slice_get, Option, None, Some}
use Rattle.file_tree.specs.Tree.{Tree}
use Rattle.file_tree.specs.Apply.{TakesSpace, apply}
use Rattle.file_tree.specs.declared.call.Call.{Call}
use Rattle.file_tree.specs.declared.call.Call.TheVariants as calls
use Rattle.file_tree.specs.declared.reply.Reply.{Reply}
use Rattle.file_tree.specs.declared.reply.Reply.TheVariants as replies
use Rattle.cluster_history.specs.History.{tree_of}
use Rattle.cluster_history.specs.History as history
use Rattle.cluster_history.specs.declared.Item.TheVariants as item
use Rattle.cluster_history.specs.Changes as changes
use Rattle.cluster_laws.specs.Files.{State}
use Rattle.cluster_laws.specs.Mirror.{IsOutcome, IsReplay}
use Rattle.cluster_laws.specs.History.{Loss, gones, AreLives}
use Rattle.cluster_laws.specs.World.{World, BeginsAt, Run}
use Rattle.cluster_laws.specs.Contents.{AnswersByView, FreeDoesNotMatter}
use Rattle.cluster_laws.specs.Rings.{RingsDoNotMatter}
use Rattle.cluster_laws.specs.Notes.{NeedsByView}
use Rattle.cluster_laws.specs.Laws.{head_cuts}
use Rattle.cluster_events.specs.Cluster.{Cluster, Starts, Events}
use Rattle.glock_names.specs.Views.{Seen}
use Rattle.glock_names.specs.declared.LockName.{LockName}
use Rattle.drafts.specs.declared.change.Change.{Change}
use Rattle.image_model.specs.Image.{Image}
use Rattle.image_model.specs.Owners.{Owners}
use Rattle.image_model.specs.Stands.{Layout}
use Rattle.image_changes.specs.Changes.{Place, cover, is_free, place_of}
use Rattle.image_changes.specs.Does.{AreInside, Does, IsOf}
use Rattle.image_changes.specs.Instances.{StandsBy}
use Rattle.tree_histories.specs.Trees.{Trees, TreeHeadline, history_of, rules_of}
use Rattle.image_machine.specs.Volumes.{IsPlace, RingsCanBeRead, StandsAt, Volume, images_of, volume_of}
use Rattle.image_machine.specs.Cells.{BlockCell, HasBlocksOf, HoldsAll, IsOfVolume, cells_of}

-- ---- images and contents

-- the image has the volume's blocks, each of them whole
pub record HasBlocksFor (v : Volume) (im : Image) : Type 0 where
  pub size : im.size ≡ v.size
  pub count : im.count ≡ v.count
  pub whole : (b : ℕ) → b < im.count → length (im.at b) ≡ im.size

-- an image that stands for a tree does so as contents of the volume that lies in it, each block where its owner has it
abbrev pub ImagesStand : Type 0
ImagesStand = (im : Image) (o : Owners) (l : Layout) (t : Tree) → StandsBy im o l t → StandsAt (volume_of im l) im.at (place_of l o) t

-- and where the contents of an image's blocks stand for a tree the image does, by what mounting found
abbrev pub ContentsAreImages : Type 0
ContentsAreImages = (v : Volume) (im : Image) (places : ℕ → Place) (t : Tree) → HasBlocksFor v im → StandsAt v im.at places t → (o : Owners) × StandsBy im o v.layout t

-- ---- what doesn't matter

abbrev pub FreeBlocksDoNotMatter : Type 0
FreeBlocksDoNotMatter = (v : Volume) → FreeDoesNotMatter (rules_of (images_of v))

abbrev pub PlacesOfRingsDoNotMatter : Type 0
PlacesOfRingsDoNotMatter = (v : Volume) → RingsDoNotMatter (rules_of (images_of v))

-- ---- answers of file calls

-- a call that does what it should, over a view of the volume, says of the machine's images what an answer has to: with its change as cells
abbrev pub DoneIsAnswered : Type 0
DoneIsAnswered = (v : Volume) (seen : Seen) (view : ℕ → Option BlockCell) (held : Option LockName → State) (client : ℕ) (call : Call) (reply : Reply) (change : Change)
    → IsOfVolume v seen → HasBlocksOf seen view → HoldsAll seen held → AreInside seen change → Does seen call reply change
    → AnswersByView (rules_of (images_of v)) held view (record { client = client; call = call; reply = reply }) (cells_of v change)

-- a call that takes blocks, and that each image of which the view may be would take, may be answered that there is no space, with no change
abbrev pub SpacelessIsAnswered : Type 0
SpacelessIsAnswered = (v : Volume) (seen : Seen) (view : ℕ → Option BlockCell) (held : Option LockName → State) (client : ℕ) (call : Call)
    → IsOfVolume v seen → HasBlocksOf seen view → TakesSpace call
    → ((im : Image) (o : Owners) (l : Layout) (t : Tree) → IsOf seen im o l t → (apply call t).reply ≡ replies.Ok)
    → AnswersByView (rules_of (images_of v)) held view (record { client = client; call = call; reply = replies.NoSpace }) (λ b. None)

-- a sync is answered Ok from any view, with no change
abbrev pub SyncIsAnswered : Type 0
SyncIsAnswered = (v : Volume) (view : ℕ → Option BlockCell) (held : Option LockName → State) (client : ℕ)
    → AnswersByView (rules_of (images_of v)) held view (record { client = client; call = calls.Sync; reply = replies.Ok }) (λ b. None)

-- a block that a call needs is one under the lock that is told with it, in every image that the view may be of, and isn't free
abbrev pub MissingIsNeeded : Type 0
MissingIsNeeded = (v : Volume) (seen : Seen) (view : ℕ → Option BlockCell) (block : ℕ) (lock : LockName) → IsOfVolume v seen → HasBlocksOf seen view
    → ((im : Image) (o : Owners) (l : Layout) (t : Tree) → IsOf seen im o l t → (cover l block (o block) ≡ Some lock) × (is_free (o block) ≡ false))
    → NeedsByView (rules_of (images_of v)) view block (Some lock)

-- ---- the headline over images

-- What the trace and the images then are: what is said in the words of the cluster's history, and of whole images.
pub record ImageHeadline (v : Volume) (w : World (Trees (images_of v))) : Type 0 where
  pub told : TreeHeadline (images_of v) w
  -- each outcome of the disk, whichever heads its journals then have, replayed, with journals that can be read: the history with a loss for each life that has none is
  -- legal, and this image stands for the tree at its end
  pub remains : (choice : ℕ → Bool) (x r : ℕ → List ℕ) (full : Image) (ls : List Loss)
      → IsOutcome (Trees (images_of v)) w.disk x → IsReplay (Trees (images_of v)) w.disk choice x r
      → HasBlocksFor v full → RingsCanBeRead v full.at → ((b : ℕ) → (r b ≡ full.at b) ⊎ IsPlace v b)
      → AreLives w.book.published (head_cuts (Trees (images_of v)) w.disk choice) ls
      → history.Legal (history_of (images_of v) (w.items ++ gones (Trees (images_of v)) ls)) w.book.start
      × ((o : Owners) × StandsBy full o v.layout (tree_of (history_of (images_of v) (w.items ++ gones (Trees (images_of v)) ls)) w.book.start))
  -- where no call behind the number of its node's head changes anything no loss is needed
  pub at_the_end : (choice : ℕ → Bool) (x r : ℕ → List ℕ) (full : Image)
      → ((p node client number : ℕ) (call : Call) (reply : Reply) → slice_get (history_of (images_of v) w.items) p ≡ Some (item.Call node client number call reply)
      → head_cuts (Trees (images_of v)) w.disk choice node < number → changes.Changes (record { call = call; reply = reply }) ≡ false)
      → IsOutcome (Trees (images_of v)) w.disk x → IsReplay (Trees (images_of v)) w.disk choice x r
      → HasBlocksFor v full → RingsCanBeRead v full.at → ((b : ℕ) → (r b ≡ full.at b) ⊎ IsPlace v b)
      → (o : Owners) × StandsBy full o v.layout (tree_of (history_of (images_of v) w.items) w.book.start)

-- of nodes, journals and disk
abbrev pub EveryImageRun : Type 0
EveryImageRun = (v : Volume) (u w : World (Trees (images_of v))) → BeginsAt (Trees (images_of v)) u → Run (Trees (images_of v)) u w → ImageHeadline v w

-- and of these together with the locks
abbrev pub EveryImageCluster : Type 0
EveryImageCluster = (v : Volume) (a c : Cluster (Trees (images_of v))) → Starts (Trees (images_of v)) a → Events (Trees (images_of v)) a c → ImageHeadline v c.world
