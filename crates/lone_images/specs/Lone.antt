-- One node that runs alone on an image and holds every lock exclusive: its start, its calls and its log, in terms of images and file calls.
use Rattle.std.specs.Prelude.{ℕ, ◌≡◌, Bool, true, false, if◌then◌else◌, List, Option, None, Some}
use Rattle.file_tree.specs.Tree.{Tree}
use Rattle.file_tree.specs.Apply.{TakesSpace, apply}
use Rattle.file_tree.specs.declared.call.Call.{Call}
use Rattle.file_tree.specs.declared.call.Call.TheVariants as calls
use Rattle.file_tree.specs.declared.reply.Reply.{Reply}
use Rattle.file_tree.specs.declared.reply.Reply.TheVariants as replies
use Rattle.cluster_laws.specs.Files.{Part, State, Un, Ex}
use Rattle.cluster_laws.specs.Log.{Calm}
use Rattle.cluster_laws.specs.World.{World}
use Rattle.glock_names.specs.Views.{Seen}
use Rattle.glock_names.specs.declared.LockName.{LockName}
use Rattle.drafts.specs.declared.change.Change.{Change}
use Rattle.image_model.specs.Image.{Image}
use Rattle.image_model.specs.Owners.{Owners}
use Rattle.image_model.specs.Stands.{Layout}
use Rattle.image_changes.specs.Changes.{place_of}
use Rattle.image_changes.specs.Does.{AreInside, Does, IsOf, bytes_for, frees, has_block, writes}
use Rattle.image_changes.specs.Instances.{StandsBy}
use Rattle.tree_histories.specs.Trees.{Told, Trees}
use Rattle.image_machine.specs.Cells.{BlockCell, HasBlocksOf, HoldsAll, IsOfVolume, cells_of}
use Rattle.image_machine.specs.Volumes.{Volume, images_of, volume_of}
use Rattle.lone_machine.specs.Alone.{Begun, IsAlone, IsBegun, answers, syncs}
use Rattle.lone_machine.specs.Laws.{GoesOnWith, KeepsCached}
use Rattle.lone_machine.specs.Versions.{IsWithChange}

-- ---- the start

-- every lock exclusive; nobody holds 'no lock'
abbrev pub all_locks : Option LockName → State
all_locks None = Un
all_locks (Some lock) = Ex

-- node 1 begins on this image, which stands for the tree as it lies
abbrev pub begun_on : (im : Image) → Owners → (l : Layout) → Tree → Begun (Trees (images_of (volume_of im l)))
begun_on im o l t = record {
  node = 1;
  held = all_locks;
  image = λ b. record { content = im.at b; place = place_of l o b };
  tree = t;
  blocks = im.at;
  told = record { client = 0; call = calls.Sync; reply = replies.Ok };
}

abbrev pub ImagesBegin : Type 0
ImagesBegin = (im : Image) (o : Owners) (l : Layout) (t : Tree) → StandsBy im o l t → IsBegun (Trees (images_of (volume_of im l))) (begun_on im o l t)

-- ---- a call

-- what the node caches once it answered with this change: what the change writes, and not what it frees
abbrev pub kept_cell : Option BlockCell → Option BlockCell → Option BlockCell
kept_cell None old = old
kept_cell (Some x) old = if (x.place).free then None else Some x

abbrev pub cache_after : (v : Volume) → Begun (Trees (images_of v)) → World (Trees (images_of v)) → Part (Trees (images_of v)) → Part (Trees (images_of v))
cache_after v s w change b = kept_cell (change b) (w.book.cache s.node b)

-- it answers the call so, from what it has cached, with the change as cells
abbrev pub answered : (v : Volume) → Begun (Trees (images_of v)) → World (Trees (images_of v)) → Told → Part (Trees (images_of v)) → World (Trees (images_of v))
answered v s w said change = answers (Trees (images_of v)) s w said (w.book.cache s.node) change (cache_after v s w change)

-- A call that does what it should over what the node has cached goes on in the machine. It is no sync that is answered Ok.
abbrev pub CallsGoOn : Type 0
CallsGoOn = (v : Volume) (s : Begun (Trees (images_of v))) (w : World (Trees (images_of v))) (seen : Seen) (said : Told) (change : Change)
    → IsAlone (Trees (images_of v)) s w → ((said.call ≡ calls.Sync) × (said.reply ≡ replies.Ok) → ⊥)
    → IsOfVolume v seen → HasBlocksOf seen (w.book.cache s.node) → HoldsAll seen s.held → AreInside seen change → Does seen said.call said.reply change
    → GoesOnWith (Trees (images_of v)) s w (answered v s w said (cells_of v change)) said (cells_of v change)
    × KeepsCached (Trees (images_of v)) s w (answered v s w said (cells_of v change))

-- so does one for which there is no space, though each image that the view may be of would take it
abbrev pub SpacelessGoesOn : Type 0
SpacelessGoesOn = (v : Volume) (s : Begun (Trees (images_of v))) (w : World (Trees (images_of v))) (seen : Seen) (client : ℕ) (call : Call)
    → IsAlone (Trees (images_of v)) s w → IsOfVolume v seen → HasBlocksOf seen (w.book.cache s.node) → TakesSpace call
    → ((im : Image) (o : Owners) (l : Layout) (t : Tree) → IsOf seen im o l t → (apply call t).reply ≡ replies.Ok)
    → GoesOnWith (Trees (images_of v)) s w (answered v s w (record { client = client; call = call; reply = replies.NoSpace }) (λ b. None))
    (record { client = client; call = call; reply = replies.NoSpace }) (λ b. None)
    × KeepsCached (Trees (images_of v)) s w (answered v s w (record { client = client; call = call; reply = replies.NoSpace }) (λ b. None))

-- and a sync that is answered Ok, where no call that isn't in the journal changes anything
abbrev pub SyncGoesOn : Type 0
SyncGoesOn = (v : Volume) (s : Begun (Trees (images_of v))) (w : World (Trees (images_of v))) (client : ℕ)
    → IsAlone (Trees (images_of v)) s w → Calm (Trees (images_of v)) w.book s.node (w.book.low s.node) (w.book.answered s.node)
    → GoesOnWith (Trees (images_of v)) s w (syncs (Trees (images_of v)) s w (record { client = client; call = calls.Sync; reply = replies.Ok }))
    (record { client = client; call = calls.Sync; reply = replies.Ok }) (λ b. None)

-- ---- its log

-- the versions with a change: what it writes, and nothing of what it frees
abbrev pub version_with : Change → (ℕ → Option (List ℕ)) → ℕ → Option (List ℕ)
version_with change versions b = elim (bytes_for change.blocks.items b) [ Some bytes ↦ Some bytes | None ↦ if frees change b then None else versions b ]

-- what has gone, with a change: nothing that it writes, and besides that perhaps what it frees
pub record HasGoneWith (change : Change) (gone gone' : ℕ → Bool) : Type 0 where
  pub written : (b : ℕ) → writes change b ≡ true → gone' b ≡ false
  pub others : (b : ℕ) → has_block change b ≡ false → gone' b ≡ gone b

-- these are the versions of the machine's change
abbrev pub ChangesMakeVersions : Type 0
ChangesMakeVersions = (v : Volume) (seen : Seen) (call : Call) (reply : Reply) (change : Change) (versions : ℕ → Option (List ℕ)) (gone gone' : ℕ → Bool) → Does seen call reply change
    → HasGoneWith change gone gone' → IsWithChange (Trees (images_of v)) (cells_of v change) versions (version_with change versions) gone gone'
