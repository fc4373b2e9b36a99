-- What reading the tree of an image, its journals replayed, answers.
use Rattle.std.specs.Prelude.{ℕ, ◌≡◌, ◌<◌, ⊤, List, length, Result, Ok, Err}
use Rattle.fault_counts.specs.Causes.{WentUp}
use Rattle.file_tree.specs.Tree.{Tree}
use Rattle.disk_trees.specs.Reading.{ending}
use Rattle.disk_trees.specs.declared.faults.TreeFault.{TreeFault}
use Rattle.disk_trees.specs.declared.faults.TreeFault.TheVariants as tree
use Rattle.image_journals.specs.Frames.{HasSameFrame}
use Rattle.image_journals.specs.declared.finding.JournalPlaces.{JournalPlaces}
use Rattle.image_model.specs.Image.{Image}
use Rattle.image_model.specs.Owners.{Owners}
use Rattle.image_model.specs.Replays.{Replayed}
use Rattle.image_model.specs.Rules.{IsBrokenBlock}
use Rattle.image_model.specs.Stands.{IsLaid, Layout}
use Rattle.image_reader.specs.declared.image.ImageFault.{ImageFault}
use Rattle.image_reader.specs.declared.image.ImageFault.TheVariants as image
use Rattle.image_replays.specs.Replays.{put_over}
use Rattle.peer_replay.specs.declared.planned.Plan.{Plan}
use Rattle.replay_looks.specs.declared.faults.LookFault.{LookFault}
use Rattle.replay_looks.specs.declared.faults.LookFault.TheVariants as look
use Rattle.replayed_trees.specs.Planning.{ArePlansOf, StopsNext, StopsReplay}
use Rattle.replayed_trees.specs.declared.unread.Unread.{Unread}
use Rattle.replayed_trees.specs.declared.unread.Unread.TheVariants.{Damaged, DamagedAsItLies, Broken, NoMemory}

-- exactly this tree, unless there was no memory
abbrev pub GivesTree : Tree → Result Tree Unread → Type 0
GivesTree t (Ok given) = given ≡ t
GivesTree t (Err (Damaged block rule)) = ⊥
GivesTree t (Err (DamagedAsItLies block rule)) = ⊥
GivesTree t (Err Broken) = ⊥
GivesTree t (Err NoMemory) = ⊤

-- ---- why no tree is given

-- the frame of the image, its system files but for what stands at the places of its journals, is that of no image that stands: so it stands for no tree, whatever its journals say
abbrev pub HasNoSystem : Image → Type 0
HasNoSystem im = (r : Image) (o : Owners) (l : Layout) → HasSameFrame r im → IsLaid r o l → ⊥

-- Why the tree of an image with this layout isn't read: block b of the image stops the replay of its journals; or, as far as the image goes, it breaks a rule once what they say is in place.
pub data IsUnreadable (im : Image) (l : Layout) (b rule : ℕ) : Type 0 where
  stopped : StopsReplay im l rule b → b < im.count → IsUnreadable im l b rule
  broken : (replayed : Image) → Replayed im l replayed → IsBrokenBlock (ending replayed) rule b → IsUnreadable im l b rule

-- What is told of a block, where the frame is that of an image that stands: it stops the replay of the journals, or breaks the rule once they are replayed.
abbrev pub IsTold : Image → ℕ → ℕ → Type 0
IsTold im b rule = (r : Image) (o : Owners) (l : Layout) → HasSameFrame r im → IsLaid r o l → IsUnreadable im l b rule

-- What is told of a block, whatever the frame: of some journals with blocks of the device at their places it stops the replay, behind the plans of those before; or it breaks the rule, as far as the image goes, once the plans of all of them are put home.
pub data IsToldByPlans (im : Image) (b rule : ℕ) : Type 0 where
  by_next : (journals : List JournalPlaces) (plans : List Plan) → ArePlansOf im journals plans → StopsNext im journals plans rule b → b < im.count → IsToldByPlans im b rule
  by_all : (journals : List JournalPlaces) (plans : List Plan) → ArePlansOf im journals plans → length plans ≡ length journals → IsBrokenBlock (ending (put_over im plans)) rule b → IsToldByPlans im b rule

-- What is told of a block, where the journals weren't replayed: the frame is that of no image that stands, and the image as it lies breaks the rule there.
pub record IsToldAsItLies (im : Image) (b rule : ℕ) : Type 0 where
  pub none : HasNoSystem im
  pub broken : IsBrokenBlock im rule b

-- a fact for a block that is told, with its rule
abbrev pub IfDamaged : Unread → (ℕ → ℕ → Type 0) → Type 0
IfDamaged (Damaged block rule) P = P block rule
IfDamaged (DamagedAsItLies block rule) P = ⊤
IfDamaged Broken P = ⊤
IfDamaged NoMemory P = ⊤

-- one for a block that is told of the image as it lies
abbrev pub IfDamagedAsItLies : Unread → (ℕ → ℕ → Type 0) → Type 0
IfDamagedAsItLies (Damaged block rule) P = ⊤
IfDamagedAsItLies (DamagedAsItLies block rule) P = P block rule
IfDamagedAsItLies Broken P = ⊤
IfDamagedAsItLies NoMemory P = ⊤

-- and one where no rule is told
abbrev pub IfBroken : Unread → Type 0 → Type 0
IfBroken (Damaged block rule) P = ⊤
IfBroken (DamagedAsItLies block rule) P = ⊤
IfBroken Broken P = P
IfBroken NoMemory P = ⊤

-- ---- the disk in memory doesn't fail

-- a failing disk is told only where the count of faults rose so
abbrev pub HasCause : (before now : ℕ) → LookFault → Type 0
HasCause before now (look.Damaged block rule) = ⊤
HasCause before now (look.DiskFailed block rise) = WentUp before now rise.before rise.after
HasCause before now look.NoMemory = ⊤

-- none is told
abbrev pub IsSureLook : LookFault → Type 0
IsSureLook (look.Damaged block rule) = ⊤
IsSureLook (look.DiskFailed block rise) = ⊥
IsSureLook look.NoMemory = ⊤

abbrev pub IsSureTree : TreeFault → Type 0
IsSureTree (tree.Damaged block rule) = ⊤
IsSureTree (tree.DiskFailed block rise) = ⊥
IsSureTree tree.NoMemory = ⊤

-- ---- what is answered then

-- what stops a replay
abbrev pub of_look : LookFault → Unread
of_look (look.Damaged block rule) = Damaged block rule
of_look (look.DiskFailed block rise) = NoMemory
of_look look.NoMemory = NoMemory

-- why the tree was not read, once the journals were replayed
abbrev pub of_tree : TreeFault → Unread
of_tree (tree.Damaged block rule) = Damaged block rule
of_tree (tree.DiskFailed block rise) = NoMemory
of_tree tree.NoMemory = NoMemory

-- or of the image as it lies
abbrev pub of_read : ImageFault → Unread
of_read (image.Damaged block rule) = DamagedAsItLies block rule
of_read image.NoMemory = NoMemory
