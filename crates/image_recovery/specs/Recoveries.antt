-- The replays of an image's journals, one after another.
use Rattle.std.specs.Prelude.{ℕ, ◌≡◌, ◌+◌, ⊤, List, [], ◌∷◌, ◌++◌, slice_get, take, Option, Some}
use Rattle.disk_items.specs.Deeds.{AreTold}
use Rattle.disk_turns.specs.Turns.{Moment}
use Rattle.image_mount.specs.Mounted.{Journal}
use Rattle.journal_replays.specs.Crashes.{HasCrashed}
use Rattle.journal_replays.specs.Headers.{IsHeaderRead}
use Rattle.journal_replays.specs.Replays.{CanReplay, HasFailed, IsReplayBy}
use Rattle.peer_replay.specs.declared.planned.Plan.{Plan}
use Rattle.shared_disk.specs.Disk.{DiskState}
use Rattle.trace_text.specs.declared.item.TraceItem.{TraceItem}

-- there is a plan for each journal, which can be carried out
abbrev pub CanReplayAll : DiskState → List Journal → List Plan → Type 0
CanReplayAll d [] [] = ⊤
CanReplayAll d [] (p ∷ ps) = ⊥
CanReplayAll d (j ∷ js) [] = ⊥
CanReplayAll d (j ∷ js) (p ∷ ps) = CanReplay d j.blocks p × CanReplayAll d js ps

-- the journals are replayed one after another, each by its plan, from this slot on, and these are the items of all
abbrev pub AreReplays : (node slot time : ℕ) → (before : Moment) → List Journal → List Plan → (after : Moment) → List TraceItem → Type 0
AreReplays node slot time before [] [] after items = (after ≡ before) × (items ≡ [])
AreReplays node slot time before [] (p ∷ ps) after items = ⊥
AreReplays node slot time before (j ∷ js) [] after items = ⊥
AreReplays node slot time before (j ∷ js) (p ∷ ps) after items =
    (next : Moment) × (first : List TraceItem) × (later : List TraceItem) × (items ≡ first ++ later) × IsReplayBy node slot j.dinode j.blocks time before next p first
    × AreReplays node (slot + 1) time next js ps after later

-- each header that is written, from this slot on, is read from its block again
abbrev pub AreHeadersRead : (size slot time : ℕ) → List Journal → List Plan → Type 0
AreHeadersRead size slot time (j ∷ js) (p ∷ ps) = IsHeaderRead size slot j.dinode j.blocks time p.clean × AreHeadersRead size (slot + 1) time js ps
AreHeadersRead size slot time [] ps = ⊤
AreHeadersRead size slot time (j ∷ js) [] = ⊤

-- these journals were replayed, and their items came behind those that were there
pub record HaveReplayed (node time : ℕ) (before after : Moment) (journals : List Journal) (plans : List Plan) (items items' : List TraceItem) : Type 0 where
  pub added : List TraceItem
  pub are : items' ≡ items ++ added
  pub replays : AreReplays node 1 time before journals plans after added
  pub told : AreTold before.list after.list added

-- the first ones were, and of the others nothing was done
pub record HaveReplayedSome (node time : ℕ) (before after : Moment) (journals : List Journal) (plans : List Plan) (items items' : List TraceItem) : Type 0 where
  pub count : ℕ
  pub replayed : HaveReplayed node time before after (take count journals) (take count plans) items items'

-- the first ones were, and in the replay of the next one the disk failed, at this block or at a barrier
pub record HaveFailed (node time : ℕ) (before after : Moment) (journals : List Journal) (plans : List Plan) (items items' : List TraceItem) (block : Option ℕ) : Type 0 where
  pub count : ℕ
  pub between : Moment
  pub its_items : List TraceItem
  pub replayed : HaveReplayed node time before between (take count journals) (take count plans) items its_items
  pub journal : Journal
  pub plan : Plan
  pub at_journal : slice_get journals count ≡ Some journal
  pub at_plan : slice_get plans count ≡ Some plan
  pub failed : HasFailed node (count + 1) journal.dinode journal.blocks time between after plan its_items items' block

-- the first ones were, and in the replay of the next one the node crashed
pub record HaveCrashed (node time : ℕ) (before after : Moment) (journals : List Journal) (plans : List Plan) (items items' : List TraceItem) : Type 0 where
  pub count : ℕ
  pub between : Moment
  pub its_items : List TraceItem
  pub replayed : HaveReplayed node time before between (take count journals) (take count plans) items its_items
  pub journal : Journal
  pub plan : Plan
  pub at_journal : slice_get journals count ≡ Some journal
  pub at_plan : slice_get plans count ≡ Some plan
  pub crashed : HasCrashed node (count + 1) journal.dinode journal.blocks time between after plan its_items items'
