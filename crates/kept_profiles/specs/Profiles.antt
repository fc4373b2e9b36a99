-- The image that a run leaves is one of the profile.
use Rattle.std.specs.Prelude.{ℕ, ◌^◌, ◌<◌, ◌↔◌, ⊤, List, Ok}
use Rattle.std.specs.List.{AllByRecursion}
use Rattle.disk_turns.specs.Turns.{Moment}
use Rattle.file_tree.specs.Tree.{Tree}
use Rattle.image_model.specs.Image.{Image, image_of}
use Rattle.image_model.specs.Replays.{Replayed}
use Rattle.image_model.specs.Stands.{IsJournalAt, Layout}
use Rattle.image_mount.specs.Mounted.{IsOfProfile, MountedValue}
use Rattle.image_recovery.specs.Left.{HaveLowHeads}
use Rattle.lone_runs.specs.Laws.{IsRunOf}
use Rattle.peer_replay.specs.declared.planned.Plan.{Plan}
use Rattle.run_rules.specs.History.{NoneStopped}
use Rattle.script_lang.specs.Script.{ScriptValue}
use Rattle.trace_text.specs.declared.item.TraceItem.{TraceItem}
use Rattle.trace_text.specs.declared.item.TraceItem.TheVariants as trace

-- a header of a node's journal that the item tells has a sequence of the profile
abbrev pub HasLowSequence : TraceItem → Type 0
HasLowSequence (trace.WriteHead node block sequence upto) = sequence < 2 ^ 63
HasLowSequence (trace.WriteClean node block sequence upto) = sequence < 2 ^ 63
HasLowSequence _ = ⊤

abbrev pub HaveLowSequences : List TraceItem → Type 0
HaveLowSequences items = AllByRecursion HasLowSequence items

-- the image is of the profile, and its journals are those that mounting found
pub record IsLeftOfProfile (im : Image) (found : Layout) : Type 0 where
  pub of : IsOfProfile im
  pub journals : (j k : ℕ) → IsJournalAt of.layout j k ↔ IsJournalAt found j k

-- A run of an image that is of the profile once its journals are replayed came to its end without a stop. No head that wasn't clean had the last sequence of the profile, and each header that the items tell has one of the
-- profile. Then the image that it left is of the profile, with the same journals.
abbrev pub RunsKeepTheProfile : Type 0
RunsKeepTheProfile = (s : ScriptValue) (time frames : ℕ) (before : Moment) (m : MountedValue) (plans : List Plan) (start : Tree) (after : Moment) (items : List TraceItem) (l : Layout) (replayed : Image)
    → (is : IsRunOf s time frames before m plans start after items (Ok tt)) → NoneStopped items → Replayed (image_of before.disk) l replayed → IsOfProfile replayed → HaveLowHeads m → HaveLowSequences items
    → IsLeftOfProfile (image_of after.disk) is.from.mounted.layout
