-- What an answered call asks of the log, at a point of a run.
use Rattle.std.specs.Prelude.{ℕ, ◌≤◌, ◌⊎◌, List}
use Rattle.profile_limits.specs.Limits.{least_frames, least_journal_blocks, most_group_blocks}
use Rattle.file_tree.specs.declared.call.Call.{Call}
use Rattle.file_tree.specs.declared.reply.Reply.{Reply}
use Rattle.drafts.specs.declared.change.Change.{Change}
use Rattle.image_machine.specs.Volumes.{Volume}
use Rattle.image_model.specs.Profile.{group_length}
use Rattle.log_values.specs.Changes.{Suffices, with_change}
use Rattle.log_values.specs.Flushing.{NothingIsLive}
use Rattle.log_values.specs.Laws.{IsAtRest}
use Rattle.log_values.specs.Log.{LogValue}
use Rattle.logged_steps.specs.Answers.{IsDoneBy}
use Rattle.logged_steps.specs.States.{trees_on}
use Rattle.lone_machine.specs.Alone.{Begun}
use Rattle.script_lang.specs.declared.script.Client.{Client}
use Rattle.logged_steps.specs.Laws.{IsLoggedAt}
use Rattle.logged_steps.specs.Points.{Point}
use Rattle.loggable_changes.specs.Loggable.{CanBeLogged}
use Rattle.small_calls.specs.Sizes.{IsOfScript}

-- the change of a call that is answered there is one that the log takes, of blocks of the disk
abbrev pub AnswersCanBeAdded : Type 0
AnswersCanBeAdded = (v : Volume) (s : Begun (trees_on v)) (d : ℕ) (clients : List Client) (time : ℕ) (p : Point) (call : Call) (reply : Reply) (change : Change) → IsLoggedAt v s d clients p
    → IsDoneBy p.view time call reply change → CanBeLogged p.log.journal.size p.disk.count change

-- ---- room

-- few blocks are live: in a journal of 512 places there are never more, and behind a header alone there is none
abbrev pub HasFewLive : LogValue → Type 0
HasFewLive log = (log.journal.length ≤ least_journal_blocks) ⊎ NothingIsLive log

-- On an image of the profile a log at rest has room for the change of each call that a script may have, with 512 frames, and where few blocks are live.
abbrev pub AnswersHaveRoom : Type 0
AnswersHaveRoom = (v : Volume) (s : Begun (trees_on v)) (d : ℕ) (clients : List Client) (time : ℕ) (p : Point) (call : Call) (reply : Reply) (change : Change) → IsLoggedAt v s d clients p
    → group_length v.layout.groups ≤ most_group_blocks → IsOfScript call → IsDoneBy p.view time call reply change
    → IsAtRest p.log → least_frames ≤ p.log.journal.frames → HasFewLive p.log → Suffices (with_change p.log change)
