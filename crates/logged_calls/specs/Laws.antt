-- On an image that stands for a tree the log takes what each call of a script changes.
use Rattle.std.specs.Prelude.{ℕ, ◌≤◌, List}
use Rattle.profile_limits.specs.Limits.{least_frames, most_group_blocks}
use Rattle.file_tree.specs.declared.call.Call.{Call}
use Rattle.image_machine.specs.Volumes.{Volume}
use Rattle.image_model.specs.Profile.{group_length}
use Rattle.lone_logs.specs.States.{trees_on}
use Rattle.lone_machine.specs.Alone.{Begun}
use Rattle.script_lang.specs.declared.script.Client.{Client}
use Rattle.logged_answers.specs.Laws.{IsLoggedAt}
use Rattle.logged_answers.specs.Points.{Point}
use Rattle.logged_answers.specs.Sizes.{IsOfScript}
use Rattle.logged_calls.specs.Ends.{IsTooSmallFor, IsUnloggableFor}

-- no call changes what no log takes
abbrev pub CallsAreLoggable : Type 0
CallsAreLoggable = (v : Volume) (s : Begun (trees_on v)) (d : ℕ) (clients : List Client) (time : ℕ) (p : Point) (call : Call) → IsLoggedAt v s d clients p → IsUnloggableFor p time call → ⊥

-- on an image of the profile a log of 512 frames is too small for no call of a script
abbrev pub CallsHaveRoom : Type 0
CallsHaveRoom = (v : Volume) (s : Begun (trees_on v)) (d : ℕ) (clients : List Client) (time : ℕ) (p : Point) (call : Call) → IsLoggedAt v s d clients p
    → group_length v.layout.groups ≤ most_group_blocks → IsOfScript call → least_frames ≤ p.log.journal.frames → IsTooSmallFor p time call → ⊥
