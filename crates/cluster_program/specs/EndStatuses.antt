-- Which status each end of a part has: of a run, of the reading of a tree, of a mount and of the planning of a replay, of the script and its reading.
use Rattle.std.specs.Prelude.{ℕ, ◌+◌, ⊤, None, Some}
use Rattle.script_lang.specs.declared.parser.ScriptRefusal.{ScriptRefusal}
use Rattle.script_lang.specs.declared.parser.ScriptRefusal.TheVariants as refusal
use Rattle.image_mount.specs.declared.fault.MountFault.{MountFault}
use Rattle.image_mount.specs.declared.fault.MountFault.TheVariants as fault
use Rattle.image_replays.specs.look_faults.LookFault.{LookFault}
use Rattle.image_replays.specs.look_faults.LookFault.TheVariants as look
use Rattle.kept_profiles.specs.logged_scripts_ends.RunEnd.{RunEnd as ScriptEnd}
use Rattle.kept_profiles.specs.logged_scripts_ends.RunEnd.TheVariants as script_end
use Rattle.journal_reads.specs.declared.faults.ReadFault.{ReadFault}
use Rattle.journal_reads.specs.declared.faults.ReadFault.TheVariants as read
use Rattle.kept_profiles.specs.lone_runs_ends.RunEnd.{RunEnd}
use Rattle.kept_profiles.specs.lone_runs_ends.RunEnd.TheVariants as end
use Rattle.disk_trees.specs.declared.faults.TreeFault.{TreeFault}
use Rattle.disk_trees.specs.declared.faults.TreeFault.TheVariants as tree
use Rattle.cluster_program.specs.declared.input.InputFault.{InputFault}
use Rattle.cluster_program.specs.declared.input.InputFault.TheVariants as input
use Rattle.run_reports.specs.declared.status.Status.{Status}
use Rattle.run_reports.specs.declared.status.Status.TheVariants as status
use Rattle.run_reports.specs.declared.status.Unbuilt.TheVariants as part

-- of a run of a script, whose first line that is run has this number; only on a disk that tells nothing is a journal such as no node can have (a block has two owners)
abbrev pub status_of_script : ℕ → ScriptEnd → Status
status_of_script first (script_end.ReadFailed block rise) = status.DeviceFault 1 (Some block) rise.before rise.after
status_of_script first (script_end.WriteFailed block rise) = status.DeviceFault 1 block rise.before rise.after
status_of_script first (script_end.NotFenced rise) = status.DeviceFault 0 None rise.before rise.after
status_of_script first (script_end.HeadUnread block rise) = status.DeviceFault 0 (Some block) rise.before rise.after
status_of_script first (script_end.Damaged block rule) = status.Damaged block rule
status_of_script first (script_end.NotBuilt line) = status.NotBuilt (part.Script (first + line))
status_of_script first (script_end.LogTooSmall line) = status.NotBuilt (part.Script (first + line))
status_of_script first (script_end.NotLoggable line) = status.NotBuilt (part.Script (first + line))
status_of_script first script_end.NoMemory = status.NoMemory

-- an end at a line is at one of which this holds
abbrev pub IsPlacedEnd : (ℕ → Type 0) → ScriptEnd → Type 0
IsPlacedEnd P (script_end.NotBuilt line) = P line
IsPlacedEnd P (script_end.LogTooSmall line) = P line
IsPlacedEnd P (script_end.NotLoggable line) = P line
IsPlacedEnd P e = ⊤

abbrev pub IfOfScript : RunEnd → (ScriptEnd → Type 0) → Type 0
IfOfScript (end.Script e) P = P e
IfOfScript e P = ⊤

abbrev pub status_of_run : ℕ → RunEnd → Status
status_of_run first (end.Misplaced dinode) = status.Damaged dinode 3
status_of_run first (end.ReplayFailed block rise) = status.DeviceFault 1 block rise.before rise.after
status_of_run first (end.Script e) = status_of_script first e

-- of the reading of the tree
abbrev pub status_of_tree : TreeFault → Status
status_of_tree (tree.Damaged block rule) = status.Damaged block rule
status_of_tree (tree.DiskFailed block rise) = status.DeviceFault 0 (Some block) rise.before rise.after
status_of_tree tree.NoMemory = status.NoMemory

-- of the planning of a replay
abbrev pub status_of_look : LookFault → Status
status_of_look (look.Damaged block rule) = status.Damaged block rule
status_of_look (look.DiskFailed block rise) = status.DeviceFault 0 (Some block) rise.before rise.after
status_of_look look.NoMemory = status.NoMemory

-- of a mount
abbrev pub status_of_mount : MountFault → Status
status_of_mount (fault.NotProfile field value) = status.NotProfile field value
status_of_mount (fault.Damaged block rule) = status.Damaged block rule
status_of_mount (fault.DeviceFault block before after) = status.DeviceFault 0 (Some block) before after
status_of_mount fault.NoMemory = status.NoMemory

-- of the reading of a text
abbrev pub status_of_input : InputFault → Status
status_of_input (input.Fault rise) = status.ScriptFault rise.before rise.after
status_of_input input.NoMemory = status.NoMemory

-- of its parsing
abbrev pub status_of_refusal : ScriptRefusal → Status
status_of_refusal (refusal.Bad line column) = status.BadScript line column
status_of_refusal refusal.NoMemory = status.NoMemory

-- of the reading of a head
abbrev pub status_of_read : ReadFault → Status
status_of_read (read.DiskFailed block rise) = status.DeviceFault 0 (Some block) rise.before rise.after
status_of_read read.NoMemory = status.NoMemory
