-- How a command's end is told.
use Rattle.std.specs.Prelude.{ℕ, List, [], ◌∷◌, ◌++◌, codes, slice_get, Option, None, Some, if◌then◌else◌}
use Rattle.std.specs.List.{flat_map}
use Rattle.text_words.specs.Words.{word, number}
use Rattle.trace_text.specs.Text.{lock_text, state_text}
use Rattle.script_lang.specs.declared.script.Client.{Client}
use Rattle.fencing.specs.NodeSets.{has}
use Rattle.run_reports.specs.declared.status.Status.{Status}
use Rattle.run_reports.specs.declared.status.Status.TheVariants as status
use Rattle.run_reports.specs.declared.status.WhichSink.TheVariants as which
use Rattle.run_reports.specs.declared.status.Unbuilt.{Unbuilt}
use Rattle.run_reports.specs.declared.status.Unbuilt.TheVariants as part
use Rattle.image_mount.specs.declared.field.Field.{Field}
use Rattle.image_mount.specs.declared.field.Field.TheVariants as field
use Rattle.glock_names.specs.declared.Waits.{Waits}

abbrev pub field_text : Field → List ℕ
field_text field.FsFormat = codes "fs_format"
field_text field.MultihostFormat = codes "multihost_format"
field_text field.Bsize = codes "bsize"
field_text field.BsizeShift = codes "bsize_shift"
field_text field.Master = codes "master"
field_text field.Device = codes "device"
field_text field.Journals = codes "journals"
field_text field.Journal = codes "journal"
field_text field.Groups = codes "groups"
field_text field.GroupBlocks = codes "group_blocks"
field_text field.Nodes = codes "nodes"
field_text field.Sequence = codes "sequence"

-- ---- faults

abbrev pub rise_text : ℕ → ℕ → List ℕ
rise_text before now = codes " count" ++ number before ++ codes " to" ++ number now

abbrev pub block_text : Option ℕ → List ℕ
block_text None = codes " -"
block_text (Some block) = number block

abbrev pub device_text : ℕ → Option ℕ → ℕ → ℕ → List ℕ
device_text node block before now = codes "device fault: node" ++ number node ++ (codes " block" ++ block_text block ++ rise_text before now)

-- ---- clients that wait

-- the name of the client at this place
abbrev pub name_of : Option Client → List ℕ
name_of None = []
name_of (Some c) = c.name

-- the node, where it is one of these
abbrev pub holder_text : ℕ → ℕ → List ℕ
holder_text nodes node = if has nodes node then number node else []

abbrev pub holders_text : ℕ → List ℕ
holders_text nodes = flat_map (holder_text nodes) (1 ∷ 2 ∷ 3 ∷ 4 ∷ 5 ∷ 6 ∷ 7 ∷ 8 ∷ [])

abbrev pub waits_text : List Client → Waits → List ℕ
waits_text clients w =
    codes "stuck:" ++ word (name_of (slice_get clients w.client)) ++ codes " waits" ++ word (lock_text w.lock) ++ word (state_text w.state) ++ (codes " held" ++ holders_text w.holders)

-- ---- what is not built yet

abbrev pub part_text : Unbuilt → List ℕ
part_text part.Words = codes "words"
part_text (part.Script line) = codes "line" ++ number line

-- ---- the status

abbrev pub ended : List ℕ → List ℕ
ended text = text ++ 10 ∷ []

-- the text of a status that has one line
abbrev pub line_text : Status → List ℕ
line_text status.Done = codes "done"
line_text (status.Usage place) = codes "usage: word" ++ number place
line_text (status.BadScript line column) = codes "script: line" ++ number line ++ codes " column" ++ number column
line_text (status.NotProfile f value) = codes "not profile:" ++ word (field_text f) ++ number value
line_text (status.Damaged block rule) = codes "damaged: block" ++ number block ++ codes " rule" ++ number rule
line_text (status.DeviceFault node block before now) = device_text node block before now
line_text (status.ScriptFault before now) = codes "script fault:" ++ rise_text before now
line_text (status.SinkFault which before now) = codes "trace fault:" ++ rise_text before now
line_text status.NoMemory = codes "no memory"
line_text (status.StepsSpent steps) = codes "steps spent:" ++ number steps
line_text (status.Stuck waits) = []
line_text (status.TooSmall needed found) = codes "too small: needed" ++ number needed ++ codes " blocks, found" ++ number found
line_text (status.NotBuilt p) = codes "not built: " ++ part_text p

-- the lines of a status: one for each client that waits, none where the output itself failed, and else one
abbrev pub status_lines : List Client → Status → List ℕ
status_lines clients (status.Stuck waits) = flat_map (λ w. ended (waits_text clients w)) waits.items
status_lines clients (status.SinkFault which.Out before now) = []
status_lines clients st = ended (line_text st)

-- the number that a program ends with
abbrev pub status_number : Status → ℕ
status_number status.Done = 0
status_number (status.Usage place) = 1
status_number (status.BadScript line column) = 2
status_number (status.NotProfile f value) = 3
status_number (status.Damaged block rule) = 4
status_number (status.DeviceFault node block before now) = 5
status_number (status.ScriptFault before now) = 6
status_number (status.SinkFault which before now) = 7
status_number status.NoMemory = 8
status_number (status.StepsSpent steps) = 9
status_number (status.Stuck waits) = 10
status_number (status.TooSmall needed found) = 11
status_number (status.NotBuilt p) = 20
