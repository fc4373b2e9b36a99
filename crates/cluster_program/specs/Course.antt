-- What a command does, from its words and its script to the items of its run and its own end.
use Rattle.std.specs.Prelude.{ℕ, ◌≡◌, ◌<◌, ◌≤◌, IfSome, IsTrue, ◌++◌, ◌&&◌, Bool, true, false, if◌then◌else◌, List, [], ◌∷◌, codes, map, Option, Some, None, Result, Ok, Err}
use Rattle.profile_limits.specs.Limits.{most_blocks}
use Rattle.std.specs.Io.KnownBytes.{Consumes, IsAtEnd}
use Rattle.fault_counts.specs.Causes.{WentUp}
use Rattle.file_tree.specs.Tree.{Tree}
use Rattle.trace_text.specs.declared.item.TraceItem.{TraceItem}
use Rattle.script_lang.specs.Script.{ScriptValue}
use Rattle.script_lang.specs.Grammar.{script_read, Script, Bad, nothing}
use Rattle.script_lang.specs.Foreign.{first_foreign}
use Rattle.script_lang.specs.declared.script.Client.{Client}
use Rattle.command_words.specs.Commands.{words_read}
use Rattle.command_words.specs.declared.command.Command.{Command}
use Rattle.command_words.specs.declared.command.Command.TheVariants as command
use Rattle.command_words.specs.declared.command.Usage.{Usage}
use Rattle.command_words.specs.declared.command.MakeWords.{MakeWords}
use Rattle.command_words.specs.declared.command.RunWords.{RunWords}
use Rattle.mkgfs2_tool.specs.declared.options.MakeOptions.{MakeOptions}
use Rattle.mkgfs2_tool.specs.declared.plan.Plan.{Plan}
use Rattle.mkgfs2_tool.specs.Making.{plan_of}
use Rattle.mkgfs2_tool.specs.Order.{fits, IsNeeded}
use Rattle.mkgfs2_tool.specs.Outcomes.{IsBegun, IsMade}
use Rattle.shared_disk.specs.Disk.{DiskState}
use Rattle.image_model.specs.Image.{Image}
use Rattle.image_model.specs.Replays as replays
use Rattle.disk_trees.specs.Reading.{IsUnreadable}
use Rattle.image_mount.specs.Mounted.{IsMounted, Journal, MountedValue}
use Rattle.show_text.specs.Show.{journal_lines, tree_lines}
use Rattle.cluster_program.specs.Mounting.{HasMounted, OfImage, IsImageOf, IsMountableClean, NeverStands, MountEnds, IsMountedOn}
use Rattle.cluster_program.specs.Runs.{Runs}
use Rattle.run_reports.specs.declared.output.Listing.{Listing}
use Rattle.run_reports.specs.declared.output.Listing.TheVariants.{Clients, Journals}
use Rattle.cluster_program.specs.World.{Inputs, KeepsScript, KeepsDisk}
use Rattle.run_reports.specs.declared.status.Status.{Status}
use Rattle.run_reports.specs.declared.status.Status.TheVariants as status
use Rattle.run_reports.specs.declared.status.Unbuilt.TheVariants as part
use Rattle.image_mount.specs.declared.field.Field.TheVariants as field

-- ---- the words

abbrev pub is_none : {A : Type 0} → Option A → Bool
is_none None = true
is_none (Some a) = false

-- today any image is made, shown and replayed, and a run is built, but not its schedules, steps and frames
abbrev pub is_built : Command → Bool
is_built (command.Make words) = true
is_built command.Show = true
is_built command.Replay = true
is_built (command.Run words) = is_none words.schedule && is_none words.steps && is_none words.frames
is_built _ = false

abbrev pub refusal_of : Result Command Usage → Option Status
refusal_of (Err usage) = Some (status.Usage usage.word)
refusal_of (Ok c) = if is_built c then None else Some (status.NotBuilt part.Words)

-- why these words are not carried out on a disk of this block size
abbrev pub words_refusal : ℕ → List (List ℕ) → Option Status
words_refusal block_size words = refusal_of (words_read block_size words)

-- the words ask for an image, for a show, for a replay, or for a run, and that is built
pub record AsksToMake (block_size : ℕ) (words : List (List ℕ)) (make : MakeWords) : Type 0 where
  pub read : words_read block_size words ≡ Ok (command.Make make)
  pub built : words_refusal block_size words ≡ None

pub record AsksToShow (block_size : ℕ) (words : List (List ℕ)) : Type 0 where
  pub read : words_read block_size words ≡ Ok command.Show
  pub built : words_refusal block_size words ≡ None

pub record AsksToReplay (block_size : ℕ) (words : List (List ℕ)) : Type 0 where
  pub read : words_read block_size words ≡ Ok command.Replay
  pub built : words_refusal block_size words ≡ None

pub record AsksToRun (block_size : ℕ) (words : List (List ℕ)) : Type 0 where
  pub run : RunWords
  pub read : words_read block_size words ≡ Ok (command.Run run)
  pub built : words_refusal block_size words ≡ None

-- ---- an image is made

-- what is to be made
abbrev pub options_of : MakeWords → MakeOptions
options_of words = record { journals = words.journals; journal_blocks = words.journal_blocks; groups = words.groups; uuid = words.uuid; time = words.time }

abbrev pub plan_for : DiskState → MakeWords → Plan
plan_for disk words = plan_of disk.size disk.count (options_of words)

-- How mkfs ends: the device is larger than any may be; the image doesn't fit it, and so many blocks are needed; there was no
-- memory; the disk failed, at one of its blocks or at a barrier, and a part is made; or the image is made, every block of it, and
-- can be mounted.
pub data Makes (words : MakeWords) (before now : Inputs) : Status → Type 0 where
  IsTooLarge : most_blocks < before.disk.count → now ≡ before → Makes words before now (status.NotProfile field.Device before.disk.count)
  IsTooSmall : (needed : ℕ) → before.disk.count ≤ most_blocks → fits (plan_for before.disk words) ≡ false → IsNeeded (plan_for before.disk words) needed → now ≡ before
      → Makes words before now (status.TooSmall needed before.disk.count)
  LacksMemory : before.disk.count ≤ most_blocks → fits (plan_for before.disk words) ≡ true → now ≡ before → Makes words before now status.NoMemory
  HasFailed : (block : Option ℕ) (x y : ℕ) → before.disk.count ≤ most_blocks → fits (plan_for before.disk words) ≡ true → WentUp (before.disk_faults 0) (now.disk_faults 0) x y
      → IfSome block (λ b. b < before.disk.count) → IsBegun (plan_for before.disk words) before.disk now.disk before.disk_list now.disk_list
      → KeepsScript before now → Makes words before now (status.DeviceFault 0 block x y)
  HasMade : before.disk.count ≤ most_blocks → fits (plan_for before.disk words) ≡ true
      → IsMade (plan_for before.disk words) before.disk now.disk before.disk_list now.disk_list → (IsTrue before.disk.tells → IsMountableClean now.disk)
      → KeepsScript before now → Makes words before now status.Done

-- ---- the script

-- this text was read to its end
pub record HasRead (before now : Option (List ℕ)) (text : List ℕ) : Type 0 where
  pub consumed : Consumes before now text
  pub whole : IsAtEnd now

-- Why there is no script to run: its source failed; the grammar refuses it at this place, maybe before its end, and then
-- whatever follows; this line of it is not built; or there was no memory.
pub data LacksScript (before now : Option (List ℕ)) (faults faults_now : ℕ) : Status → Type 0 where
  SourceFailed : (x y : ℕ) → WentUp faults faults_now x y → LacksScript before now faults faults_now (status.ScriptFault x y)
  Refused : (text : List ℕ) (line column : ℕ) → HasRead before now text → script_read text ≡ Bad line column
      → LacksScript before now faults faults_now (status.BadScript line column)
  RefusedEarly : (front : List ℕ) (line column : ℕ) → Consumes before now front → ((rest : List ℕ) → script_read (front ++ rest) ≡ Bad line column)
      → LacksScript before now faults faults_now (status.BadScript line column)
  NotBuiltYet : (text : List ℕ) (s : ScriptValue) (line : ℕ) → HasRead before now text → script_read text ≡ Script s → first_foreign s ≡ Some line
      → LacksScript before now faults faults_now (status.NotBuilt (part.Script line))
  NoRoom : LacksScript before now faults faults_now status.NoMemory

-- ---- what is shown

-- whether each journal was left clean
abbrev pub clean_of : MountedValue → List Bool
clean_of m = map (λ (j : Journal). j.head.clean) m.journals

-- it was, and block b stops the replay of its journals, or breaks this rule once they are replayed
pub record IsUnreadableAt (im : Image) (b rule : ℕ) : Type 0 where
  pub value : MountedValue
  pub mounted : IsMounted im value
  pub why : IsUnreadable im mounted.layout b rule

-- what was mounted has journals that can be replayed
abbrev pub HasReplayableJournals : DiskState → MountedValue → Type 0
HasReplayableJournals disk m = OfImage disk (λ im. (is : IsMounted im m) → replays.IsReplayable im is.layout)

-- What `show` prints, and how it ends: the image was mounted, and its journals can be replayed; a line for each of them, clean or not, and behind these the lines of a tree,
-- which is that for which the image stands, its journals replayed, if it stands for one; or nothing, since the image was not mounted, or there was no memory, or, of an image that was
-- mounted, the disk failed at one of its blocks, or a block stops the replay of its journals or breaks a rule once they are replayed.
pub data Shows (disk : DiskState) (faults faults_now : ℕ → ℕ) : List ℕ → Status → Type 0 where
  HasShown : (m : MountedValue) (tree : Tree) (lines : List ℕ) → IsMountedOn disk m → HasReplayableJournals disk m → ((t : Tree) → IsImageOf disk t → tree ≡ t)
      → lines ≡ journal_lines 0 (clean_of m) ++ tree_lines [] tree → Shows disk faults faults_now lines status.Done
  ShowsNone : (own : Status) → MountEnds disk faults faults_now own → Shows disk faults faults_now [] own
  TreeFailed : (block x y : ℕ) → OfImage disk HasMounted → WentUp (faults 0) (faults_now 0) x y → block < disk.count
      → Shows disk faults faults_now [] (status.DeviceFault 0 (Some block) x y)
  TreeDamaged : (block rule : ℕ) → OfImage disk (λ im. IsUnreadableAt im block rule) → OfImage disk NeverStands → Shows disk faults faults_now [] (status.Damaged block rule)
  NothingHeld : Shows disk faults faults_now [] status.NoMemory

-- ---- the script of a replay: its node joins, replays each journal that isn't clean, and unmounts

abbrev pub replay_client : Client
replay_client = record { name = codes "c"; node = 1 }

abbrev pub replay_script : ScriptValue
replay_script = record { nodes = 1; clients = replay_client ∷ []; armed = []; lines = [] }

-- ---- the command: refusals come in this order, each before anything that follows it is touched; its items are those of a run or a replay, its lines those of a show

pub data Course (words : List (List ℕ)) (before now : Inputs) : Listing → ScriptValue → List TraceItem → List ℕ → Status → Type 0 where
  RefusesWords : (own : Status) → words_refusal before.disk.size words ≡ Some own → now ≡ before → Course words before now Clients nothing [] [] own
  MakesImage : (make : MakeWords) (own : Status) → AsksToMake before.disk.size words make → Makes make before now own → Course words before now Clients nothing [] [] own
  ShowsImage : (lines : List ℕ) (own : Status) → AsksToShow before.disk.size words → KeepsScript before now → KeepsDisk before now
      → Shows before.disk before.disk_faults now.disk_faults lines own → Course words before now Clients nothing [] lines own
  ReplaysImage : (items : List TraceItem) (own : Status) → AsksToReplay before.disk.size words → KeepsScript before now
      → Runs before now replay_script 0 items own → Course words before now Journals replay_script items [] own
  LacksRoom : AsksToReplay before.disk.size words → now ≡ before → Course words before now Clients nothing [] [] status.NoMemory
  NoScript : (own : Status) → AsksToRun before.disk.size words → LacksScript before.left now.left before.script_faults now.script_faults own
      → KeepsDisk before now → now.disk_faults ≡ before.disk_faults → Course words before now Clients nothing [] [] own
  RunsScript : (text : List ℕ) (s : ScriptValue) (items : List TraceItem) (own : Status) → (asks : AsksToRun before.disk.size words)
      → HasRead before.left now.left text → script_read text ≡ Script s → first_foreign s ≡ None → Runs before now s asks.run.time items own → Course words before now Clients s items [] own
