-- What the top call promises.
use Rattle.std.specs.Prelude.{ℕ, ◌≡◌, ◌≢◌, ◌≤◌, ◌⊎◌, true, ⊤, List, [], Some, None}
use Rattle.profile_limits.specs.Limits.{most_blocks}
use Rattle.fault_counts.specs.Causes.{Rose, WentUp}
use Rattle.script_lang.specs.Grammar.{script_read, Script}
use Rattle.script_lang.specs.Foreign.{first_foreign}
use Rattle.trace_text.specs.declared.item.TraceItem.{TraceItem}
use Rattle.script_lang.specs.Script.{ScriptValue}
use Rattle.run_reports.specs.Outputs.{Outputs}
use Rattle.run_reports.specs.Report.{Reports}
use Rattle.cluster_program.specs.World.{Inputs}
use Rattle.cluster_program.specs.Course.{Course, AsksToRun, AsksToReplay, AsksToShow, AsksToMake, plan_for}
use Rattle.cluster_program.specs.Dirty.{IsDirtyCount}
use Rattle.cluster_program.specs.Mounting.{IsMountable}
use Rattle.command_words.specs.declared.command.MakeWords.{MakeWords}
use Rattle.mkgfs2_tool.specs.Order.{fits}
use Rattle.run_reports.specs.declared.output.Listing.{Listing}
use Rattle.run_reports.specs.declared.status.Status.{Status}
use Rattle.run_reports.specs.declared.status.Status.TheVariants as status
use Rattle.run_reports.specs.declared.status.WhichSink.TheVariants as which

-- a fault is answered only where the count of what failed rose, from the first number to the second
abbrev pub FaultHasCause : Inputs → Inputs → Outputs → Outputs → Status → Type 0
FaultHasCause given left sinks sinks_now (status.DeviceFault node block x y) = WentUp (given.disk_faults node) (left.disk_faults node) x y
FaultHasCause given left sinks sinks_now (status.ScriptFault x y) = WentUp given.script_faults left.script_faults x y
FaultHasCause given left sinks sinks_now (status.SinkFault which.Trace x y) = WentUp sinks.trace_faults sinks_now.trace_faults x y
FaultHasCause given left sinks sinks_now (status.SinkFault which.Out x y) = WentUp sinks.output_faults sinks_now.output_faults x y
FaultHasCause given left sinks sinks_now _ = ⊤

-- what the words and the script do to what was given, as the items of one run, is told in the trace, the output and the status
pub record Ends (words : List (List ℕ)) (given left : Inputs) (sinks sinks_now : Outputs) (answer : Status) : Type 0 where
  pub listing : Listing
  pub script : ScriptValue
  pub items : List TraceItem
  pub lines : List ℕ
  pub own : Status
  pub course : Course words given left listing script items lines own
  pub dirty : ℕ
  pub report : Reports sinks sinks_now listing script items lines dirty own answer
  pub counted : own ≡ status.Done → items ≢ [] → IsDirtyCount given.disk left.disk script items dirty

-- ---- when a command is carried out whole

-- no count of faults rose
pub record NoneRose (given left : Inputs) (sinks sinks_now : Outputs) : Type 0 where
  pub disk : (node : ℕ) → Rose (given.disk_faults node) (left.disk_faults node) → ⊥
  pub script : Rose given.script_faults left.script_faults → ⊥
  pub trace : Rose sinks.trace_faults sinks_now.trace_faults → ⊥
  pub output : Rose sinks.output_faults sinks_now.output_faults → ⊥

-- the words are a run, the source tells its text, which is a script without a line that is not built, and the image can be mounted, whether its journals are
-- clean or not
pub record IsRunnable (words : List (List ℕ)) (given : Inputs) : Type 0 where
  pub run : AsksToRun given.disk.size words
  pub text : List ℕ
  pub tells : given.left ≡ Some text
  pub script : ScriptValue
  pub is_script : script_read text ≡ Script script
  pub built : first_foreign script ≡ None
  pub mountable : IsMountable given.disk

-- the words ask for an image to be shown, and it can be mounted, whether its journals are clean or not
pub record IsShowable (words : List (List ℕ)) (given : Inputs) : Type 0 where
  pub show : AsksToShow given.disk.size words
  pub mountable : IsMountable given.disk

-- the words ask for a replay, and the image can be mounted
pub record IsReplayable (words : List (List ℕ)) (given : Inputs) : Type 0 where
  pub replay : AsksToReplay given.disk.size words
  pub mountable : IsMountable given.disk

-- the words ask for an image that is built, and it fits the device, which is not too large
pub record IsMakeable (words : List (List ℕ)) (given : Inputs) : Type 0 where
  pub make : MakeWords
  pub asks : AsksToMake given.disk.size words make
  pub few : given.disk.count ≤ most_blocks
  pub room : fits (plan_for given.disk make) ≡ true

-- nothing but want of memory kept it from being done
abbrev pub IsWhole : Status → Type 0
IsWhole answer = (answer ≡ status.Done) ⊎ (answer ≡ status.NoMemory)

-- Then a run, a replay, a show and an image are done, but for want of memory.
pub record IsComplete (words : List (List ℕ)) (given left : Inputs) (sinks sinks_now : Outputs) (answer : Status) : Type 0 where
  pub run : NoneRose given left sinks sinks_now → IsRunnable words given → IsWhole answer
  pub replay : NoneRose given left sinks sinks_now → IsReplayable words given → IsWhole answer
  pub show : NoneRose given left sinks sinks_now → IsShowable words given → IsWhole answer
  pub make : NoneRose given left sinks sinks_now → IsMakeable words given → IsWhole answer
