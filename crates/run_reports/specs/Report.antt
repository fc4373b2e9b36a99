-- What is put into the two sinks, and how their faults are told.
use Rattle.std.specs.Prelude.{ℕ, ◌≡◌, ◌⊎◌, ⊤, List, [], ◌++◌, if◌then◌else◌, Option}
use Rattle.std.specs.Io.KnownBytes.{Appends}
use Rattle.fault_counts.specs.Causes.{Rose, WentUp}
use Rattle.stream_io.specs.Streams.{AppendsPrefix}
use Rattle.run_reports.specs.declared.status.Status.{Status}
use Rattle.run_reports.specs.declared.status.Status.TheVariants as status
use Rattle.trace_text.specs.declared.item.TraceItem.{TraceItem}
use Rattle.trace_text.specs.Text.{print}
use Rattle.script_lang.specs.Script.{ScriptValue}
use Rattle.run_reports.specs.Outputs.{Outputs}
use Rattle.run_reports.specs.Out.{is_done, out_of}
use Rattle.run_reports.specs.Dirty.{dirty_told}
use Rattle.run_reports.specs.declared.output.Listing.{Listing}
use Rattle.run_reports.specs.declared.status.WhichSink.{WhichSink}
use Rattle.run_reports.specs.declared.status.WhichSink.TheVariants as which

abbrev pub IsSinkFault : Status → Type 0
IsSinkFault (status.SinkFault which x y) = ⊤
IsSinkFault _ = ⊥

-- that not all was put is told: there was no memory, or a sink failed, and this one did
abbrev pub IsExcused : ℕ → ℕ → Status → Type 0
IsExcused before now told = (told ≡ status.NoMemory) ⊎ (IsSinkFault told × Rose before now)

-- all of these bytes were put, or a front of them where that is told
pub record Puts (before now : Option (List ℕ)) (bytes : List ℕ) (Excuse : Type 0) : Type 0 where
  pub front : AppendsPrefix before now bytes
  pub all : Excuse ⊎ Appends before now bytes

-- what a status becomes once a sink, whose count of faults went from `before` to `now`, was written to; a fault that
-- is told already stays
pub data Becomes (which : WhichSink) (before now : ℕ) (old new : Status) : Type 0 where
  Stays : new ≡ old → Becomes which before now old new
  WithoutMemory : new ≡ status.NoMemory → Becomes which before now old new
  Fails : (x y : ℕ) → (IsSinkFault old → ⊥) → new ≡ status.SinkFault which x y → WentUp before now x y → Becomes which before now old new

-- what is printed before the rest: the lines that are shown, where all was done
abbrev pub shown : Status → List ℕ → List ℕ
shown told lines = if is_done told then lines else []

-- With the count of journals that the image has that aren't clean: the trace gets the text of the items. Then the output, also where the trace failed, gets the lines
-- that are shown, and what the items and the status give. A fault of theirs is told in the status, that of the trace before that of the output.
pub record Reports (before now : Outputs) (listing : Listing) (s : ScriptValue) (items : List TraceItem) (lines : List ℕ) (dirty : ℕ) (own answer : Status) : Type 0 where
  pub told : Status
  pub trace : Puts before.trace now.trace (print items) (IsExcused before.trace_faults now.trace_faults told)
  pub told_is : Becomes which.Trace before.trace_faults now.trace_faults own told
  pub output : Puts before.output now.output (shown told lines ++ out_of listing s items told (dirty_told s items told dirty)) (IsExcused before.output_faults now.output_faults answer)
  pub answer_is : Becomes which.Out before.output_faults now.output_faults told answer
