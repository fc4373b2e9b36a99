-- What a command's end comes from.
use Rattle.std.proofs.Common.{◌≡◌, ℕ, Bool, true, false, List, sym, ◌∙◌, subst}
use Rattle.std.specs.Prelude.{Option, Some, None, Result, Ok, Err, if◌then◌else◌}
use Rattle.command_words.specs.Commands.{words_read}
use Rattle.command_words.specs.declared.command.Command.{Command}
use Rattle.command_words.specs.declared.command.Usage.{Usage}
use Rattle.command_words.specs.declared.command.MakeWords.{MakeWords}
use Rattle.image_mount.specs.Mounted.{MountedValue}
use Rattle.run_reports.specs.declared.status.Unbuilt.TheVariants as part
use Rattle.trace_text.specs.declared.item.TraceItem.{TraceItem}
use Rattle.script_lang.specs.Script.{ScriptValue}
use Rattle.run_reports.specs.declared.output.Listing.{Listing}
use Rattle.run_reports.specs.declared.status.Status.{Status}
use Rattle.run_reports.specs.declared.status.Status.TheVariants as status
use Rattle.run_reports.specs.declared.status.WhichSink.{WhichSink}
use Rattle.run_reports.specs.declared.status.WhichSink.TheVariants as which
use Rattle.run_reports.specs.Outputs.{Outputs}
use Rattle.cluster_program.specs.World.{Inputs}
use Rattle.cluster_program.specs.Course as course
use Rattle.cluster_program.specs.Course.{Course, RefusesWords, MakesImage, NoScript, Makes, IsTooLarge, IsTooSmall, LacksMemory, HasFailed, HasMade, RunsScript, LacksScript, SourceFailed, Refused, RefusedEarly, NotBuiltYet, NoRoom, Shows, HasShown, ShowsNone, TreeFailed, TreeDamaged, NothingHeld, ShowsImage, ReplaysImage, words_refusal, refusal_of, is_built}
use Rattle.cluster_program.specs.Mounting as mounting
use Rattle.cluster_program.specs.Mounting.{BeginEnds, IsMisplaced, MountEnds, DiskFails, IsStopped, LiesOutside, IsDamaged, LacksRoom, NotRead}
use Rattle.cluster_program.specs.Runs as runs
use Rattle.cluster_program.specs.Runs.{RunEnds, EndsEarly, IsDone, NotBegun, NotCounted, first_line}
use Rattle.cluster_program.specs.EndStatuses.{status_of_run}
use Rattle.kept_profiles.specs.Ends.{HasCause}
use Rattle.kept_profiles.specs.lone_runs_ends.RunEnd.{RunEnd}
use Rattle.kept_profiles.specs.lone_runs_ends.RunEnd.TheVariants as end
use Rattle.kept_profiles.specs.logged_scripts_ends.RunEnd.TheVariants as script_end
use Rattle.run_reports.specs.Report.{Becomes, IsSinkFault, Stays, WithoutMemory, Fails, Reports}
use Rattle.cluster_program.proofs.Mounts.{no_begin_fault}
use Rattle.cluster_program.specs.Command.{FaultHasCause}

-- a command that is told to be done is done
pub done_before : (w : WhichSink) (before now : ℕ) (own told : Status) → Becomes w before now own told → told ≡ status.Done → own ≡ status.Done
done_before w before now own told (Stays same) is = sym same ∙ is
done_before w before now own told (WithoutMemory without) is = let both : status.NoMemory ≡ status.Done = sym without ∙ is in cc
done_before w before now own told (Fails x y not_told fails up) is = let both : status.SinkFault w x y ≡ status.Done = sym fails ∙ is in cc

module _ (given left : Inputs) (sinks sinks_now : Outputs) where
  words_fault : (block_size : ℕ) (words : List (List ℕ)) (own : Status) → words_refusal block_size words ≡ Some own → FaultHasCause given left sinks sinks_now own
  words_fault block_size words own refused = by_read (words_read block_size words) own refused
    where
      by_read : (read : Result Command Usage) (own : Status) → refusal_of read ≡ Some own → FaultHasCause given left sinks sinks_now own
      by_read (Err usage) own is = let same : status.Usage usage.word ≡ own = cc in subst (FaultHasCause given left sinks sinks_now) same tt
      by_read (Ok c) own is = by_test (is_built c) own is
        where
          by_test : (b : Bool) (own : Status) → (if b then None else Some (status.NotBuilt part.Words)) ≡ Some own → FaultHasCause given left sinks sinks_now own
          by_test true own is = cc
          by_test false own is = let same : status.NotBuilt part.Words ≡ own = cc in subst (FaultHasCause given left sinks sinks_now) same tt

  script_fault : (own : Status) → LacksScript given.left left.left given.script_faults left.script_faults own → FaultHasCause given left sinks sinks_now own
  script_fault own (SourceFailed x y up) = up
  script_fault own (Refused text line column read is) = tt
  script_fault own (RefusedEarly front line column consumed is) = tt
  script_fault own (NotBuiltYet text s line read is foreign) = tt
  script_fault own NoRoom = tt

  mount_fault : (own : Status) → MountEnds given.disk given.disk_faults left.disk_faults own → FaultHasCause given left sinks sinks_now own
  mount_fault own (DiskFails block x y up inside reached) = up
  mount_fault own (LiesOutside what value outside shown never) = tt
  mount_fault own (IsDamaged block rule breaks shown never) = tt
  mount_fault own LacksRoom = tt

  begin_fault : (own : Status) → BeginEnds given.disk given.disk_faults left.disk_faults own → FaultHasCause given left sinks sinks_now own
  begin_fault own (mounting.NotMounted own' ends) = mount_fault own ends
  begin_fault own (NotRead block x y mounted up within) = up
  begin_fault own (IsStopped block rule why never) = tt
  begin_fault own (IsMisplaced dinode untold) = tt

  show_fault : (lines : List ℕ) (own : Status) → Shows given.disk given.disk_faults left.disk_faults lines own → FaultHasCause given left sinks sinks_now own
  show_fault lines own (HasShown m tree lines' mounted can is are) = tt
  show_fault lines own (ShowsNone own' ends) = mount_fault own ends
  show_fault lines own (TreeFailed block x y clean up within) = up
  show_fault lines own (TreeDamaged block rule why never) = tt
  show_fault lines own NothingHeld = tt

  end_fault : (s : ScriptValue) (e : RunEnd) (blocks : List ℕ) → HasCause given.disk.count blocks given.disk_faults left.disk_faults e → FaultHasCause given left sinks sinks_now (status_of_run (first_line s) e)
  end_fault s (end.Misplaced dinode) blocks cause = tt
  end_fault s (end.ReplayFailed block rise) blocks cause = cause.0
  end_fault s (end.Script (script_end.ReadFailed block rise)) blocks cause = cause.0
  end_fault s (end.Script (script_end.WriteFailed block rise)) blocks cause = cause.0
  end_fault s (end.Script (script_end.NotFenced rise)) blocks cause = cause
  end_fault s (end.Script (script_end.HeadUnread block rise)) blocks cause = cause.0
  end_fault s (end.Script (script_end.Damaged block rule)) blocks cause = tt
  end_fault s (end.Script (script_end.NotBuilt line)) blocks cause = tt
  end_fault s (end.Script (script_end.LogTooSmall line)) blocks cause = tt
  end_fault s (end.Script (script_end.NotLoggable line)) blocks cause = tt
  end_fault s (end.Script script_end.NoMemory) blocks cause = tt

  run_fault : (s : ScriptValue) (time : ℕ) (items : List TraceItem) (what : Option MountedValue) (own : Status) → RunEnds given left s time items what own → FaultHasCause given left sinks sinks_now own
  run_fault s time items what own (IsDone m gone whole answered placed) = tt
  run_fault s time items what own (NotCounted m journal block x y gone stopped has within up) = up
  run_fault s time items what own (NotBegun own' none same ends) = begin_fault own ends
  run_fault s time items what own (EndsEarly m e gone cause sound damaged) = end_fault s e gone.own.blocks cause
  run_fault s time items what own (runs.LacksRoom m gone stopped) = tt

  make_fault : (make : MakeWords) (own : Status) → Makes make given left own → FaultHasCause given left sinks sinks_now own
  make_fault make own (IsTooLarge many same) = tt
  make_fault make own (IsTooSmall needed few lacks least same) = tt
  make_fault make own (LacksMemory few room same) = tt
  make_fault make own (HasFailed block x y few room up within begun same) = up
  make_fault make own (HasMade few room made may same) = tt

  course_fault : (words : List (List ℕ)) (listing : Listing) (s : ScriptValue) (items : List TraceItem) (lines : List ℕ) (own : Status) → Course words given left listing s items lines own → FaultHasCause given left sinks sinks_now own
  course_fault words listing s items lines own (RefusesWords told refused untouched) = words_fault given.disk.size words own refused
  course_fault words listing s items lines own (MakesImage make own' asks makes) = make_fault make own makes
  course_fault words listing s items lines own (ShowsImage lines' own' asks script disk shows) = show_fault lines own shows
  course_fault words listing s items lines own (ReplaysImage items' own' asks script ran) = run_fault s 0 items ran.value own ran.ends
  course_fault words listing s items lines own (course.LacksRoom asks same) = tt
  course_fault words listing s items lines own (NoScript told asks lacks untouched same) = script_fault own lacks
  course_fault words listing s items lines own (RunsScript text s' items' own' asks read script built ran) = run_fault s asks.run.time items ran.value own ran.ends

  trace_fault : (own told : Status) → Becomes which.Trace sinks.trace_faults sinks_now.trace_faults own told → FaultHasCause given left sinks sinks_now own → FaultHasCause given left sinks sinks_now told
  trace_fault own told (Stays same) cause = subst (FaultHasCause given left sinks sinks_now) (sym same) cause
  trace_fault own told (WithoutMemory without) cause = subst (FaultHasCause given left sinks sinks_now) (sym without) tt
  trace_fault own told (Fails x y not_told fails up) cause = subst (FaultHasCause given left sinks sinks_now) (sym fails) up

  output_fault : (told answer : Status) → Becomes which.Out sinks.output_faults sinks_now.output_faults told answer → FaultHasCause given left sinks sinks_now told → FaultHasCause given left sinks sinks_now answer
  output_fault told answer (Stays same) cause = subst (FaultHasCause given left sinks sinks_now) (sym same) cause
  output_fault told answer (WithoutMemory without) cause = subst (FaultHasCause given left sinks sinks_now) (sym without) tt
  output_fault told answer (Fails x y not_told fails up) cause = subst (FaultHasCause given left sinks sinks_now) (sym fails) up

  pub fault_has_cause : (words : List (List ℕ)) (listing : Listing) (s : ScriptValue) (items : List TraceItem) (lines : List ℕ) (dirty : ℕ) (own answer : Status) → Course words given left listing s items lines own
      → Reports sinks sinks_now listing s items lines dirty own answer → FaultHasCause given left sinks sinks_now answer
  fault_has_cause words listing s items lines dirty own answer course report =
      output_fault report.told answer report.answer_is (trace_fault own report.told report.told_is (course_fault words listing s items lines own course))

-- ---- a run doesn't tell a fault of a sink

pub no_run_fault : (given left : Inputs) (s : ScriptValue) (time : ℕ) (items : List TraceItem) (what : Option MountedValue) (own : Status) → RunEnds given left s time items what own → IsSinkFault own → ⊥
no_run_fault given left s time items what own (IsDone m gone whole answered placed) never = never
no_run_fault given left s time items what own (NotCounted m journal block x y gone stopped has within up) never = never
no_run_fault given left s time items what own (NotBegun own' none same ends) never = no_begin_fault given.disk given.disk_faults left.disk_faults own ends never
no_run_fault given left s time items what own (EndsEarly m e gone cause sound damaged) never = of_end e never
  where
    of_end : (x : RunEnd) → IsSinkFault (status_of_run (first_line s) x) → ⊥
    of_end (end.Misplaced dinode) never = never
    of_end (end.ReplayFailed block rise) never = never
    of_end (end.Script (script_end.ReadFailed block rise)) never = never
    of_end (end.Script (script_end.WriteFailed block rise)) never = never
    of_end (end.Script (script_end.NotFenced rise)) never = never
    of_end (end.Script (script_end.HeadUnread block rise)) never = never
    of_end (end.Script (script_end.Damaged block rule)) never = never
    of_end (end.Script (script_end.NotBuilt line)) never = never
    of_end (end.Script (script_end.LogTooSmall line)) never = never
    of_end (end.Script (script_end.NotLoggable line)) never = never
    of_end (end.Script script_end.NoMemory) never = never
no_run_fault given left s time items what own (runs.LacksRoom m gone stopped) never = never
