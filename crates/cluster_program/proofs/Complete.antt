-- A command that may be carried out is, but for want of memory.
use Rattle.std.proofs.Common.{◌≡◌, inl, inr, ℕ, ◌≤◌, true, false, List, ◌++◌, refl, sym, ap, ◌∙◌, subst, arith, append-nil}
use Rattle.profile_limits.specs.Limits.{most_blocks}
use Rattle.std.specs.Prelude.{Option, Some, None, Ok}
use Rattle.std.specs.Io.KnownBytes.{Consumes, IsAtEnd}
use Rattle.fault_counts.specs.Causes.{Rose, WentUp}
use Rattle.trace_text.specs.declared.item.TraceItem.{TraceItem}
use Rattle.script_lang.specs.Script.{ScriptValue}
use Rattle.script_lang.specs.Grammar.{script_read, Script, Bad}
use Rattle.script_lang.specs.Foreign.{first_foreign}
use Rattle.image_mount.specs.Mounted.{MountedValue}
use Rattle.run_reports.specs.declared.output.Listing.{Listing}
use Rattle.run_reports.specs.declared.status.Status.{Status}
use Rattle.run_reports.specs.declared.status.Status.TheVariants as status
use Rattle.run_reports.specs.declared.status.WhichSink.{WhichSink}
use Rattle.run_reports.specs.Outputs.{Outputs}
use Rattle.cluster_program.specs.World.{Inputs}
use Rattle.cluster_program.specs.Course as course
use Rattle.cluster_program.specs.Course.{Course, RefusesWords, MakesImage, NoScript, Makes, IsTooLarge, IsTooSmall, LacksMemory, HasFailed, HasMade, plan_for, RunsScript, LacksScript, SourceFailed, Refused, RefusedEarly, NotBuiltYet, NoRoom, Shows, HasShown, ShowsNone, TreeFailed, TreeDamaged, NothingHeld, ShowsImage, ReplaysImage}
use Rattle.cluster_program.specs.Mounting as mounting
use Rattle.cluster_program.specs.Mounting.{BeginEnds, IsMisplaced, IsMountable, MountEnds, DiskFails, IsStopped, LiesOutside, IsDamaged, LacksRoom, NotRead}
use Rattle.cluster_program.specs.Runs as runs
use Rattle.cluster_program.specs.Runs.{RunEnds, EndsEarly, IsDone, NotBegun, NotCounted, first_line}
use Rattle.cluster_program.specs.EndStatuses.{status_of_run}
use Rattle.kept_profiles.specs.Ends.{HasCause}
use Rattle.kept_profiles.specs.Laws.{IsOfImageThatStands}
use Rattle.kept_profiles.specs.lone_runs_ends.RunEnd.{RunEnd}
use Rattle.kept_profiles.specs.lone_runs_ends.RunEnd.TheVariants as end
use Rattle.kept_profiles.specs.logged_scripts_ends.RunEnd.TheVariants as script_end
use Rattle.run_reports.specs.Report.{Becomes, Stays, WithoutMemory, Fails, Reports}
use Rattle.cluster_program.specs.Command.{NoneRose, IsRunnable, IsReplayable, IsShowable, IsMakeable, IsWhole, IsComplete}
use Rattle.mkgfs2_tool.specs.Order.{fits}
use Rattle.command_words.specs.Commands.{words_read}
use Rattle.command_words.specs.declared.command.Command.TheVariants as command
use Rattle.command_words.specs.declared.command.MakeWords.{MakeWords}
use Rattle.command_words.specs.declared.command.RunWords.{RunWords}

rose : (before now x y : ℕ) → WentUp before now x y → Rose before now
rose before now x y up = grind (arith, up.from, up.rose, up.to)

-- ---- a text that its source tells

is_text : (left now : Option (List ℕ)) (text read : List ℕ) → left ≡ Some text → Consumes left now read → IsAtEnd now → text ≡ read
is_text None now text read told consumed whole = cc
is_text (Some all) None text read told consumed whole = absurd consumed
is_text (Some all) (Some rest) text read told consumed whole =
    let same : all ≡ text = cc in sym same ∙ consumed ∙ ap (λ (l : List ℕ). read ++ l) whole ∙ append-nil read

is_front : (left now : Option (List ℕ)) (text front : List ℕ) → left ≡ Some text → Consumes left now front → (rest : List ℕ) × (text ≡ front ++ rest)
is_front None now text front told consumed = let both : None ≡ Some text = told in cc
is_front (Some all) None text front told consumed = absurd consumed
is_front (Some all) (Some rest) text front told consumed = let same : all ≡ text = cc in (rest, sym same ∙ consumed)

not_bad : (text : List ℕ) (s : ScriptValue) (line column : ℕ) → script_read text ≡ Script s → script_read text ≡ Bad line column → ⊥
not_bad text s line column is bad = let both : Script s ≡ Bad line column = sym is ∙ bad in cc

one_script : (text : List ℕ) (s t : ScriptValue) → script_read text ≡ Script s → script_read text ≡ Script t → s ≡ t
one_script text s t first second = let both : Script s ≡ Script t = sym first ∙ second in cc

module _ (words : List (List ℕ)) (given left : Inputs) (sinks sinks_now : Outputs) (none : NoneRose given left sinks sinks_now) where
  of_script : IsRunnable words given → (own : Status) → LacksScript given.left left.left given.script_faults left.script_faults own → IsWhole own
  of_script may own (SourceFailed x y up) = absurd (none.script (rose given.script_faults left.script_faults x y up))
  of_script may own (Refused text line column read bad) =
      let same = is_text given.left left.left may.text text may.tells read.consumed read.whole in
      absurd (not_bad may.text may.script line column may.is_script (ap script_read same ∙ bad))
  of_script may own (RefusedEarly front line column consumed bad) =
      let (rest, split) = is_front given.left left.left may.text front may.tells consumed in
      absurd (not_bad may.text may.script line column may.is_script (ap script_read split ∙ bad rest))
  of_script may own (NotBuiltYet text s line read is foreign) =
      let same = is_text given.left left.left may.text text may.tells read.consumed read.whole in
      let one = one_script may.text may.script s may.is_script (ap script_read same ∙ is) in
      let both : None ≡ Some line = sym may.built ∙ ap first_foreign one ∙ foreign in cc
  of_script may own NoRoom = inr refl

  of_mount : IsMountable given.disk → (own : Status) → MountEnds given.disk given.disk_faults left.disk_faults own → IsWhole own
  of_mount may own (DiskFails block x y up inside reached) = absurd (none.disk 0 (rose (given.disk_faults 0) (left.disk_faults 0) x y up))
  of_mount may own (LiesOutside what value outside shown never) = absurd (never may.is.tells may.profile)
  of_mount may own (IsDamaged block rule breaks shown never) = absurd (never may.is.tells may.tree may.is.stands)
  of_mount may own LacksRoom = inr refl

  of_show : IsMountable given.disk → (lines : List ℕ) (own : Status) → Shows given.disk given.disk_faults left.disk_faults lines own → IsWhole own
  of_show may lines own (HasShown m tree lines' mounted can is are) = inl refl
  of_show may lines own (ShowsNone own' ends) = of_mount may own ends
  of_show may lines own (TreeFailed block x y clean up within) = absurd (none.disk 0 (rose (given.disk_faults 0) (left.disk_faults 0) x y up))
  of_show may lines own (TreeDamaged block rule why never) = absurd (never may.is.tells may.tree may.is.stands)
  of_show may lines own NothingHeld = inr refl

  of_begin : IsMountable given.disk → (own : Status) → BeginEnds given.disk given.disk_faults left.disk_faults own → IsWhole own
  of_begin may own (mounting.NotMounted own' ends) = of_mount may own ends
  of_begin may own (NotRead block x y mounted up within) = absurd (none.disk 0 (rose (given.disk_faults 0) (left.disk_faults 0) x y up))
  of_begin may own (IsStopped block rule why never) = absurd (never may.is.tells may.tree may.is.stands)
  of_begin may own (IsMisplaced dinode untold) = absurd (untold may.is.tells)

  -- an end of a run that a standing image may have is want of memory, or a disk that failed
  of_end : (s : ScriptValue) (e : RunEnd) → IsOfImageThatStands e → (blocks : List ℕ) → HasCause given.disk.count blocks given.disk_faults left.disk_faults e → IsWhole (status_of_run (first_line s) e)
  of_end s (end.Misplaced dinode) sound blocks cause = absurd sound
  of_end s (end.ReplayFailed block rise) sound blocks cause = absurd (none.disk 1 (rose (given.disk_faults 1) (left.disk_faults 1) rise.before rise.after cause.0))
  of_end s (end.Script (script_end.ReadFailed block rise)) sound blocks cause = absurd (none.disk 1 (rose (given.disk_faults 1) (left.disk_faults 1) rise.before rise.after cause.0))
  of_end s (end.Script (script_end.WriteFailed block rise)) sound blocks cause = absurd (none.disk 1 (rose (given.disk_faults 1) (left.disk_faults 1) rise.before rise.after cause.0))
  of_end s (end.Script (script_end.NotFenced rise)) sound blocks cause = absurd (none.disk 0 (rose (given.disk_faults 0) (left.disk_faults 0) rise.before rise.after cause))
  of_end s (end.Script (script_end.HeadUnread block rise)) sound blocks cause = absurd (none.disk 0 (rose (given.disk_faults 0) (left.disk_faults 0) rise.before rise.after cause.0))
  of_end s (end.Script (script_end.Damaged block rule)) sound blocks cause = absurd sound
  of_end s (end.Script (script_end.NotBuilt line)) sound blocks cause = absurd sound
  of_end s (end.Script (script_end.LogTooSmall line)) sound blocks cause = absurd sound
  of_end s (end.Script (script_end.NotLoggable line)) sound blocks cause = absurd sound
  of_end s (end.Script script_end.NoMemory) sound blocks cause = inr refl

  of_run : IsMountable given.disk → (s : ScriptValue) (time : ℕ) (items : List TraceItem) (what : Option MountedValue) (own : Status) → RunEnds given left s time items what own → IsWhole own
  of_run may s time items what own (IsDone m gone whole answered placed) = inl refl
  of_run may s time items what own (NotCounted m journal block x y gone stopped has within up) = absurd (none.disk 0 (rose (given.disk_faults 0) (left.disk_faults 0) x y up))
  of_run may s time items what own (NotBegun own' none_yet same ends) = of_begin may own ends
  of_run may s time items what own (EndsEarly m e gone cause sound damaged) = of_end s e (sound may.tree may.is) gone.own.blocks cause
  of_run may s time items what own (runs.LacksRoom m gone stopped) = inr refl

  -- an image that fits its device
  of_make : (make : MakeWords) → given.disk.count ≤ most_blocks → fits (plan_for given.disk make) ≡ true → (own : Status) → Makes make given left own → IsWhole own
  of_make make few room own (IsTooLarge many same) = let never : ⊥ = omega (arith, few, many) in absurd never
  of_make make few room own (IsTooSmall needed few' lacks least same) = let both : true ≡ false = sym room ∙ lacks in cc
  of_make make few room own (LacksMemory few' room' same) = inr refl
  of_make make few room own (HasFailed block x y few' room' up within begun same) = absurd (none.disk 0 (rose (given.disk_faults 0) (left.disk_faults 0) x y up))
  of_make make few room own (HasMade few' room' made may same) = inl refl

  -- two commands are not the same words
  not_make_run : (make : MakeWords) (run : RunWords) → words_read given.disk.size words ≡ Ok (command.Make make) → words_read given.disk.size words ≡ Ok (command.Run run) → ⊥
  not_make_run make run first second = let both : Ok (command.Make make) ≡ Ok (command.Run run) = sym first ∙ second in cc

  not_make_show : (make : MakeWords) → words_read given.disk.size words ≡ Ok (command.Make make) → words_read given.disk.size words ≡ Ok command.Show → ⊥
  not_make_show make first second = let both : Ok (command.Make make) ≡ Ok command.Show = sym first ∙ second in cc

  not_run_show : (run : RunWords) → words_read given.disk.size words ≡ Ok (command.Run run) → words_read given.disk.size words ≡ Ok command.Show → ⊥
  not_run_show run first second = let both : Ok (command.Run run) ≡ Ok command.Show = sym first ∙ second in cc

  not_make_replay : (make : MakeWords) → words_read given.disk.size words ≡ Ok (command.Make make) → words_read given.disk.size words ≡ Ok command.Replay → ⊥
  not_make_replay make first second = let both : Ok (command.Make make) ≡ Ok command.Replay = sym first ∙ second in cc

  not_run_replay : (run : RunWords) → words_read given.disk.size words ≡ Ok (command.Run run) → words_read given.disk.size words ≡ Ok command.Replay → ⊥
  not_run_replay run first second = let both : Ok (command.Run run) ≡ Ok command.Replay = sym first ∙ second in cc

  not_show_replay : words_read given.disk.size words ≡ Ok command.Show → words_read given.disk.size words ≡ Ok command.Replay → ⊥
  not_show_replay first second = let both : Ok command.Show ≡ Ok command.Replay = sym first ∙ second in cc

  one_make : (make other : MakeWords) → words_read given.disk.size words ≡ Ok (command.Make make) → words_read given.disk.size words ≡ Ok (command.Make other) → make ≡ other
  one_make make other first second = let both : Ok (command.Make make) ≡ Ok (command.Make other) = sym first ∙ second in cc

  of_running : IsRunnable words given → (listing : Listing) (s : ScriptValue) (items : List TraceItem) (lines : List ℕ) (own : Status) → Course words given left listing s items lines own → IsWhole own
  of_running may listing s items lines own (RefusesWords told refused untouched) = let both : None ≡ Some own = sym may.run.built ∙ refused in cc
  of_running may listing s items lines own (MakesImage make own' asks makes) = absurd (not_make_run make may.run.run asks.read may.run.read)
  of_running may listing s items lines own (ShowsImage lines' own' asks script disk shows) = absurd (not_run_show may.run.run may.run.read asks.read)
  of_running may listing s items lines own (ReplaysImage items' own' asks script ran) = absurd (not_run_replay may.run.run may.run.read asks.read)
  of_running may listing s items lines own (course.LacksRoom asks same) = inr refl
  of_running may listing s items lines own (NoScript told asks lacks untouched same) = of_script may own lacks
  of_running may listing s items lines own (RunsScript text s' items' own' asks read script built ran) = of_run may.mountable s asks.run.time items ran.value own ran.ends

  of_showing : IsShowable words given → (listing : Listing) (s : ScriptValue) (items : List TraceItem) (lines : List ℕ) (own : Status) → Course words given left listing s items lines own → IsWhole own
  of_showing may listing s items lines own (RefusesWords told refused untouched) = let both : None ≡ Some own = sym may.show.built ∙ refused in cc
  of_showing may listing s items lines own (MakesImage make own' asks makes) = absurd (not_make_show make asks.read may.show.read)
  of_showing may listing s items lines own (ShowsImage lines' own' asks script disk shows) = of_show may.mountable lines own shows
  of_showing may listing s items lines own (ReplaysImage items' own' asks script ran) = absurd (not_show_replay may.show.read asks.read)
  of_showing may listing s items lines own (course.LacksRoom asks same) = inr refl
  of_showing may listing s items lines own (NoScript told asks lacks untouched same) = absurd (not_run_show asks.run asks.read may.show.read)
  of_showing may listing s items lines own (RunsScript text s' items' own' asks read script built ran) = absurd (not_run_show asks.run asks.read may.show.read)

  of_replaying : IsReplayable words given → (listing : Listing) (s : ScriptValue) (items : List TraceItem) (lines : List ℕ) (own : Status) → Course words given left listing s items lines own → IsWhole own
  of_replaying may listing s items lines own (RefusesWords told refused untouched) = let both : None ≡ Some own = sym may.replay.built ∙ refused in cc
  of_replaying may listing s items lines own (MakesImage make own' asks makes) = absurd (not_make_replay make asks.read may.replay.read)
  of_replaying may listing s items lines own (ShowsImage lines' own' asks script disk shows) = absurd (not_show_replay asks.read may.replay.read)
  of_replaying may listing s items lines own (ReplaysImage items' own' asks script ran) = of_run may.mountable s 0 items ran.value own ran.ends
  of_replaying may listing s items lines own (course.LacksRoom asks same) = inr refl
  of_replaying may listing s items lines own (NoScript told asks lacks untouched same) = absurd (not_run_replay asks.run asks.read may.replay.read)
  of_replaying may listing s items lines own (RunsScript text s' items' own' asks read script built ran) = absurd (not_run_replay asks.run asks.read may.replay.read)

  of_making : IsMakeable words given → (listing : Listing) (s : ScriptValue) (items : List TraceItem) (lines : List ℕ) (own : Status) → Course words given left listing s items lines own → IsWhole own
  of_making may listing s items lines own (RefusesWords told refused untouched) = let both : None ≡ Some own = sym may.asks.built ∙ refused in cc
  of_making may listing s items lines own (MakesImage make own' asks makes) =
      of_make make may.few (subst (λ m. fits (plan_for given.disk m) ≡ true) (one_make may.make make may.asks.read asks.read) may.room) own makes
  of_making may listing s items lines own (ShowsImage lines' own' asks script disk shows) = absurd (not_make_show may.make may.asks.read asks.read)
  of_making may listing s items lines own (ReplaysImage items' own' asks script ran) = absurd (not_make_replay may.make may.asks.read asks.read)
  of_making may listing s items lines own (course.LacksRoom asks same) = inr refl
  of_making may listing s items lines own (NoScript told asks lacks untouched same) = absurd (not_make_run may.make asks.run may.asks.read asks.read)
  of_making may listing s items lines own (RunsScript text s' items' own' asks read script built ran) = absurd (not_make_run may.make asks.run may.asks.read asks.read)

  -- what holds of each end that sinks without a fault leave, and of want of memory
  of_sink : (W : Status → Type 0) → W status.NoMemory → (which : WhichSink) (before now : ℕ) (old new : Status) → (Rose before now → ⊥) → Becomes which before now old new → W old → W new
  of_sink W bare which before now old new still (Stays same) whole = subst W (sym same) whole
  of_sink W bare which before now old new still (WithoutMemory without) whole = subst W (sym without) bare
  of_sink W bare which before now old new still (Fails x y not_told fails up) whole = absurd (still (rose before now x y up))

  at_end : (W : Status → Type 0) → W status.NoMemory → (listing : Listing) (s : ScriptValue) (items : List TraceItem) (lines : List ℕ) (dirty : ℕ) (own answer : Status) → Reports sinks sinks_now listing s items lines dirty own answer → W own → W answer
  at_end W bare listing s items lines dirty own answer report whole =
      of_sink W bare _ _ _ report.told answer none.output report.answer_is (of_sink W bare _ _ _ own report.told none.trace report.told_is whole)

pub complete : (given left : Inputs) (sinks sinks_now : Outputs) (words : List (List ℕ)) (listing : Listing) (s : ScriptValue) (items : List TraceItem) (lines : List ℕ) (dirty : ℕ) (own answer : Status) → Course words given left listing s items lines own
    → Reports sinks sinks_now listing s items lines dirty own answer → IsComplete words given left sinks sinks_now answer
complete given left sinks sinks_now words listing s items lines dirty own answer course report = record {
  run = λ none may. at_end words given left sinks sinks_now none IsWhole (inr refl) listing s items lines dirty own answer report (of_running words given left sinks sinks_now none may listing s items lines own course);
  replay = λ none may. at_end words given left sinks sinks_now none IsWhole (inr refl) listing s items lines dirty own answer report (of_replaying words given left sinks sinks_now none may listing s items lines own course);
  show = λ none may. at_end words given left sinks sinks_now none IsWhole (inr refl) listing s items lines dirty own answer report (of_showing words given left sinks sinks_now none may listing s items lines own course);
  make = λ none may. at_end words given left sinks sinks_now none IsWhole (inr refl) listing s items lines dirty own answer report (of_making words given left sinks sinks_now none may listing s items lines own course);
}
