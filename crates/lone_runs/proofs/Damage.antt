-- On an image that stands for a tree no run ends for a damage, or for what isn't built.
use Rattle.std.proofs.Common.{◌≡◌, ◌==◌, ℕ, zero, suc, ◌+◌, ◌%◌, ◌^◌, ◌<◌, ◌≤◌, List, [], ◌∷◌, length, get_or, Bool, true, false, Option, None, Some, if◌then◌else◌, refl, sym, ap, subst, ◌∙◌, arith}
use Rattle.std.proofs.Math.Nat.{mod-le}
use Rattle.std.specs.Prelude.{IfSome, Result, Ok, Err, slice_get}
use Rattle.std.specs.List.{AllByRecursion}
use Rattle.gfs2_layout.specs.Device.{IsBlockSize}
use Rattle.image_replays.specs.Replays.{ArePlans}
use Rattle.disk_turns.specs.Turns.{Moment}
use Rattle.file_tree.specs.Tree.{Tree}
use Rattle.file_tree.specs.declared.call.Call.{Call}
use Rattle.gfs2_layout.specs.Bytes.{u32_at}
use Rattle.image_machine.specs.Volumes.{Volume, volume_of}
use Rattle.image_model.specs.Image.{image_of}
use Rattle.image_model.specs.Profile.{group_length}
use Rattle.image_mount.specs.Mounted.{IsMounted, Journal, MountedValue}
use Rattle.image_recovery.specs.Recoveries.{CanReplayAll, HaveReplayed}
use Rattle.image_recovery.specs.Ended.{head_left}
use Rattle.image_recovery.proofs.Recovered.{can_at}
use Rattle.image_recovery.proofs.Mapped.{theirs}
use Rattle.image_model.specs.Stands.{IsJournalAt}
use Rattle.journal_plans.specs.Plans.{IsPlanOf}
use Rattle.journal_reads.specs.Reading.{ring_read}
use Rattle.journal_replays.specs.Headers.{clean_block, filled}
use Rattle.journal_outcomes.specs.Images.{ring_at}
use Rattle.log_layout.specs.Headers.{as_read}
use Rattle.log_layout.specs.Journal.{head_in}
use Rattle.log_layout.specs.Laws.{PlacesSayAll}
use Rattle.log_layout.specs.declared.log_header.LogHeader.{LogHeader}
use Rattle.log_layout.proofs.BestHeaders.{head_there}
use Rattle.logged_scripts.specs.States.{IsHeaded}
use Rattle.log_values.specs.Log.{LogValue}
use Rattle.log_values.specs.Log.{Journal as OwnJournal}
use Rattle.logged_scripts.specs.Working.{NodesWorkOnAnImage}
use Rattle.logged_scripts.specs.LoggedCallsEnds.{IsTooSmallFor, IsUnloggableFor}
use Rattle.logged_scripts.specs.Laws.{CallsAreLoggable, CallsHaveRoom}
use Rattle.logged_scripts.specs.LoggedRunsLaws.{RunsBeginSo}
use Rattle.logged_scripts.specs.Points.{Point}
use Rattle.logged_scripts.specs.Starts.{BeginsAt}
use Rattle.logged_scripts.specs.StepLaws.{HeadsAreTold, IsLoggedAt, StepsKeep}
use Rattle.logged_scripts.specs.Steps.{Steps}
use Rattle.logged_scripts.specs.Ends.{IsEndAt, WorkedOnNone, end_of}
use Rattle.logged_scripts.specs.Runs.{GoesTo, HasRun}
use Rattle.logged_scripts.specs.declared.ends.RunEnd.{RunEnd as ScriptEnd}
use Rattle.logged_scripts.specs.declared.ends.RunEnd.TheVariants as script
use Rattle.lone_fences.specs.declared.ends.FenceEnd.{FenceEnd}
use Rattle.lone_fences.specs.declared.ends.FenceEnd.TheVariants as fence
use Rattle.lone_images.specs.Lone.{begun_on}
use Rattle.mounted_views.specs.Laws.{MountedJournalsArePlaced}
use Rattle.mounted_views.specs.Views.{journal_of, view_of}
use Rattle.mounted_views.proofs.Journals.{its, its_ring}
use Rattle.peer_replay.specs.Plans.{clean_after, clean_header}
use Rattle.peer_replay.specs.declared.planned.Plan.{Plan}
use Rattle.profile_limits.specs.Limits.{least_frames, most_frames, most_group_blocks}
use Rattle.script_lang.specs.Script.{ScriptValue}
use Rattle.script_lang.specs.declared.script.Line.{Line}
use Rattle.script_lang.specs.declared.script.Line.TheVariants as line
use Rattle.shared_disk.specs.Disk.{DiskState, IsIdle, IsSound}
use Rattle.logged_scripts.specs.Sizes.{IsOfScript}
use Rattle.trace_text.specs.declared.item.TraceItem.{TraceItem}
use Rattle.logged_scripts.specs.Resting.{ReplayedIsAtRest, RestsAsMounted}
use Rattle.logged_scripts.specs.WholeRunsStarts.{IsStart, joined}
use Rattle.logged_scripts.specs.Wholes.{IsRun}
use Rattle.logged_scripts.proofs.Running.{run_begins}
use Rattle.lone_runs.specs.Beginning.{IsOwn, MayHave, its_head, start_point}
use Rattle.lone_runs.specs.Laws.{IsLineOfScript, IsOfImageThatStands, IsRunOf, RunsMeetNoDamage}
use Rattle.lone_runs.specs.Runs as stages
use Rattle.lone_runs.specs.Runs.{GoesSo, MayNotBegin, as_end}
use Rattle.lone_runs.specs.declared.ends.RunEnd.{RunEnd}
use Rattle.lone_runs.specs.declared.ends.RunEnd.TheVariants as end
use Rattle.lone_runs.proofs.Ran.{is_run, rests}

some_same : {A : Type 0} {x y : A} → Some x ≡ Some y → x ≡ y
some_same e = cc

some_none : {A : Type 0} {x : A} → Some x ≡ None → ⊥
some_none e = cc

none_some : {A : Type 0} {x : A} → None ≡ Some x → ⊥
none_some e = cc

ok_err : (e : RunEnd) → ◌≡◌ {A = Result (Unit {0}) RunEnd} (Ok tt) (Err e) → ⊥
ok_err e same = cc

same_err : (x e : RunEnd) → ◌≡◌ {A = Result (Unit {0}) RunEnd} (Err x) (Err e) → x ≡ e
same_err x e same = cc

-- ---- the node may begin there

-- a header that is read is the one that was written, but for what comes later in it
read_place : (h : LogHeader) (bytes : List ℕ) → ((as_read h bytes).blkno ≡ h.blkno) × ((as_read h bytes).sequence ≡ h.sequence)
read_place h bytes = by (u32_at 48 bytes == 0)
  where
    by : (plain : Bool) → ((if plain then record h { later = None } else h).blkno ≡ h.blkno) × ((if plain then record h { later = None } else h).sequence ≡ h.sequence)
    by true = (refl, refl)
    by false = (refl, refl)

module _ (says : PlacesSayAll) (placed : MountedJournalsArePlaced) (time frames : ℕ) (disk : DiskState) (m : MountedValue) (plans : List Plan) (idle : IsIdle disk) (sized : IsBlockSize disk.size) (mounted : IsMounted (image_of disk) m) (planned : ArePlans (image_of disk) mounted.layout plans) (own : Journal) (plan : Plan)
    (is_own : IsOwn m.journals plans own plan) (can : CanReplayAll disk m.journals plans) (few : frames ≤ most_frames) where
  at_own : IsJournalAt mounted.layout 0 own.dinode
  at_own = (its disk m own idle mounted is_own.journal).0

  -- its places are as many as the profile allows
  long : length own.blocks ≡ (ring_at (image_of disk) own.dinode).places
  long = (its_ring disk m own idle mounted is_own.journal).places

  headed : head_in (ring_at (image_of disk) own.dinode) ≡ Some own.head
  headed = (its disk m own idle mounted is_own.journal).1.head

  low_head : own.head.sequence < 2 ^ 63
  low_head = mounted.profile.sequence 0 own.dinode own.head at_own headed

  its_plan : IsPlanOf (ring_read disk 1 own.blocks) plan
  its_plan = (theirs disk 1 idle m mounted plans planned).plan 0 own plan is_own.journal is_own.planned

  -- the head that the plan leaves is at a place, and its sequence is low
  head_fits : (c : Option LogHeader) → plan.clean ≡ c → c ≡ clean_header (length own.blocks) own.head → ((head_left disk.size 1 time own c own.head).blkno < length own.blocks) × ((head_left disk.size 1 time own c own.head).sequence ≤ 2 ^ 63)
  head_fits None is by = (subst (λ n. own.head.blkno < n) (sym long) (head_there (ring_at (image_of disk) own.dinode) own.head headed).0, (let low = low_head in omega (arith, low)))
  head_fits (Some header) is by =
      let read = read_place (filled (get_or own.blocks header.blkno 0) 1 own.dinode time header) (clean_block disk.size (get_or own.blocks header.blkno 0) 1 own.dinode time header).bytes in
      let inside : header.blkno < length own.blocks = subst (λ (o : Option LogHeader). IfSome o (λ (h : LogHeader). h.blkno < length own.blocks)) is (can_at disk m.journals plans 0 own plan can is_own.journal is_own.planned).place in
      let next : header.sequence ≤ own.head.sequence + 1 = sequence_of own.head.clean header by in
      (subst (λ n. n < length own.blocks) (sym read.0) inside, (let low = low_head in let same = read.1 in omega (arith, low, next, same)))
    where
      sequence_of : (clean : Bool) (header : LogHeader) → Some header ≡ (if clean then None else Some (clean_after (length own.blocks) own.head)) → header.sequence ≤ own.head.sequence + 1
      sequence_of true header e = absurd (some_none e)
      sequence_of false header e =
          let same : header.sequence ≡ (own.head.sequence + 1) % 2 ^ 64 = ap (λ (h : LogHeader). h.sequence) (some_same e) in
          let less = mod-le (own.head.sequence + 1) (2 ^ 64) in
          omega (arith, same, less)

  clean_is : plan.clean ≡ clean_header (length own.blocks) own.head
  clean_is =
      let found = its_plan.clean in
      let head_same : found.0 ≡ own.head
      = some_same (sym found.1 ∙ (says (ring_read disk 1 own.blocks) (ring_at (image_of disk) own.dinode) (its_ring disk m own idle mounted is_own.journal)).head ∙ headed) in
      found.2 ∙ ap (clean_header (length own.blocks)) head_same

  pub may_begin : MayHave disk.count (journal_of disk.size frames time own) (its_head disk.size time own plan)
  may_begin =
      let fits = head_fits plan.clean refl clean_is in
      let as_many = mounted.profile.journal 0 own.dinode at_own in
      let many = long in
      record {
        placed = (placed disk m own frames time idle mounted is_own.journal).0;
        is = record { size = sized; least = omega (arith, many, as_many.0); most = omega (arith, many, as_many.1); places = refl; few = few };
        inside = fits.0;
        low = fits.1;
      }

-- ---- where it ended

module _ (resting : ReplayedIsAtRest) (begin : RunsBeginSo) (keep : StepsKeep) (heads : HeadsAreTold) (works : NodesWorkOnAnImage) (loggable : CallsAreLoggable) (room : CallsHaveRoom) (placed : MountedJournalsArePlaced) (says : PlacesSayAll)
    (s : ScriptValue) (time frames : ℕ) (before : Moment) (m : MountedValue) (plans : List Plan) (start : Tree) (after : Moment) (items : List TraceItem) (e : RunEnd) (is : IsRunOf s time frames before m plans start after items (Err e))
    (frames_low : least_frames ≤ frames) (lines : AllByRecursion IsLineOfScript s.lines) (groups_few : group_length is.from.mounted.layout.groups ≤ most_group_blocks) where
  -- a call of the script
  line_at : (ls : List Line) (k client : ℕ) (call : Call) → AllByRecursion IsLineOfScript ls → slice_get ls k ≡ Some (line.Call client call) → IsOfScript call
  line_at [] k client call all at = absurd (none_some at)
  line_at (x ∷ ls) zero client call all at = subst IsLineOfScript (some_same at) all.0
  line_at (x ∷ ls) (suc k) client call all at = line_at ls k client call all.1 at

  module _ (a p q : Point) (count : ℕ) (replayed : Moment) (rest : RestsAsMounted replayed m is.own plans before.disk.size frames time start is.from.mounted.layout) (run : IsRun s.clients before m plans time start rest.owners rest.layout is.own.dinode a p q)
      (goes : GoesTo s time a count p q) (its_frames : a.log.journal.frames ≡ frames) where
    abbrev v : Volume
    v = volume_of (image_of a.disk) rest.layout

    begins : BeginsAt v (begun_on (image_of a.disk) rest.owners rest.layout start) is.own.dinode s.clients a
    begins = run_begins begin s.clients before m plans time start rest.owners rest.layout is.own.dinode a p q run

    logged : (r : Point) → Steps time a r → IsLoggedAt v (begun_on (image_of a.disk) rest.owners rest.layout start) is.own.dinode s.clients r
    logged r steps = keep v (begun_on (image_of a.disk) rest.owners rest.layout start) is.own.dinode s.clients time a r begins.at steps

    never : WorkedOnNone time a → ⊥
    never none =
        let there = works v (begun_on (image_of a.disk) rest.owners rest.layout start) is.own.dinode s.clients none.point (logged none.point none.steps) in
        none.none there.image there.owners v.layout _ there.works

    frames_there : least_frames ≤ p.log.journal.frames
    frames_there =
        let same = (heads time a p (λ h. no_flush h) goes.steps).journal in
        let its = its_frames in
        let framed : p.log.journal.frames ≡ frames = ap (λ (j : OwnJournal). j.frames) same ∙ its_frames in
        omega (arith, framed, frames_low)
      where
        no_flush : IsHeaded a.log.flush → ⊥
        no_flush (f, tail, some, stage) = none_some (sym (ap (λ (l : LogValue). l.flush) begins.log) ∙ some)

    groups_there : group_length v.layout.groups ≤ most_group_blocks
    groups_there = subst (λ g. group_length g ≤ most_group_blocks) (sym rest.groups) groups_few

    too_small : (call : Call) → IsOfScript call → IsTooSmallFor p time call → ⊥
    too_small call of = room v (begun_on (image_of a.disk) rest.owners rest.layout start) is.own.dinode s.clients time p call (logged p goes.steps) groups_there of frames_there

    not_loggable : (call : Call) → IsUnloggableFor p time call → ⊥
    not_loggable call = loggable v (begun_on (image_of a.disk) rest.owners rest.layout start) is.own.dinode s.clients time p call (logged p goes.steps)

    by_end : (x : ScriptEnd) → IsEndAt s time a count p q x → IsOfImageThatStands (end.Script x)
    by_end (script.ReadFailed block rise) at = tt
    by_end (script.WriteFailed block rise) at = tt
    by_end (script.NotFenced rise) at = tt
    by_end (script.HeadUnread block rise) at = tt
    by_end (script.Damaged block rule) at = never at.2
    by_end (script.NotBuilt place) at = never at.3
    by_end (script.LogTooSmall place) at = too_small at.2.call (line_at s.lines count at.2.client at.2.call lines at.2.next) at.2.holds
    by_end (script.NotLoggable place) at = not_loggable at.2.call at.2.holds
    by_end script.NoMemory at = tt

  by_result : (replayed : Moment) (begun : List TraceItem) (r : Result (Unit {0}) ScriptEnd) → HaveReplayed 1 time before replayed m.journals plans joined begun → IsSound replayed.disk
      → HasRun s time (start_point replayed (view_of before.disk.size m) is.own is.plan time frames begun) after.disk after.list items r → as_end r ≡ Err e → IsOfImageThatStands e
  by_result replayed begun (Ok u) have sound run ended = absurd (ok_err e ended)
  by_result replayed begun (Err x) have sound run ended =
      subst IsOfImageThatStands (same_err (end.Script x) e ended)
      (by_end _ run.last run.left run.count replayed (rests resting s time frames before replayed m plans start is.own is.plan begun is.from is.is_own have sound is.few run.count run.last run.left)
      (is_run resting s time frames before replayed m plans start is.own is.plan begun is.from is.is_own have sound is.few run.count run.last run.left run.goes s.clients) run.goes refl x run.out.0)

  unfenced : (x : FenceEnd) → IsOfImageThatStands (end.Script (end_of x))
  unfenced (fence.NotFenced rise) = tt
  unfenced (fence.ReadFailed block rise) = tt
  unfenced fence.NoMemory = tt

  not_begun : (x : RunEnd) → MayNotBegin before.disk.count before.disk.size time frames is.own is.plan x → IsOfImageThatStands x
  not_begun (end.Misplaced dinode) may = may.1 (may_begin says placed time frames before.disk m plans is.from.idle is.from.sized is.from.mounted is.from.planned is.own is.plan is.is_own is.given.can is.few)
  not_begun (end.Script x) may = subst (λ y. IsOfImageThatStands (end.Script y)) (sym may) tt
  not_begun (end.ReplayFailed block rise) may = tt

  by_stage : (r : Result (Unit {0}) RunEnd) → GoesSo s time frames before (view_of before.disk.size m) m.journals plans is.own is.plan after items r → r ≡ Err e → IsOfImageThatStands e
  by_stage _ (stages.not_joined x same empty may) ended = subst IsOfImageThatStands (same_err x e ended) (not_begun x may)
  by_stage _ (stages.no_memory some early) ended = subst IsOfImageThatStands (same_err (end.Script script.NoMemory) e ended) tt
  by_stage _ (stages.disk_failed block rise failed early) ended = subst IsOfImageThatStands (same_err (end.ReplayFailed block rise) e ended) tt
  by_stage _ (stages.crashed stopped told it at hf) ended = absurd (ok_err e ended)
  by_stage _ (stages.not_fenced stopped told x it at ends) ended = subst IsOfImageThatStands (same_err (end.Script (end_of x)) e ended) (unfenced x)
  by_stage _ (stages.ran replayed begun r have sound run) ended = by_result replayed begun r have sound run ended

pub runs_meet_no_damage : ReplayedIsAtRest → RunsBeginSo → StepsKeep → HeadsAreTold → NodesWorkOnAnImage → CallsAreLoggable → CallsHaveRoom → MountedJournalsArePlaced → PlacesSayAll → RunsMeetNoDamage
runs_meet_no_damage resting begin keep heads works loggable room placed says s time frames before m plans start after items e is frames_low lines groups_few =
    by_stage resting begin keep heads works loggable room placed says s time frames before m plans start after items e is frames_low lines groups_few (Err e) is.goes refl
