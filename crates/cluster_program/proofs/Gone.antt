-- What holds of a run of what was mounted.
use Rattle.std.proofs.Common.{◌≡◌, ◌⊎◌, inl, inr, ℕ, ◌+◌, ◌≤◌, ◌<◌, List, [], ◌∷◌, ◌++◌, length, Bool, true, false, Option, None, Some, refl, sym, ap, ◌∙◌, subst, arith, append-nil}
use Rattle.std.specs.Prelude.{◌≢◌, Contains, IfErr, IfSome, IsTrue, OnOk, Result, Ok, Err, slice_get}
use Rattle.std.proofs.lemmas.Option.{slice_get_within}
use Rattle.std.specs.List.{AllByRecursion}
use Rattle.command_words.specs.Commands.{frames_of}
use Rattle.cluster_history.specs.History.{Legal}
use Rattle.damage_laws.specs.Telling.{CallsTellExactly, HasRootInside, HasWholeGroups, IsOfMounted, IsPathOf, IsReadFrom, IsTold, IsToldOn, MountedAreRead, NeedsTell}
use Rattle.disk_items.specs.Deeds.{AreTold}
use Rattle.disk_turns.specs.Turns.{Moment, moment}
use Rattle.file_tree.specs.Tree.{Tree}
use Rattle.image_model.specs.Image.{Image, IsImage, image_of}
use Rattle.image_model.specs.Profile.{group_length}
use Rattle.image_mount.specs.Mounted.{IsMounted, Journal, MountedValue}
use Rattle.image_recovery.specs.Left.{LeftIsOfProfile, LeftMounts, LeftStandsBy, ReplayLeaves}
use Rattle.image_model.specs.Laws.{CleanImagesStand}
use Rattle.image_recovery.specs.Recoveries.{AreHeadersRead, CanReplayAll, HaveReplayed}
use Rattle.call_locks.specs.declared.want.Want.{Want}
use Rattle.damage_laws.specs.Telling as telling
use Rattle.fault_counts.specs.Causes.{WentUp}
use Rattle.gfs2_layout.specs.Device.{IsBlockSize, superblock_place}
use Rattle.gfs2_layout.specs.declared.superblock.SuperBlock.{SuperBlock}
use Rattle.glock_names.specs.Views.{HasBlock}
use Rattle.glock_names.specs.declared.views.Group.{Group}
use Rattle.image_model.specs.Flat.{Path}
use Rattle.resource_groups.specs.Shown.{IsDataOf}
use Rattle.kept_profiles.specs.Faults.{IsDamagedFor, as_shown, leads_out, source_of}
use Rattle.lone_fences.specs.Fencing.{EndsAt}
use Rattle.lone_fences.specs.declared.ends.FenceEnd.{FenceEnd}
use Rattle.lone_fences.specs.declared.ends.FenceEnd.TheVariants as fence_end
use Rattle.kept_profiles.specs.LoggedScriptsRuns as what
use Rattle.kept_profiles.specs.LoggedScriptsEnds.{IsEndAt, end_of}
use Rattle.kept_profiles.specs.LoggedScriptsRuns.{HasRun, IsBehind}
use Rattle.kept_profiles.specs.Points.{Point}
use Rattle.kept_profiles.specs.Beginning.{IsGiven, IsOwn, start_point}
use Rattle.kept_profiles.specs.Ends.{HasCause}
use Rattle.kept_profiles.specs.Profiles.{RunsKeepTheProfile}
use Rattle.kept_profiles.specs.Laws.{GainsAsTold, IsLineOfScript, IsOfImageThatStands, IsRunOf, NothingIsWritten, RunsAreLegal, RunsAreTold, RunsEnd, RunsMeetNoDamage, RunsRest, RunsStand, WritesNothing}
use Rattle.kept_profiles.specs.Runs as stages
use Rattle.kept_profiles.specs.Runs.{GoesSo, IsSameDisk}
use Rattle.kept_profiles.specs.Telling.{MountedJournalsServe, RunsSeeTheirDamage, RunsTellTheirReplays, SeesDamage, TellsItsReplays}
use Rattle.kept_profiles.specs.lone_runs_ends.RunEnd.{RunEnd}
use Rattle.kept_profiles.specs.lone_runs_ends.RunEnd.TheVariants as end
use Rattle.kept_profiles.specs.logged_scripts_ends.RunEnd.{RunEnd as ScriptEnd}
use Rattle.kept_profiles.specs.logged_scripts_ends.RunEnd.TheVariants as script_end
use Rattle.lone_scripts.specs.Laws.{AllAnsweredOrDown, LoneRunsAreNumbered, LoneRunsFollow, WholeLoneRunsAnswer}
use Rattle.lone_scripts.specs.Runs.{IsLoneRun, IsWholeLoneRun, not_begun as not_begun_yet}
use Rattle.lone_scripts.specs.Scripts.{IsForOne}
use Rattle.lone_view.specs.Seeing.{Lone, seen_alone}
use Rattle.mounted_views.specs.Views.{view_of}
use Rattle.peer_replay.specs.declared.planned.Plan.{Plan}
use Rattle.profile_limits.specs.Limits.{least_frames, most_frames}
use Rattle.run_rules.specs.Follows.{history_of}
use Rattle.run_rules.specs.History.{NoneStopped}
use Rattle.script_lang.specs.Script.{ScriptValue}
use Rattle.shared_disk.specs.Disk.{DiskState, IsIdle, Operation}
use Rattle.trace_text.specs.declared.item.TraceItem.{TraceItem}
use Rattle.trace_text.specs.declared.item.TraceItem.TheVariants as trace
use Rattle.kept_profiles.specs.WholeRunsStarts.{IsStart, joined}
use Rattle.run_reports.specs.declared.status.Status.{Status}
use Rattle.run_reports.specs.declared.status.Status.TheVariants as status
use Rattle.cluster_program.specs.Beginning.{IsPrepared}
use Rattle.cluster_program.specs.EndStatuses.{IfOfScript, IsPlacedEnd, status_of_run}
use Rattle.cluster_program.specs.Dirty.{IsDirtyCount, IsUnreadHead, UnreadBlock, UnreadForMemory, dirty_on}
use Rattle.cluster_program.specs.Mounting as mounting
use Rattle.cluster_program.specs.Mounting.{BeginEnds, IsImageOf, IsMisplaced, IsMountedOn, IsMountedReplayed, NotMounted, is_clean_head}
use Rattle.cluster_program.specs.Runs.{AreCleanOn, ArePlansOf, ChangesNothing, EndsEarly, HasCome, HasGone, HasWhatIsKept, HoldsTree, IfDamaged, IsDone, IsMountedAgain, IsToldBroken, LacksRoom, LeavesReplayed, MeetsDamage, NotBegun, NotCounted, RunEnds, Runs, beyond, first_line, itself, now_of}
use Rattle.cluster_program.specs.World.{Inputs, KeepsDisk}
use Rattle.cluster_program.proofs.Counts.{none_by_items, none_left}
use Rattle.cluster_program.proofs.Kept.{mountable_kept}
use Rattle.cluster_program.proofs.Left.{clean_replayed, dinode_at, mountable_still}
use Rattle.cluster_program.proofs.ReplayItems.{lines_told}

-- ---- the laws

pub record RunLaws : Type 0 where
  pub stand : RunsStand
  pub told : RunsAreTold
  pub legal : RunsAreLegal
  pub end : RunsEnd
  pub profile : RunsKeepTheProfile
  pub rest : RunsRest
  pub damage : RunsMeetNoDamage
  pub written : NothingIsWritten
  pub replays : RunsTellTheirReplays
  pub seen : RunsSeeTheirDamage
  pub serve : MountedJournalsServe
  pub follow : LoneRunsFollow
  pub numbered : LoneRunsAreNumbered
  pub answer : WholeLoneRunsAnswer
  pub leaves : ReplayLeaves
  pub left_by : LeftStandsBy
  pub clean_stand : CleanImagesStand
  pub left_profile : LeftIsOfProfile
  pub left_mounts : LeftMounts
  pub calls : CallsTellExactly
  pub needs : NeedsTell
  pub read : MountedAreRead

-- ---- what `run_alone` promises

pub record HasRunAlone (given left : Inputs) (before : ℕ → ℕ) (view : Lone) (journals : List Journal) (plans : List Plan) (s : ScriptValue) (time : ℕ) (items : List TraceItem) (r : Result (Unit {0}) RunEnd) : Type 0 where
  pub goes : (own : Journal) (plan : Plan) → IsOwn journals plans own plan → GoesSo s time (frames_of None) (now_of given) view journals plans own plan (now_of left) items r
  pub headers : items ≢ [] → AreHeadersRead given.disk.size 1 time journals plans
  pub disk : IsSameDisk given.disk left.disk
  pub lone : (count : ℕ) × IsLoneRun s count items
  pub whole : OnOk r (IsWholeLoneRun s items)
  pub cause : (own : Journal) (plan : Plan) → IsOwn journals plans own plan → IfErr r (HasCause given.disk.count own.blocks before left.disk_faults)

no_items : (xs : List TraceItem) (y : TraceItem) (ys : List TraceItem) → xs ++ y ∷ ys ≡ [] → ⊥
no_items [] y ys none = cc
no_items (x ∷ xs) y ys none = cc

behind_some : (xs more : List TraceItem) → xs ≢ [] → xs ++ more ≡ [] → ⊥
behind_some [] more there none = there refl
behind_some (x ∷ xs) more there none = cc

started : (added items : List TraceItem) → items ≡ joined ++ added → items ≢ []
started added items are none = no_items [] (trace.Join 1) added (sym are ∙ none)

nothing_told : (list : Option (List Operation)) → AreTold list list []
nothing_told None = ([], refl, tt)
nothing_told (Some ops) = ([], refl, sym (append-nil ops))

no_err : (e : RunEnd) → ◌≡◌ {A = Result (Unit {0}) RunEnd} (Ok tt) (Err e) → ⊥
no_err e is = cc

pub early_never_done : (first : ℕ) (x : RunEnd) → status_of_run first x ≡ status.Done → ⊥
early_never_done first (end.Misplaced dinode) is = cc
early_never_done first (end.ReplayFailed block rise) is = cc
early_never_done first (end.Script (script_end.ReadFailed block rise)) is = cc
early_never_done first (end.Script (script_end.WriteFailed block rise)) is = cc
early_never_done first (end.Script (script_end.NotFenced rise)) is = cc
early_never_done first (end.Script (script_end.HeadUnread block rise)) is = cc
early_never_done first (end.Script (script_end.Damaged block rule)) is = cc
early_never_done first (end.Script (script_end.NotBuilt line)) is = cc
early_never_done first (end.Script (script_end.LogTooSmall line)) is = cc
early_never_done first (end.Script (script_end.NotLoggable line)) is = cc
early_never_done first (end.Script script_end.NoMemory) is = cc

inside_yet : (n v : Lone) → v.root ≡ n.root → v.groups ≡ n.groups → HasRootInside (seen_alone n) → HasRootInside (seen_alone v)
inside_yet n v root groups inside = (inside.0, subst (λ (gs : List Group). Contains gs inside.0) (sym groups) inside.1, subst (IsDataOf inside.0) (sym root) inside.2)

first_two : (d : DiskState) (js : List Journal) (ps : List Plan) → 1 ≤ length js → CanReplayAll d js ps → (own : Journal) × (plan : Plan) × IsOwn js ps own plan
first_two d [] ps some can = absurd (omega (arith, some))
first_two d (j ∷ js) [] some can = absurd can
first_two d (j ∷ js) (p ∷ ps) some can = (j, p, record { journal = refl; planned = refl })

module _ (laws : RunLaws) (given left : Inputs) (before : ℕ → ℕ) (s : ScriptValue) (time : ℕ) (items : List TraceItem) (m : MountedValue) (plans : List Plan) (one : IsForOne s) (small : AllByRecursion IsLineOfScript s.lines)
    (idle : IsIdle given.disk) (sized : IsBlockSize given.disk.size) (on : IsMountedOn given.disk m) (root : HasRootInside (seen_alone (view_of given.disk.size m))) (planned : ArePlansOf given.disk m plans)
    (is_given : IsGiven given.disk (view_of given.disk.size m) m.journals plans) (some : 1 ≤ length m.journals) where
  abbrev Ran : Result (Unit {0}) RunEnd → Type 0
  Ran r = HasRunAlone given left before (view_of given.disk.size m) m.journals plans s time items r

  abbrev own_is : (own : Journal) × (plan : Plan) × IsOwn m.journals plans own plan
  own_is = first_two given.disk m.journals plans some is_given.can

  abbrev gone : (r : Result (Unit {0}) RunEnd) → Ran r → HasGone given left m s time items r
  gone r ran = record { plans = plans; planned = planned; own = own_is.0; plan = own_is.1; is_own = own_is.2; goes = ran.goes own_is.0 own_is.1 own_is.2 }

  few_frames : frames_of None ≤ most_frames
  few_frames = omega arith

  module _ (r : Result (Unit {0}) RunEnd) (ran : Ran r) (begun : items ≢ []) (tree : Tree) (is : IsImageOf given.disk tree) (mounted : IsMounted (image_of given.disk) m) where
    abbrev start : IsStart given.disk m plans time tree
    start = record { tells = is.tells; idle = idle; sized = sized; mounted = mounted; planned = planned.are is.tells mounted; can = is_given.can; read = ran.headers begun; stands = is.stands }

    abbrev run_of : IsRunOf s time (frames_of None) (now_of given) m plans tree (now_of left) items r
    run_of = record { from = start; given = is_given; own = own_is.0; plan = own_is.1; is_own = own_is.2; goes = ran.goes own_is.0 own_is.1 own_is.2; few = few_frames }

  pub holds : (r : Result (Unit {0}) RunEnd) → Ran r → items ≢ [] → (tree : Tree) → IsImageOf given.disk tree → HoldsTree given left m s items tree
  holds r ran begun tree is = record {
    legal = λ none. laws.legal s time (frames_of None) (now_of given) m plans tree (now_of left) items r (run_of r ran begun tree is (on is.tells)) none;
    stood = λ mounted was operations is_was is_now true_fence. laws.stand s time (frames_of None) (now_of given) m plans tree (now_of left) items r was operations (run_of r ran begun tree is mounted) is_was is_now true_fence;
  }

  -- where it ended early on an image that stands, it wasn't for a damage
  pub sound : (e : RunEnd) → Ran (Err e) → items ≢ [] → (tree : Tree) → IsImageOf given.disk tree → IsOfImageThatStands e
  sound e ran begun tree is =
      laws.damage s time (frames_of None) (now_of given) m plans tree (now_of left) items e (run_of (Err e) ran begun tree is (on is.tells)) (omega arith) small (on is.tells).profile.group_blocks

  -- ---- what is told as damage

  module _ (block rule : ℕ) (sees : SeesDamage (view_of given.disk.size m) given.disk.count block rule) where
    inside : HasRootInside (seen_alone sees.seen)
    inside = inside_yet (view_of given.disk.size m) sees.seen sees.root sees.groups root

    module _ (im : Image) (image : IsImage im) (size : im.size ≡ given.disk.size) (count : im.count ≡ given.disk.count) (again : IsMountedAgain im m) (has : HasWhatIsKept (seen_alone sees.seen) im) where
      of_mounted : IsOfMounted (seen_alone sees.seen) im again.value
      of_mounted = record {
        size = size ∙ sym sees.size;
        root = ap (λ (sb : SuperBlock). sb.root.address) again.superblock ∙ sym sees.root;
        groups = again.groups ∙ sym sees.groups;
        agrees = has.agrees;
      }

      from : IsReadFrom (seen_alone sees.seen) im × HasWholeGroups (seen_alone sees.seen) im
      from = laws.read (seen_alone sees.seen) im again.value image again.mounted of_mounted

      -- the device has what the node has, and the superblock
      there : (x : ℕ) → (x ≡ superblock_place im.size) ⊎ HasBlock (seen_alone sees.seen) x → x < im.count
      there x (inl is) = subst (λ y. y < im.count) (sym is) again.mounted.found.groups.list.master.format.super.inside
      there x (inr kept) = has.inside x kept

      shown : (wants : List Want) (names : Path) → IsPathOf sees.call wants names → (rule b : ℕ) → HasBlock (seen_alone sees.seen) b → IsTold (seen_alone sees.seen) im wants names rule b
          → IsToldBroken (seen_alone sees.seen) im sees.call rule b
      shown wants names on_path _ _ kept (telling.itself rule b breaks) = itself (record { breaks = breaks; there = inl (there b (inr kept)) })
      shown wants names on_path _ _ kept (telling.astray rule b out) = beyond (record { wants = wants; names = names; on = on_path; astray = out })

      on_paths : (rule b : ℕ) → HasBlock (seen_alone sees.seen) b → IsToldOn (seen_alone sees.seen) im sees.call rule b → IsToldBroken (seen_alone sees.seen) im sees.call rule b
      on_paths rule b kept is = shown is.wants is.names is.on rule b kept is.told

      by_view : (b rule : ℕ) → IsDamagedFor (seen_alone sees.seen) given.disk.count sees.call b rule → IsToldBroken (seen_alone sees.seen) im sees.call rule b
      by_view _ _ (as_shown b rule kept damage) = on_paths rule b kept (laws.calls (seen_alone sees.seen) im sees.call 1 rule b from.0 from.1 inside damage)
      by_view _ _ (leads_out missing needed out) =
          subst (λ n. IsToldBroken (seen_alone sees.seen) im sees.call 2 (source_of n missing)) (size ∙ sym sees.size)
          (elim (laws.needs (seen_alone sees.seen) im sees.call 1 missing from.0 from.1 needed (subst (λ n. n ≤ missing.block) (sym count) out)) [
            | inl source ↦ itself (record { breaks = source.breaks; there = inl (there (telling.source_of im.size missing) source.there) })
            | inr astray ↦ beyond astray
          ])

    pub meets : MeetsDamage given.disk m block rule
    meets = record {
      view = sees.seen;
      call = sees.call;
      shown = sees.shown;
      told = λ im image size count again has. by_view im image size count again has block rule sees.shown;
    }

  damaged : (e : RunEnd) → Ran (Err e) → IfDamaged e (MeetsDamage given.disk m)
  damaged (end.Misplaced dinode) ran = tt
  damaged (end.ReplayFailed block rise) ran = tt
  damaged (end.Script (script_end.ReadFailed block rise)) ran = tt
  damaged (end.Script (script_end.WriteFailed block rise)) ran = tt
  damaged (end.Script (script_end.NotFenced rise)) ran = tt
  damaged (end.Script (script_end.HeadUnread block rise)) ran = tt
  damaged (end.Script (script_end.Damaged block rule)) ran =
      meets block rule (laws.seen s time (frames_of None) (now_of given) (view_of given.disk.size m) m.journals plans own_is.0 own_is.1 (now_of left) items block rule ran.disk.count (ran.goes own_is.0 own_is.1 own_is.2))
  damaged (end.Script (script_end.NotBuilt line)) ran = tt
  damaged (end.Script (script_end.LogTooSmall line)) ran = tt
  damaged (end.Script (script_end.NotLoggable line)) ran = tt
  damaged (end.Script script_end.NoMemory) ran = tt

  -- ---- a run without a stop that came to its end

  module _ (ran : Ran (Ok tt)) (begun : items ≢ []) (none : NoneStopped items) where
    tells : TellsItsReplays time (now_of given) m.journals plans items
    tells = laws.replays s time (frames_of None) (now_of given) (view_of given.disk.size m) m.journals plans own_is.0 own_is.1 (now_of left) items (ran.goes own_is.0 own_is.1 own_is.2) none

    module _ (unchanged : ChangesNothing items) where
      wrote : WritesNothing time (now_of given) m.journals plans (now_of left)
      wrote = laws.written s time (frames_of None) (now_of given) (view_of given.disk.size m) m.journals plans own_is.0 own_is.1 (now_of left) items (ran.goes own_is.0 own_is.1 own_is.2) none unchanged

      leaves : LeavesReplayed given.disk m left.disk
      leaves tells_blocks mounted =
          laws.leaves 1 time (now_of given) (now_of left) m plans joined wrote.begun tells_blocks idle sized mounted (planned.are tells_blocks mounted) is_given.can (ran.headers begun) wrote.replays

    come : IsMountedReplayed given.disk m → HasCome given left m s time items
    come so = record {
      ended = λ tree is mounted. laws.end s time (frames_of None) (now_of given) m plans tree (now_of left) items (run_of (Ok tt) ran begun tree is mounted) none;
      idle = laws.rest s time (frames_of None) (now_of given) (view_of given.disk.size m) m.journals plans own_is.0 own_is.1 (now_of left) items idle (ran.goes own_is.0 own_is.1 own_is.2) none;
      still = λ may low sequences.
          let it = run_of (Ok tt) ran begun may.tree may.is (on may.is.tells) in
          mountable_kept s (now_of given) m may.tree (now_of left) items it.from.mounted.layout (subst IsTrue (sym ran.disk.tells) may.is.tells) (laws.end s time (frames_of None) (now_of given) m plans may.tree (now_of left) items it none)
          (laws.profile s time (frames_of None) (now_of given) m plans may.tree (now_of left) items may.profile.layout may.profile.replayed it none may.profile.is may.profile.profile (low m (on may.is.tells)) sequences);
      unchanged = λ unchanged. record {
        plans = plans;
        planned = planned;
        begun = (wrote unchanged).begun;
        replays = (wrote unchanged).replays;
        told = lines_told time (now_of given) m.journals plans items tells;
        left_so = leaves unchanged;
        clean = clean_replayed given.disk left.disk m on (leaves unchanged);
        still = mountable_still given.disk left.disk m on (leaves unchanged) laws.left_by laws.clean_stand laws.left_mounts laws.left_profile so ran.disk.tells;
      };
    }

    -- ---- how many journals it left not clean: none

    clean_left : (tree : Tree) → IsImageOf given.disk tree → AreCleanOn left.disk m
    clean_left tree is k journal there =
        let ended = laws.end s time (frames_of None) (now_of given) m plans tree (now_of left) items (run_of (Ok tt) ran begun tree is (on is.tells)) none in
        let (head, head_is, clean) = ended.clean k journal.dinode (dinode_at given.disk m (on is.tells) k journal there) in ap is_clean_head head_is ∙ clean

    counted : IsDirtyCount given.disk left.disk s items 0
    counted = record {
      found = λ stopped. absurd (stopped none);
      by_items = λ still. none_by_items time (now_of given) m.journals plans s one.nodes items tells;
      standing = λ still tree is. none_left given.disk left.disk m (on is.tells) (clean_left tree is);
      unchanged = λ still unchanged tells_blocks. none_left given.disk left.disk m (on tells_blocks) (clean_replayed given.disk left.disk m on (leaves unchanged) tells_blocks);
    }

  -- ---- all of it

  -- what holds however it ended
  runs_so : (r : Result (Unit {0}) RunEnd) → Ran r → items ≢ [] → (own : Status) → (own ≡ status.Done → NoneStopped items → HasCome given left m s time items) → RunEnds given left s time items (Some m) own → Runs given left s time items own
  runs_so r ran begun own come_so ends = record {
    value = Some m;
    began = λ some_item. refl;
    mounted = on;
    count = ran.lone.0;
    run = ran.lone.1;
    follows = laws.follow s ran.lone.0 items one ran.lone.1;
    numbered = laws.numbered s ran.lone.0 items one ran.lone.1;
    told = laws.told s time (frames_of None) (now_of given) (view_of given.disk.size m) m.journals plans own_is.0 own_is.1 (now_of left) items r (ran.goes own_is.0 own_is.1 own_is.2);
    same = ran.disk;
    holds = λ tree is. holds r ran begun tree is;
    come = come_so;
    ends = ends;
  }

  -- before the first item it came to nothing
  not_begun : (r : Result (Unit {0}) RunEnd) → Ran r → (own : Status) → items ≡ [] → KeepsDisk given left → BeginEnds given.disk given.disk_faults left.disk_faults own → Runs given left s time items own
  not_begun r ran own none keeps ends = record {
    value = None;
    began = λ some_item. absurd (some_item none);
    mounted = tt;
    count = ran.lone.0;
    run = ran.lone.1;
    follows = laws.follow s ran.lone.0 items one ran.lone.1;
    numbered = laws.numbered s ran.lone.0 items one ran.lone.1;
    told = laws.told s time (frames_of None) (now_of given) (view_of given.disk.size m) m.journals plans own_is.0 own_is.1 (now_of left) items r (ran.goes own_is.0 own_is.1 own_is.2);
    same = ran.disk;
    holds = λ tree is. tt;
    come = λ is none_stopped. tt;
    ends = NotBegun own none keeps ends;
  }

  -- how far it came: it didn't join; or there are items
  data Comes (r : Result (Unit {0}) RunEnd) : Type 0 where
    nothing_yet : (e : RunEnd) → r ≡ Err e → now_of left ≡ now_of given → items ≡ [] → stages.MayNotBegin given.disk.count given.disk.size time (frames_of None) own_is.0 own_is.1 e → Comes r
    some_items : items ≢ [] → Comes r

  comes : (r : Result (Unit {0}) RunEnd) → GoesSo s time (frames_of None) (now_of given) (view_of given.disk.size m) m.journals plans own_is.0 own_is.1 (now_of left) items r → Comes r
  comes _ (stages.not_joined e same none may) = nothing_yet e refl same none may
  comes _ (stages.no_memory some_of early) = some_items (λ none. no_items [] (trace.Join 1) some_of.replayed.added (sym some_of.replayed.are ∙ none))
  comes _ (stages.disk_failed block rise failed early) = some_items (λ none. behind_some failed.its_items failed.failed.added (started failed.replayed.added failed.its_items failed.replayed.are) (sym failed.failed.are ∙ none))
  comes _ (stages.crashed stopped told it at hf) = some_items (λ none. no_items told (trace.Crash 1) (trace.Fence 1 ∷ trace.Lost 1 hf.kept ∷ []) (sym hf.told ∙ none))
  comes _ (stages.not_fenced stopped told e it at ends) = some_items (unfenced e ends)
    where
      told_some : told ≢ []
      told_some none = behind_some it.its_items it.crashed.added (started it.replayed.added it.its_items it.replayed.are) (sym it.crashed.are ∙ none)

      unfenced : (e : FenceEnd) → EndsAt stopped.disk stopped.list told left.disk left.disk_list items e → items ≢ []
      unfenced (fence_end.NotFenced rise) ends none = no_items told (trace.Crash 1) [] (sym ends.are ∙ none)
      unfenced (fence_end.ReadFailed block rise) ends none = no_items told (trace.Crash 1) (trace.Fence 1 ∷ []) (sym ends.told ∙ none)
      unfenced fence_end.NoMemory (inl ends) none = told_some (sym ends.are ∙ none)
      unfenced fence_end.NoMemory (inr ends) none = no_items told (trace.Crash 1) (trace.Fence 1 ∷ []) (sym ends.told ∙ none)
  comes _ (stages.ran replayed begun r have sound_disk run) = some_items (behind run.behind)
    where
      left_some : run.left.items ≢ []
      left_some none = no_items [] (trace.Join 1) run.goes.runs.member.more (sym run.goes.runs.member.are ∙ none)

      behind : IsBehind (start_point replayed (view_of given.disk.size m) own_is.0 own_is.1 time (frames_of None) begun) run.last run.left left.disk left.disk_list items → items ≢ []
      behind (what.nothing same listed are) none = left_some (sym are ∙ none)
      behind (what.crash untold same listed are) none = no_items run.left.items (trace.Crash 1) [] (sym are ∙ none)
      behind (what.fence untold fenced are) none = no_items run.left.items (trace.Crash 1) (trace.Fence 1 ∷ []) (sym are ∙ none)
      behind (what.loss untold hf) none = no_items run.left.items (trace.Crash 1) (trace.Fence 1 ∷ trace.Lost 1 hf.kept ∷ []) (sym hf.told ∙ none)

  -- ---- a run that came to its end

  module _ (ran : Ran (Ok tt)) where
    begun : items ≢ []
    begun = by (comes (Ok tt) (ran.goes own_is.0 own_is.1 own_is.2))
      where
        by : Comes (Ok tt) → items ≢ []
        by (nothing_yet e is same none may) = absurd (no_err e is)
        by (some_items there) = there

    pub done : IsMountedReplayed given.disk m → Runs given left s time items status.Done
    done so =
        let answers = laws.answer s items one ran.whole in
        runs_so (Ok tt) ran begun status.Done (λ is none. come ran begun none so) (IsDone m (gone (Ok tt) ran) ran.whole answers.0 answers.1)

    pub clean_count : NoneStopped items → IsDirtyCount given.disk left.disk s items 0
    clean_count none = counted ran begun none

    pub uncounted : (own : Status) → (NoneStopped items → ⊥) → IsUnreadHead m.journals (given.disk_faults 0) (left.disk_faults 0) own → Runs given left s time items own
    uncounted _ stopped (UnreadBlock journal block x y has within up) =
        runs_so (Ok tt) ran begun (status.DeviceFault 0 (Some block) x y) (λ is none. absurd (stopped none)) (NotCounted m journal block x y (gone (Ok tt) ran) stopped has within up)
    uncounted _ stopped UnreadForMemory = runs_so (Ok tt) ran begun status.NoMemory (λ is none. absurd (stopped none)) (LacksRoom m (Ok tt) (gone (Ok tt) ran))

  -- ---- a run that ended early

  module _ (e : RunEnd) (ran : Ran (Err e)) (earlier : (j : ℕ) → given.disk_faults j ≤ before j) where
    longer : (j x y : ℕ) → WentUp (before j) (left.disk_faults j) x y → WentUp (given.disk_faults j) (left.disk_faults j) x y
    longer j x y up = record { from = let low = earlier j in omega (arith, low, up.from); rose = up.rose; to = up.to }

    cause_since : (x : RunEnd) → HasCause given.disk.count own_is.0.blocks before left.disk_faults x → HasCause given.disk.count own_is.0.blocks given.disk_faults left.disk_faults x
    cause_since (end.Misplaced dinode) cause = tt
    cause_since (end.ReplayFailed block rise) cause = (longer 1 rise.before rise.after cause.0, cause.1)
    cause_since (end.Script (script_end.ReadFailed block rise)) cause = (longer 1 rise.before rise.after cause.0, cause.1)
    cause_since (end.Script (script_end.WriteFailed block rise)) cause = (longer 1 rise.before rise.after cause.0, cause.1)
    cause_since (end.Script (script_end.NotFenced rise)) cause = longer 0 rise.before rise.after cause
    cause_since (end.Script (script_end.HeadUnread block rise)) cause = (longer 0 rise.before rise.after cause.0, cause.1)
    cause_since (end.Script (script_end.Damaged block rule)) cause = tt
    cause_since (end.Script (script_end.NotBuilt line)) cause = tt
    cause_since (end.Script (script_end.LogTooSmall line)) cause = tt
    cause_since (end.Script (script_end.NotLoggable line)) cause = tt
    cause_since (end.Script script_end.NoMemory) cause = tt

    -- it didn't join, for want of memory, or since its journal is none, on a disk that tells nothing
    begin_end : (x : RunEnd) → stages.MayNotBegin given.disk.count given.disk.size time (frames_of None) own_is.0 own_is.1 x → BeginEnds given.disk given.disk_faults left.disk_faults (status_of_run (first_line s) x)
    begin_end (end.Misplaced dinode) may =
        IsMisplaced dinode (λ tells_blocks. may.1 (laws.serve given.disk m plans own_is.0 own_is.1 time (frames_of None) idle sized (on tells_blocks) (planned.are tells_blocks (on tells_blocks)) is_given.can own_is.2 few_frames))
    begin_end (end.ReplayFailed block rise) may = absurd may
    begin_end (end.Script x) may = subst (λ y. BeginEnds given.disk given.disk_faults left.disk_faults (status_of_run (first_line s) (end.Script y))) (sym may) (NotMounted status.NoMemory mounting.LacksRoom)

    pub ended_early : Runs given left s time items (status_of_run (first_line s) e)
    ended_early = by (comes (Err e) (ran.goes own_is.0 own_is.1 own_is.2))
      where
        same_err : (x : RunEnd) → ◌≡◌ {A = Result (Unit {0}) RunEnd} (Err e) (Err x) → x ≡ e
        same_err x is = cc

        by : Comes (Err e) → Runs given left s time items (status_of_run (first_line s) e)
        by (nothing_yet x is same none may) =
            not_begun (Err e) ran (status_of_run (first_line s) e) none (record { state_is = ap (λ (t : Moment). t.disk) same; list_is = ap (λ (t : Moment). t.list) same })
            (subst (λ y. BeginEnds given.disk given.disk_faults left.disk_faults (status_of_run (first_line s) y)) (same_err x is) (begin_end x may))
        by (some_items there) =
            runs_so (Err e) ran there (status_of_run (first_line s) e) (λ is none. absurd (early_never_done (first_line s) e is))
            (EndsEarly m e (gone (Err e) ran) (cause_since e (ran.cause own_is.0 own_is.1 own_is.2)) (λ tree is. sound e ran there tree is) (damaged e ran))

-- ---- no run at all

module _ (follow : LoneRunsFollow) (numbered : LoneRunsAreNumbered) (given left : Inputs) (s : ScriptValue) (time : ℕ) (one : IsForOne s) where
  pub not_prepared : (items : List TraceItem) (own : Status) → items ≡ [] → KeepsDisk given left → BeginEnds given.disk given.disk_faults left.disk_faults own → Runs given left s time items own
  not_prepared items own none keeps ends = record {
    value = None;
    began = λ some_item. absurd (some_item none);
    mounted = tt;
    count = 0;
    run = lone;
    follows = follow s 0 items one lone;
    numbered = numbered s 0 items one lone;
    told = subst (GainsAsTold given.disk_list left.disk_list) (sym none) (subst (λ l. GainsAsTold given.disk_list l []) (sym keeps.list_is) (inl (nothing_told given.disk_list)));
    same = subst (IsSameDisk given.disk) (sym keeps.state_is) (record { size = refl; count = refl; tells = refl; fenced = λ node other. refl; flying = λ node other. refl });
    holds = λ tree is. tt;
    come = λ is none_stopped. tt;
    ends = NotBegun own none keeps ends;
  }
    where
      lone : IsLoneRun s 0 items
      lone = subst (IsLoneRun s 0) (sym none) not_begun_yet

-- ---- of what was prepared

-- the line of an end is one of the script's
at_line : {A : Type 0} (xs : List A) (k : ℕ) (x : A) → slice_get xs k ≡ Some x → k < length xs
at_line xs k x is = slice_get_within xs k x is

module _ (laws : RunLaws) (given left : Inputs) (before : ℕ → ℕ) (s : ScriptValue) (time : ℕ) (items : List TraceItem) (one : IsForOne s) (small : AllByRecursion IsLineOfScript s.lines) (idle : IsIdle given.disk)
    (sized : IsBlockSize given.disk.size) (view : Lone) (journals : List Journal) (plans : List Plan) (p : IsPrepared given.disk view journals plans) where
  root : HasRootInside (seen_alone (view_of given.disk.size p.value))
  root = subst (λ v. HasRootInside (seen_alone v)) p.view_is p.root

  its_given : IsGiven given.disk (view_of given.disk.size p.value) p.value.journals plans
  its_given = subst (λ v. IsGiven given.disk v p.value.journals plans) p.view_is (subst (λ js. IsGiven given.disk view js plans) p.journals_are p.given)

  some : 1 ≤ length p.value.journals
  some = subst (λ js. 1 ≤ length js) p.journals_are p.some

  moved : (r : Result (Unit {0}) RunEnd) → HasRunAlone given left before view journals plans s time items r → HasRunAlone given left before (view_of given.disk.size p.value) p.value.journals plans s time items r
  moved r ran =
      subst (λ v. HasRunAlone given left before v p.value.journals plans s time items r) p.view_is (subst (λ js. HasRunAlone given left before view js plans s time items r) p.journals_are ran)

  pub done_so : HasRunAlone given left before view journals plans s time items (Ok tt) → Runs given left s time items status.Done
  done_so ran = done laws given left before s time items p.value plans one small idle sized p.mounted root p.planned its_given some (moved (Ok tt) ran) p.mounted_so

  pub clean_so : HasRunAlone given left before view journals plans s time items (Ok tt) → NoneStopped items → IsDirtyCount given.disk left.disk s items 0
  clean_so ran none = clean_count laws given left before s time items p.value plans one small idle sized p.mounted root p.planned its_given some (moved (Ok tt) ran) none

  pub found_so : (NoneStopped items → ⊥) → (dirty : ℕ) → (IsTrue given.disk.tells → dirty ≡ dirty_on left.disk journals) → IsDirtyCount given.disk left.disk s items dirty
  found_so stopped dirty counted = record {
    found = λ is tells. (p.value, (p.mounted tells, counted tells ∙ ap (dirty_on left.disk) p.journals_are));
    by_items = λ none. absurd (stopped none);
    standing = λ none. absurd (stopped none);
    unchanged = λ none. absurd (stopped none);
  }

  pub uncounted_so : HasRunAlone given left before view journals plans s time items (Ok tt) → (own : Status) → (NoneStopped items → ⊥) → IsUnreadHead journals (given.disk_faults 0) (left.disk_faults 0) own → Runs given left s time items own
  uncounted_so ran own stopped unread =
      uncounted laws given left before s time items p.value plans one small idle sized p.mounted root p.planned its_given some (moved (Ok tt) ran) own stopped
      (subst (λ js. IsUnreadHead js (given.disk_faults 0) (left.disk_faults 0) own) p.journals_are unread)

  pub early_so : (e : RunEnd) → HasRunAlone given left before view journals plans s time items (Err e) → ((j : ℕ) → given.disk_faults j ≤ before j) → Runs given left s time items (status_of_run (first_line s) e)
  early_so e ran earlier = ended_early laws given left before s time items p.value plans one small idle sized p.mounted root p.planned its_given some e (moved (Err e) ran) earlier

-- an end at a line is at one of the script's
module _ (given left : Inputs) (before : ℕ → ℕ) (s : ScriptValue) (time : ℕ) (items : List TraceItem) (view : Lone) (journals : List Journal) (plans : List Plan) (p : IsPrepared given.disk view journals plans) where
  pub placed_so : (e : RunEnd) → HasRunAlone given left before view journals plans s time items (Err e) → IfOfScript e (IsPlacedEnd (λ line. line < length s.lines))
  placed_so e ran =
      let its = first_two given.disk journals plans p.some p.given.can in by (Err e) (ran.goes its.0 its.1 its.2) refl
    where
      same_end : (x : RunEnd) → ◌≡◌ {A = Result (Unit {0}) RunEnd} (Err x) (Err e) → x ≡ e
      same_end x is = cc

      of_script : (a last now : Point) (count : ℕ) (x : ScriptEnd) → IsEndAt s time a count last now x → IsPlacedEnd (λ line. line < length s.lines) x
      of_script a last now count (script_end.ReadFailed block rise) at = tt
      of_script a last now count (script_end.WriteFailed block rise) at = tt
      of_script a last now count (script_end.NotFenced rise) at = tt
      of_script a last now count (script_end.HeadUnread block rise) at = tt
      of_script a last now count (script_end.Damaged block rule) at = tt
      of_script a last now count (script_end.NotBuilt line) at = subst (λ n. n < length s.lines) (sym at.1) (at_line s.lines count _ at.2.next)
      of_script a last now count (script_end.LogTooSmall line) at = subst (λ n. n < length s.lines) (sym at.1) (at_line s.lines count _ at.2.next)
      of_script a last now count (script_end.NotLoggable line) at = subst (λ n. n < length s.lines) (sym at.1) (at_line s.lines count _ at.2.next)
      of_script a last now count script_end.NoMemory at = tt

      of_fence : (f : FenceEnd) → IsPlacedEnd (λ line. line < length s.lines) (end_of f)
      of_fence (fence_end.NotFenced rise) = tt
      of_fence (fence_end.ReadFailed block rise) = tt
      of_fence fence_end.NoMemory = tt

      not_joined : (own : Journal) (plan : Plan) (x : RunEnd) → stages.MayNotBegin given.disk.count given.disk.size time (frames_of None) own plan x → IfOfScript x (IsPlacedEnd (λ line. line < length s.lines))
      not_joined own plan (end.Misplaced dinode) may = tt
      not_joined own plan (end.ReplayFailed block rise) may = tt
      not_joined own plan (end.Script x) may = subst (IsPlacedEnd (λ line. line < length s.lines)) (sym may) tt

      as_placed : (x : RunEnd) → x ≡ e → IfOfScript x (IsPlacedEnd (λ line. line < length s.lines)) → IfOfScript e (IsPlacedEnd (λ line. line < length s.lines))
      as_placed x same placed = subst (λ y. IfOfScript y (IsPlacedEnd (λ line. line < length s.lines))) same placed

      by_result : (a : Point) (x : Result (Unit {0}) ScriptEnd) → HasRun s time a left.disk left.disk_list items x → stages.as_end x ≡ Err e → IfOfScript e (IsPlacedEnd (λ line. line < length s.lines))
      by_result a (Ok u) run is = absurd (no_err e is)
      by_result a (Err x) run is = as_placed (end.Script x) (same_end (end.Script x) is) (of_script a run.last run.left run.count x run.out.0)

      by : (r : Result (Unit {0}) RunEnd) → GoesSo s time (frames_of None) (now_of given) view journals plans (first_two given.disk journals plans p.some p.given.can).0 (first_two given.disk journals plans p.some p.given.can).1 (now_of left) items r
          → r ≡ Err e → IfOfScript e (IsPlacedEnd (λ line. line < length s.lines))
      by _ (stages.not_joined x same none may) is = as_placed x (same_end x is) (not_joined (first_two given.disk journals plans p.some p.given.can).0 (first_two given.disk journals plans p.some p.given.can).1 x may)
      by _ (stages.no_memory some_of early) is = as_placed (end.Script script_end.NoMemory) (same_end _ is) tt
      by _ (stages.disk_failed block rise failed early) is = as_placed (end.ReplayFailed block rise) (same_end _ is) tt
      by _ (stages.crashed stopped told it at hf) is = absurd (no_err e is)
      by _ (stages.not_fenced stopped told f it at ends) is = as_placed (end.Script (end_of f)) (same_end _ is) (of_fence f)
      by _ (stages.ran replayed told x have sound_disk run) is =
          by_result (start_point replayed view (first_two given.disk journals plans p.some p.given.can).0 (first_two given.disk journals plans p.some p.given.can).1 time (frames_of None) told) x run is

-- ---- the same of what is known by equations

pub at_start : {d d' : DiskState} {l l' : Option (List Operation)} {js js' : List Journal} {ps ps' : List Plan} (P : DiskState → Option (List Operation) → List Journal → List Plan → Type 0)
    → d' ≡ d → l' ≡ l → js' ≡ js → ps' ≡ ps → P d' l' js' ps' → P d l js ps
at_start {d} {d'} {l} {l'} {js} {js'} {ps} {ps'} P one two three four p = subst (λ x. P x l js ps) one (subst (λ x. P d' x js ps) two (subst (λ x. P d' l' x ps) three (subst (P d' l' js') four p)))

-- an end at a line of which more holds
pub placed_line : (P Q : ℕ → Type 0) → ((line : ℕ) → P line → Q line) → (e : RunEnd) → IfOfScript e (IsPlacedEnd P) → IfOfScript e (IsPlacedEnd Q)
placed_line P Q more (end.Misplaced dinode) placed = tt
placed_line P Q more (end.ReplayFailed block rise) placed = tt
placed_line P Q more (end.Script (script_end.ReadFailed block rise)) placed = tt
placed_line P Q more (end.Script (script_end.WriteFailed block rise)) placed = tt
placed_line P Q more (end.Script (script_end.NotFenced rise)) placed = tt
placed_line P Q more (end.Script (script_end.HeadUnread block rise)) placed = tt
placed_line P Q more (end.Script (script_end.Damaged block rule)) placed = tt
placed_line P Q more (end.Script (script_end.NotBuilt line)) placed = more line placed
placed_line P Q more (end.Script (script_end.LogTooSmall line)) placed = more line placed
placed_line P Q more (end.Script (script_end.NotLoggable line)) placed = more line placed
placed_line P Q more (end.Script script_end.NoMemory) placed = tt
