-- Why a run doesn't begin whose image was mounted, and what it begins with.
use Rattle.std.proofs.Common.{◌≡◌, ℕ, ◌≤◌, ◌<◌, List, length, refl, sym, subst, arith}
use Rattle.std.specs.Prelude.{IsTrue}
use Rattle.std.specs.List.{AllByRecursion}
use Rattle.damage_laws.specs.Telling.{HasRootInside}
use Rattle.gfs2_layout.specs.Device.{IsBlockSize}
use Rattle.glock_names.specs.Views.{end_of}
use Rattle.image_model.proofs.Lengths.{size_large}
use Rattle.image_model.proofs.Replaying.{replayed_by_any}
use Rattle.image_model.specs.Image.{Image, image_of}
use Rattle.image_mount.specs.Mounted.{IsMounted, Journal, MountedValue}
use Rattle.image_mount.specs.declared.field.Field.TheVariants as field
use Rattle.image_recovery.proofs.ReadPlaces.{read_reached}
use Rattle.image_recovery.specs.Laws.{PlannedCanBeReplayed}
use Rattle.image_replays.proofs.System.{its_journals}
use Rattle.image_replays.specs.Laws.{StoppedAreNotReplayed}
use Rattle.image_replays.specs.Replays as replays
use Rattle.image_replays.specs.Replays.{Stops}
use Rattle.image_replays.specs.look_faults.LookFault.{LookFault}
use Rattle.image_replays.specs.look_faults.LookFault.TheVariants as look
use Rattle.lone_view.specs.Groups.{AreGroupsOn}
use Rattle.lone_view.specs.Seeing.{Lone, seen_alone}
use Rattle.mounted_views.specs.Views.{view_of}
use Rattle.peer_replay.specs.declared.planned.Plan.{Plan}
use Rattle.shared_disk.specs.Disk.{DiskState, IsIdle}
use Rattle.cluster_program.specs.Beginning.{IsPrepared}
use Rattle.cluster_program.specs.EndStatuses.{status_of_look}
use Rattle.cluster_program.specs.Mounting.{ArePlaced, BeginEnds, IsMisplaced, IsMountedAlike, IsMountedOn, IsMountedReplayed, IsStopped, LacksRoom, LiesOutside, NotMounted, NotRead}
use Rattle.cluster_program.specs.Runs.{ArePlansOf}
use Rattle.run_reports.specs.declared.status.Status.TheVariants as status
use Rattle.cluster_program.proofs.Placed.{are_placed}

-- ---- why a run doesn't begin

-- what is known of a planning of a replay that didn't come to its end
pub record HasNoPlans (d : DiskState) (m : MountedValue) (before now : ℕ → ℕ) (f : LookFault) : Type 0 where
  pub stopped : IsTrue d.tells → (is : IsMounted (image_of d) m) → replays.IfDamaged f (λ block rule. Stops (image_of d) is.layout rule block × (block < d.count))
  pub cause : replays.HasCause m.journals d.count (before 0) (now 0) f

pub no_plans_on : (d mid : DiskState) (m : MountedValue) (before now : ℕ → ℕ) (f : LookFault) → mid ≡ d → HasNoPlans mid m before now f → HasNoPlans d m before now f
no_plans_on d mid m before now f same = subst (λ x. HasNoPlans x m before now f) same

module _ (law : StoppedAreNotReplayed) (d : DiskState) (size : IsBlockSize d.size) (m : MountedValue) (on : IsMountedOn d m) (first before now : ℕ → ℕ) (earlier : (j : ℕ) → first j ≤ before j) where
  pub plan_end : (f : LookFault) → HasNoPlans d m before now f → BeginEnds d first now (status_of_look f)
  plan_end (look.Damaged block rule) why =
      IsStopped block rule (λ tells. let stops = why.stopped tells (on tells) in record { value = m; mounted = on tells; stops = stops.0; inside = stops.1 })
      (λ tells tree it. law (image_of d) it.replayed (on tells).layout rule block (why.stopped tells (on tells)).0
      (replayed_by_any (image_of d) it.replayed (on tells).layout it.layout (its_journals (image_of d) m (on tells)) it.is))
  plan_end (look.DiskFailed block rise) why =
      NotRead block rise.before rise.after
      (λ tells. record { value = m; mounted = on tells; place = why.cause.2; reached = read_reached (image_of d) m (on tells) (size_large d.size size) block why.cause.2 })
      (record { from = let low = earlier 0 in omega (arith, low, why.cause.0.from); rose = why.cause.0.rose; to = why.cause.0.to }) why.cause.1
  plan_end look.NoMemory why = NotMounted status.NoMemory LacksRoom

-- ---- what it begins with

module _ (can : PlannedCanBeReplayed) (d : DiskState) (idle : IsIdle d) (sized : IsBlockSize d.size) (m : MountedValue) (on : IsMountedOn d m) (on_so : IsMountedReplayed d m) (groups : AreGroupsOn d.size d.count m.groups)
    (root : HasRootInside (seen_alone (view_of d.size m))) (plans : List Plan) (planned : ArePlansOf d m plans) (few : length plans < 256) where
  pub prepared : (view : Lone) (journals : List Journal) → view ≡ view_of d.size m → journals ≡ m.journals → 1 ≤ length journals → ArePlaced d.count journals → IsPrepared d view journals plans
  prepared view journals view_is are some placed =
      subst (λ v. IsPrepared d v journals plans) (sym view_is) (subst (λ js. IsPrepared d (view_of d.size m) js plans) (sym are) (record {
        value = m;
        mounted = on;
        mounted_so = on_so;
        view_is = refl;
        journals_are = refl;
        some = subst (λ js. 1 ≤ length js) are some;
        placed = subst (ArePlaced d.count) are placed;
        root = root;
        planned = planned;
        given = record { idle = idle; sized = sized; view_size = refl; empty = refl; some = groups.some; groups = groups.inside; can = can d m.journals plans planned.writable planned.headers; few = few };
      }))

-- an image that is mounted has a journal
module _ (d : DiskState) (m : MountedValue) (on : IsMountedOn d m) (alike : IsMountedAlike d m) (none : length m.journals ≡ 0) where
  some_journal : (im : Image) → IsMounted im m → ⊥
  some_journal im is = let some = is.profile.journals.some in let same = is.count in omega (arith, some, same, none)

  pub no_journal : (first now : ℕ → ℕ) → BeginEnds d first now (status.NotProfile field.Journals 0)
  no_journal first now =
      NotMounted (status.NotProfile field.Journals 0)
      (LiesOutside field.Journals 0 (λ tells. absurd (some_journal (image_of d) (on tells))) (λ other image shows. absurd (some_journal other (alike other shows))) (λ tells. absurd (some_journal (image_of d) (on tells))))

-- where a journal isn't in blocks of the disk, that tells nothing
pub misplaced_end : (d : DiskState) (m : MountedValue) (js : List Journal) → IsIdle d → IsMountedOn d m → js ≡ m.journals → (ArePlaced d.count js → ⊥) → (first now : ℕ → ℕ) (dinode : ℕ) → BeginEnds d first now (status.Damaged dinode 3)
misplaced_end d m js idle on are bad first now dinode = IsMisplaced dinode (λ tells. bad (subst (ArePlaced d.count) (sym are) (are_placed d m idle (on tells))))
