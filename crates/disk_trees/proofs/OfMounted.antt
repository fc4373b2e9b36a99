-- What reading the tree of a mounted image answers, by what its replay does.
use Rattle.std.proofs.Common.{◌≡◌, ◌<◌, ◌≤◌, ℕ, List, Ok, Err, IsTrue, sym, ap, subst, ◌∙◌, arith}
use Rattle.std.specs.Prelude.{Result, IfErr, IfOk}
use Rattle.fault_counts.specs.Causes.{WentUp}
use Rattle.file_tree.specs.Tree.{Tree}
use Rattle.image_model.specs.Image.{Image, image_of}
use Rattle.image_model.specs.Replays.{IsReplayable, Replayed, StandsReplayed}
use Rattle.image_model.specs.Rules.{IsBrokenBlock}
use Rattle.image_model.specs.Stands.{Layout, Stands}
use Rattle.image_model.proofs.Replaying.{one_replay, replayed_by_any}
use Rattle.image_replays.specs.MountedImages.{IsMounted, Journal, MountedValue}
use Rattle.image_replays.specs.Laws.{StoppedAreNotReplayed}
use Rattle.image_replays.specs.Replays as replays
use Rattle.image_replays.specs.Replays.{ArePlans, Stops, put_over}
use Rattle.image_replays.proofs.System.{its_journals}
use Rattle.image_replays.specs.look_faults.LookFault.{LookFault}
use Rattle.image_replays.specs.look_faults.LookFault.TheVariants as look
use Rattle.peer_replay.specs.declared.planned.Plan.{Plan}
use Rattle.shared_disk.specs.Disk.{DiskState}
use Rattle.disk_trees.specs.Answers.{GivesTree, HasCause, IfDamaged, fault_of_look}
use Rattle.disk_trees.specs.Reading.{IsUnreadable, broken, ending, stopped}
use Rattle.disk_trees.specs.declared.faults.TreeFault.{TreeFault}
use Rattle.disk_trees.specs.declared.faults.TreeFault.TheVariants as tree

-- a mounted image's replayed image is that by the layout that mounting found
by_layout : (im : Image) (m : MountedValue) (is : IsMounted im m) (t : Tree) (s : StandsReplayed im t) → Replayed im is.layout s.replayed
by_layout im m is t s = replayed_by_any im s.replayed is.layout s.layout (its_journals im m is) s.is

module _ (law : StoppedAreNotReplayed) (d : DiskState) (m : MountedValue) (f : LookFault)
    (why : IsTrue d.tells → (is : IsMounted (image_of d) m) → replays.IfDamaged f (λ block rule. Stops (image_of d) is.layout rule block × (block < d.count))) where
  none : (f : LookFault) (is : IsMounted (image_of d) m) (t : Tree) → StandsReplayed (image_of d) t → replays.IfDamaged f (λ block rule. Stops (image_of d) is.layout rule block × (block < d.count)) → GivesTree t (Err (fault_of_look f))
  none (look.Damaged block rule) is t s stops = law (image_of d) s.replayed is.layout rule block stops.0 (by_layout (image_of d) m is t s)
  none (look.DiskFailed block rise) is t s stops = tt
  none look.NoMemory is t s stops = tt

  pub stopped_gives : IsTrue d.tells → IsMounted (image_of d) m → (t : Tree) → StandsReplayed (image_of d) t → GivesTree t (Err (fault_of_look f))
  stopped_gives tells is t s = none f is t s (why tells is)

  told : (f : LookFault) (is : IsMounted (image_of d) m) → replays.IfDamaged f (λ block rule. Stops (image_of d) is.layout rule block × (block < d.count)) → IfDamaged (fault_of_look f) (IsUnreadable (image_of d) is.layout)
  told (look.Damaged block rule) is stops = stopped stops.0 stops.1
  told (look.DiskFailed block rise) is stops = tt
  told look.NoMemory is stops = tt

  pub stopped_tells : IsTrue d.tells → (is : IsMounted (image_of d) m) → IfDamaged (fault_of_look f) (IsUnreadable (image_of d) is.layout)
  stopped_tells tells is = told f is (why tells is)

pub stopped_cause : (journals : List Journal) (count : ℕ) (before now : ℕ → ℕ) (f : LookFault) → replays.HasCause journals count (before 0) (now 0) f → HasCause count before now (fault_of_look f)
stopped_cause journals count before now (look.Damaged block rule) cause = tt
stopped_cause journals count before now (look.DiskFailed block rise) cause = (cause.0, cause.1)
stopped_cause journals count before now look.NoMemory cause = tt

-- ---- the plans are there, and the tree was read, or wasn't

module _ (d : DiskState) (m : MountedValue) (plans : List Plan) (are : IsTrue d.tells → (is : IsMounted (image_of d) m) → ArePlans (image_of d) is.layout plans) (r : Result Tree TreeFault) where
  pub can_be_replayed : IfOk r (λ t. IsTrue d.tells → (is : IsMounted (image_of d) m) → IsReplayable (image_of d) is.layout)
  can_be_replayed = by r
    where
      by : (x : Result Tree TreeFault) → IfOk x (λ t. IsTrue d.tells → (is : IsMounted (image_of d) m) → IsReplayable (image_of d) is.layout)
      by (Ok t) = λ tells is. (are tells is).replayed.replayable
      by (Err f) = tt

  read_gives : (IsTrue d.tells → (t : Tree) → Stands (put_over (image_of d) plans) t → GivesTree t r) → IsTrue d.tells → IsMounted (image_of d) m → (t : Tree) → StandsReplayed (image_of d) t → GivesTree t r
  read_gives gives tells is t s =
      gives tells t (subst (λ im. Stands im t) (one_replay (image_of d) s.replayed (put_over (image_of d) plans) is.layout is.layout (by_layout (image_of d) m is t s) (are tells is).replayed) s.stands)

  broken_tells : (f : TreeFault) (is : IsMounted (image_of d) m) → Replayed (image_of d) is.layout (put_over (image_of d) plans) → IfDamaged f (λ block rule. IsBrokenBlock (ending (put_over (image_of d) plans)) rule block)
      → IfDamaged f (IsUnreadable (image_of d) is.layout)
  broken_tells (tree.Damaged block rule) is replayed breaks = broken (put_over (image_of d) plans) replayed breaks
  broken_tells (tree.DiskFailed block rise) is replayed breaks = tt
  broken_tells tree.NoMemory is replayed breaks = tt

  read_tells : IfErr r (λ f. IsTrue d.tells → IfDamaged f (λ block rule. IsBrokenBlock (ending (put_over (image_of d) plans)) rule block))
      → IfErr r (λ f. IsTrue d.tells → (is : IsMounted (image_of d) m) → IfDamaged f (IsUnreadable (image_of d) is.layout))
  read_tells told = by r told
    where
      by : (x : Result Tree TreeFault) → IfErr x (λ f. IsTrue d.tells → IfDamaged f (λ block rule. IsBrokenBlock (ending (put_over (image_of d) plans)) rule block))
          → IfErr x (λ f. IsTrue d.tells → (is : IsMounted (image_of d) m) → IfDamaged f (IsUnreadable (image_of d) is.layout))
      by (Ok t) told = tt
      by (Err f) told = λ tells is. broken_tells f is (are tells is).replayed (told tells)

-- the same where the disk was read meanwhile, and the plans stand in a row
module _ (d mid : DiskState) (same : mid ≡ d) (m : MountedValue) (plans row : List Plan) (is_row : row ≡ plans) (are : IsTrue d.tells → (is : IsMounted (image_of d) m) → ArePlans (image_of d) is.layout plans) (r : Result Tree TreeFault) where
  row_are : IsTrue d.tells → (is : IsMounted (image_of d) m) → ArePlans (image_of d) is.layout row
  row_are tells is = subst (ArePlans (image_of d) is.layout) (sym is_row) (are tells is)

  pub gives_read : (IsTrue mid.tells → (t : Tree) → Stands (put_over (image_of mid) row) t → GivesTree t r) → IsTrue d.tells → IsMounted (image_of d) m → (t : Tree) → StandsReplayed (image_of d) t → GivesTree t r
  gives_read gives = read_gives d m row row_are r (subst (λ (x : DiskState). IsTrue x.tells → (t : Tree) → Stands (put_over (image_of x) row) t → GivesTree t r) same gives)

  pub tells_read : IfErr r (λ f. IsTrue mid.tells → IfDamaged f (λ block rule. IsBrokenBlock (ending (put_over (image_of mid) row)) rule block))
      → IfErr r (λ f. IsTrue d.tells → (is : IsMounted (image_of d) m) → IfDamaged f (IsUnreadable (image_of d) is.layout))
  tells_read told = read_tells d m row row_are r
      (subst (λ (x : DiskState). IfErr r (λ f. IsTrue x.tells → IfDamaged f (λ block rule. IsBrokenBlock (ending (put_over (image_of x) row)) rule block))) same told)

-- a count went up within a longer time too
pub read_cause : (d mid : DiskState) (first before now : ℕ → ℕ) (r : Result Tree TreeFault) → mid ≡ d → ((j : ℕ) → first j ≤ before j) → IfErr r (HasCause mid.count before now) → IfErr r (HasCause d.count first now)
read_cause d mid first before now (Ok t) same earlier cause = tt
read_cause d mid first before now (Err (tree.Damaged block rule)) same earlier cause = tt
read_cause d mid first before now (Err (tree.DiskFailed block rise)) same earlier cause =
    let low = earlier 0 in
    (record { from = omega (arith, low, cause.0.from); rose = cause.0.rose; to = cause.0.to }, subst (λ (x : DiskState). block < x.count) same cause.1)
read_cause d mid first before now (Err tree.NoMemory) same earlier cause = tt
