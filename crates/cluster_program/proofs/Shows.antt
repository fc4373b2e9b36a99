-- How a show ends whose tree was read, or wasn't.
use Rattle.std.proofs.Common.{◌≡◌, ℕ, ◌≤◌, List, [], ◌++◌, ap, ◌∙◌, subst}
use Rattle.std.specs.Prelude.{IsTrue, Result, Ok, Err, IfErr, IfOk, Bool}
use Rattle.file_tree.specs.Tree.{Tree}
use Rattle.image_model.specs.Image.{image_of}
use Rattle.image_model.specs.Replays.{IsReplayable, StandsReplayed}
use Rattle.image_mount.specs.Mounted.{IsMounted, MountedValue}
use Rattle.shared_disk.specs.Disk.{DiskState}
use Rattle.show_text.specs.Show.{journal_lines, tree_lines}
use Rattle.disk_trees.specs.Answers.{GivesTree, HasCause, IfDamaged}
use Rattle.disk_trees.specs.Reading.{IsUnreadable}
use Rattle.disk_trees.specs.declared.faults.TreeFault.{TreeFault}
use Rattle.disk_trees.specs.declared.faults.TreeFault.TheVariants as tree
use Rattle.cluster_program.specs.Course.{clean_of, Shows, HasShown, ShowsNone, TreeFailed, TreeDamaged, NothingHeld}
use Rattle.cluster_program.specs.EndStatuses.{status_of_tree}
use Rattle.cluster_program.specs.Mounting.{HasMounted, OfImage, IsMountedOn}
use Rattle.run_reports.specs.Report.{IsSinkFault}
use Rattle.run_reports.specs.declared.status.Status.{Status}
use Rattle.run_reports.specs.declared.status.Status.TheVariants as status
use Rattle.cluster_program.proofs.Mounts.{longer, no_mount_fault}

-- what is known of a disk whose tree was read, or wasn't
pub record HasReadTree (d : DiskState) (m : MountedValue) (before now : ℕ → ℕ) (r : Result Tree TreeFault) : Type 0 where
  pub stands : IsTrue d.tells → IsMounted (image_of d) m → (t : Tree) → StandsReplayed (image_of d) t → GivesTree t r
  pub replayable : IfOk r (λ t. IsTrue d.tells → (is : IsMounted (image_of d) m) → IsReplayable (image_of d) is.layout)
  pub damaged : IfErr r (λ fault. IsTrue d.tells → (is : IsMounted (image_of d) m) → IfDamaged fault (IsUnreadable (image_of d) is.layout))
  pub cause : IfErr r (HasCause d.count before now)

pub of_disk : (d mid : DiskState) (m : MountedValue) (before now : ℕ → ℕ) (r : Result Tree TreeFault) → mid ≡ d → HasReadTree mid m before now r → HasReadTree d m before now r
of_disk d mid m before now r same read = subst (λ (x : DiskState). HasReadTree x m before now r) same read

module _ (d : DiskState) (first before now : ℕ → ℕ) (m : MountedValue) (on : IsMountedOn d m) (earlier : (j : ℕ) → first j ≤ before j) where
  mounted : OfImage d HasMounted
  mounted tells = (m, on tells)

  pub tree_end : (e : TreeFault) → HasReadTree d m before now (Err e) → Shows d first now [] (status_of_tree e)
  tree_end (tree.Damaged block rule) read = TreeDamaged block rule (λ tells. record { value = m; mounted = on tells; why = read.damaged tells (on tells) }) (λ tells t stands. read.stands tells (on tells) t stands)
  tree_end (tree.DiskFailed block rise) read = TreeFailed block rise.before rise.after mounted (longer (first 0) (before 0) (now 0) rise.before rise.after (earlier 0) read.cause.0) read.cause.1
  tree_end tree.NoMemory read = NothingHeld

  pub all_shown : (t : Tree) (empty journals lines : List ℕ) (heads : List Bool) → HasReadTree d m before now (Ok t) → heads ≡ clean_of m → empty ≡ [] → journals ≡ empty ++ journal_lines 0 heads
      → lines ≡ journals ++ tree_lines [] t → Shows d first now lines status.Done
  all_shown t empty journals lines heads read are none first_lines later =
      HasShown m t lines on read.replayable (λ t' is. read.stands is.tells (on is.tells) t' is.stands) (later ∙ ap (λ (ls : List ℕ). ls ++ tree_lines [] t) (first_lines ∙ (λ i. none i ++ journal_lines 0 (are i))))

-- what a show tells is none of the sinks' faults
pub no_sink_fault : (d : DiskState) (first now : ℕ → ℕ) (lines : List ℕ) (own : Status) → Shows d first now lines own → IsSinkFault own → ⊥
no_sink_fault d first now lines own (HasShown m t lines' mounted can is are) = λ never. never
no_sink_fault d first now lines own (ShowsNone own' ends) = no_mount_fault d first now own ends
no_sink_fault d first now lines own (TreeFailed block x y mounted up within) = λ never. never
no_sink_fault d first now lines own (TreeDamaged block rule breaks never) = λ never. never
no_sink_fault d first now lines own NothingHeld = λ never. never
