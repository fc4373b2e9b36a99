-- What a run begins with: its image is mounted, and the replays of its journals are planned.
use Rattle.std.specs.Prelude.{ℕ, ◌≡◌, ◌≤◌, List, length}
use Rattle.damage_laws.specs.Telling.{HasRootInside}
use Rattle.image_mount.specs.Mounted.{Journal, MountedValue}
use Rattle.kept_profiles.specs.Beginning.{IsGiven}
use Rattle.lone_view.specs.Seeing.{Lone, seen_alone}
use Rattle.mounted_views.specs.Views.{view_of}
use Rattle.peer_replay.specs.declared.planned.Plan.{Plan}
use Rattle.shared_disk.specs.Disk.{DiskState}
use Rattle.cluster_program.specs.Mounting.{IsMountedOn, IsMountedReplayed, ArePlaced}
use Rattle.cluster_program.specs.Runs.{ArePlansOf}

-- The image of a disk was mounted, with its root in one of the groups; this is what node 1 sees of it, nothing of a block yet; these are its journals, at least one, each in blocks of the disk, and these the plans of their
-- replays, which can be carried out.
pub record IsPrepared (disk : DiskState) (view : Lone) (journals : List Journal) (plans : List Plan) : Type 0 where
  pub value : MountedValue
  pub mounted : IsMountedOn disk value
  pub mounted_so : IsMountedReplayed disk value
  pub view_is : view ≡ view_of disk.size value
  pub journals_are : journals ≡ value.journals
  pub some : 1 ≤ length journals
  pub placed : ArePlaced disk.count journals
  pub root : HasRootInside (seen_alone view)
  pub planned : ArePlansOf disk value plans
  pub given : IsGiven disk view journals plans
