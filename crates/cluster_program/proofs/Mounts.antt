-- How a mount that failed ends a command, and what one that went well gives.
use Rattle.std.proofs.Common.{◌≡◌, ℕ, ◌≤◌, ◌<◌, Some, None, length, inl, inr, List, refl, sym, ap, ◌∙◌, subst, arith}
use Rattle.std.specs.Prelude.{IsTrue}
use Rattle.std.specs.FinMap.{empty, get, get-empty}
use Rattle.std.specs.Ordering.{nat_cmp}
use Rattle.std.proofs.lemmas.List.{length-map}
use Rattle.fault_counts.specs.Causes.{WentUp}
use Rattle.gfs2_layout.specs.Device.{IsBlockSize, superblock_place}
use Rattle.glock_names.specs.Views.{group_of_entry}
use Rattle.image_model.specs.Claims.{Claims, root}
use Rattle.image_model.specs.Image.{Image, IsImage, image_of, superblock_in}
use Rattle.image_model.specs.Laws.{NothingBreaks, ReplaysKeepSystem}
use Rattle.image_model.specs.Owners.{Owners, Root}
use Rattle.image_model.specs.Stands.{IsLaid, Layout}
use Rattle.image_model.specs.SystemFiles.{HasSameSystem, of_superblock}
use Rattle.image_model.specs.Rules.{Breaks, beyond_groups}
use Rattle.image_mount.specs.Found.{HasFormat, IsReached}
use Rattle.image_mount.specs.Mounted.{MountedValue, IsMounted, IsOfProfile, GroupsAreAsSeen}
use Rattle.image_mount.specs.Refusals.{RefusesRightly, HasRisen, LiesWithin, IsExcused, come_to}
use Rattle.image_mount.specs.Searching.{ShowsSystem}
use Rattle.image_mount.specs.declared.fault.MountFault.{MountFault}
use Rattle.image_mount.specs.declared.fault.MountFault.TheVariants as fault
use Rattle.shared_disk.specs.Disk.{DiskState, IsSound}
use Rattle.lone_view.specs.Groups.{AreGroupsOn}
use Rattle.lone_view.specs.Seeing.{seen_alone}
use Rattle.damage_laws.specs.Telling.{HasRootInside, IsOfMounted, MountedAreRead}
use Rattle.cluster_program.specs.EndStatuses.{status_of_mount}
use Rattle.cluster_program.specs.Mounting.{OfImage, IsMountedAlike, IsMountedOn, IsMountedReplayed, IsToldBySystem, BeginEnds, MountEnds, DiskFails, IsMisplaced, IsStopped, LiesOutside, IsDamaged, LacksRoom, NeverStands, NotMounted, NotRead}
use Rattle.run_reports.specs.Report.{IsSinkFault}
use Rattle.run_reports.specs.declared.status.Status.{Status}
use Rattle.mounted_views.specs.Views.{view_of}
use Rattle.run_reports.specs.declared.status.Status.TheVariants as status

-- a count went up within a longer time too
pub longer : (first before now x y : ℕ) → first ≤ before → WentUp before now x y → WentUp first now x y
longer first before now x y earlier up = record { from = omega (arith, earlier, up.from); rose = up.rose; to = up.to }

-- what a mount that fails tells of each image of which the disk shows the system files
pub record IsToldRightly (d : DiskState) (f : MountFault) : Type 0 where
  pub right : OfImage d (λ im. RefusesRightly im f)
  pub told : (other : Image) → ShowsSystem d other → RefusesRightly other f
  pub standing : OfImage d (λ im. (other : Image) (o : Owners) (l : Layout) → HasSameSystem im other → IsLaid other o l → RefusesRightly other f)
  pub excused : OfImage d (λ im. (other : Image) → HasSameSystem im other → IsOfProfile other → IsExcused f)

pub mount_end : (d : DiskState) (first now : ℕ → ℕ) (f : MountFault) → NothingBreaks → ReplaysKeepSystem → IsToldRightly d f → HasRisen first now f → LiesWithin d.count f → MountEnds d first now (status_of_mount f)
mount_end d first now (fault.NotProfile what value) law keeps told risen within =
    LiesOutside what value told.right (λ other image. told.told other) (λ tells has. told.excused tells has.replayed (keeps (image_of d) has.replayed has.layout has.is) has.profile)
mount_end d first now (fault.Damaged block rule) law keeps told risen within =
    IsDamaged block rule told.right (λ other image. told.told other) (λ tells tree is.
    let standing = told.standing tells is.replayed is.stands.owners is.stands.layout (keeps (image_of d) is.replayed is.layout is.is) is.stands.laid in
    law is.replayed tree is.stands rule block standing.0.breaks)
mount_end d first now (fault.DeviceFault block x y) law keeps told risen within = DiskFails block x y risen within told.right
mount_end d first now fault.NoMemory law keeps told risen within = LacksRoom

-- ---- what the node has of the image as it begins

pub image_there : (d : DiskState) → IsSound d → IsBlockSize d.size → OfImage d IsImage
image_there d sound four tells = record { block_size = four; whole = sound.sizes tells }

pub nothing_kept : (b : ℕ) (bytes : List ℕ) → get (empty {K = ℕ} {X = List ℕ} {R = nat_cmp}) b ≡ Some bytes → ⊥
nothing_kept b bytes has = let never : None ≡ Some bytes = sym (get-empty {K = ℕ} {X = List ℕ} nat_cmp b) ∙ has in cc

-- it may be read from an image, of which it has the groups, and no block
pub of_mounted : (d : DiskState) (m : MountedValue) (im : Image) → im.size ≡ d.size → IsOfMounted (seen_alone (view_of d.size m)) im m
of_mounted d m im size = record {
  size = size;
  root = refl;
  groups = refl;
  agrees = λ b bytes has. absurd (nothing_kept b bytes has);
}

some_groups : (d : DiskState) (m : MountedValue) → IsMounted (image_of d) m → 1 ≤ length m.groups
some_groups d m mounted =
    let same : length m.groups ≡ length mounted.layout.groups = ap length mounted.groups ∙ length-map mounted.layout.groups group_of_entry in
    let some = mounted.profile.groups.0 in omega (arith, same, some)

module _ (d : DiskState) (m : MountedValue) (law : NothingBreaks) (keeps : ReplaysKeepSystem) (is : OfImage d IsImage) (on : IsMountedOn d m) (replayed : IsMountedReplayed d m) (alike : IsMountedAlike d m) where
  -- groups such as no node can work with are not those of a disk that tells its blocks
  pub odd_groups : GroupsAreAsSeen → ¬ (AreGroupsOn d.size d.count m.groups) → (first now : ℕ → ℕ) → MountEnds d first now (status.Damaged (superblock_place d.size) 18)
  odd_groups seen odd first now = IsDamaged (superblock_place d.size) 18 (λ tells. absurd (never tells)) (λ other image shows. absurd (never shows.tells)) (λ tells tree stands. never tells)
    where
      never : IsTrue d.tells → ⊥
      never tells =
          let mounted = on tells in
          odd (record { some = some_groups d m mounted; are = (seen (image_of d) m mounted).0; inside = (seen (image_of d) m mounted).1 })

  -- a root that is in no group is told at the superblock, in each image from which the node may read
  pub stray_root : MountedAreRead → ¬ (HasRootInside (seen_alone (view_of d.size m))) → (first now : ℕ → ℕ) → MountEnds d first now (status.Damaged (superblock_place d.size) 2)
  stray_root read stray first now = IsDamaged (superblock_place d.size) 2 told shown never
    where
      breaks : (im : Image) → IsImage im → im.size ≡ d.size → IsMounted im m → Breaks im 2 (superblock_place d.size)
      breaks im image size mounted =
          let from = (read (seen_alone (view_of d.size m)) im m image mounted (of_mounted d m im size)).0 in
          let address : (superblock_in im).root.address ≡ m.superblock.root.address = from.root in
          let claims : Claims im (superblock_place im.size) m.superblock.root.address Root = subst (λ a. Claims im (superblock_place im.size) a Root) address root in
          beyond_groups (superblock_place d.size) m.superblock.root.address Root (subst (λ n. Claims im (superblock_place n) m.superblock.root.address Root) size claims)
          (from.list, from.whole, λ g there inside. stray (group_of_entry g, (from.groups (group_of_entry g)).1 (g, there, refl), record { low = inside.low; high = inside.high }))

      right : (im : Image) → IsImage im → im.size ≡ d.size → IsMounted im m → RefusesRightly im (fault.Damaged (superblock_place d.size) 2)
      right im image size mounted =
          let format : HasFormat im = mounted.found.groups.list.master.format in
          let reached : IsReached im (superblock_place d.size)
          = subst (λ n. IsReached im (superblock_place n)) size (record { inside = format.super.inside; system = of_superblock refl; format = inr format }) in
          (record { breaks = breaks im image size mounted; there = inl reached.inside }, come_to 2 (superblock_place d.size) format reached)

      told : OfImage d (λ im. RefusesRightly im (fault.Damaged (superblock_place d.size) 2))
      told tells = right (image_of d) (is tells) refl (on tells)

      -- and so in each image of which the disk shows the system files
      shown : IsToldBySystem d (superblock_place d.size) 2
      shown other image shows = right other image shows.size (alike other shows)

      never : OfImage d NeverStands
      never tells tree it =
          let same = keeps (image_of d) it.replayed it.layout it.is in
          law it.replayed tree it.stands 2 (superblock_place d.size) (breaks it.replayed it.stands.laid.image same.size (replayed tells it.layout it.replayed it.is))

-- ---- such an end is not told to be done, nor a sink's fault

pub mount_never_done : (disk : DiskState) (first now : ℕ → ℕ) (own : Status) → MountEnds disk first now own → own ≡ status.Done → ⊥
mount_never_done disk first now own (DiskFails block x y up inside reached) is = cc
mount_never_done disk first now own (LiesOutside what value outside shown never) is = cc
mount_never_done disk first now own (IsDamaged block rule breaks shown never) is = cc
mount_never_done disk first now own LacksRoom is = cc

pub no_mount_fault : (d : DiskState) (first now : ℕ → ℕ) (own : Status) → MountEnds d first now own → IsSinkFault own → ⊥
no_mount_fault d first now own (DiskFails block x y up inside reached) never = never
no_mount_fault d first now own (LiesOutside what value outside shown none) never = never
no_mount_fault d first now own (IsDamaged block rule breaks shown none) never = never
no_mount_fault d first now own LacksRoom never = never

pub begin_never_done : (disk : DiskState) (first now : ℕ → ℕ) (own : Status) → BeginEnds disk first now own → own ≡ status.Done → ⊥
begin_never_done disk first now own (NotMounted own' ends) is = mount_never_done disk first now own ends is
begin_never_done disk first now own (NotRead block x y mounted up within) is = cc
begin_never_done disk first now own (IsStopped block rule why never) is = cc
begin_never_done disk first now own (IsMisplaced dinode untold) is = cc

pub no_begin_fault : (d : DiskState) (first now : ℕ → ℕ) (own : Status) → BeginEnds d first now own → IsSinkFault own → ⊥
no_begin_fault d first now own (NotMounted own' ends) never = no_mount_fault d first now own ends never
no_begin_fault d first now own (NotRead block x y mounted up within) never = never
no_begin_fault d first now own (IsStopped block rule why none) never = never
no_begin_fault d first now own (IsMisplaced dinode untold) never = never
