use Rattle.std.proofs.Common.{◌≡◌, ℕ, List, true, false, rules, sym, ap, ◌∙◌, subst}
use Rattle.std.specs.Prelude.{IsTrue, Bool}
use Rattle.gfs2_layout.specs.Device.{superblock_place}
use Rattle.glock_names.specs.declared.views.Group.{Group}
use Rattle.image_mount.specs.Mounted.{MountedValue}
use Rattle.shared_disk.specs.Disk.{DiskState}
use Rattle.resource_groups.specs.Putting.{HasDataBlock}
use Rattle.lone_view.specs.Groups.{AreGroupsOn}
use Rattle.lone_view.specs.Seeing.{Lone, seen_alone}
use Rattle.damage_laws.specs.Telling.{HasRootInside}
use Rattle.cluster_program.specs.Mounting.{MountEnds}
use Rattle.mounted_views.specs.Views.{view_of}
use Rattle.run_reports.specs.declared.status.Status.TheVariants as status
use Rattle.cluster_program.proofs.Mounts.{image_there, odd_groups, stray_root}
use Rattle.cluster_program.proofs.mounting.ready_of.Given.{Over}
use Rattle.cluster_program.proofs.mounting.ready_of.Goals as goal

-- groups that were looked at, of a disk that is known by equations
on_disk : (d : DiskState) (size count : ℕ) (gs hs : List Group) → size ≡ d.size → count ≡ d.count → gs ≡ hs → AreGroupsOn size count gs → AreGroupsOn d.size d.count hs
on_disk d size count gs hs one two three on =
    subst (λ n. AreGroupsOn n d.count hs) one (subst (λ n. AreGroupsOn size n hs) two (subst (AreGroupsOn size count) three on))

not_on_disk : (d : DiskState) (size count : ℕ) (gs hs : List Group) → size ≡ d.size → count ≡ d.count → gs ≡ hs → ¬ (AreGroupsOn size count gs) → ¬ (AreGroupsOn d.size d.count hs)
not_on_disk d size count gs hs one two three odd on =
    odd (subst (λ n. AreGroupsOn n count gs) (sym one) (subst (λ n. AreGroupsOn d.size n gs) (sym two) (subst (AreGroupsOn d.size d.count) (sym three) on)))

never : (b : Bool) {A : Type 0} → b ≡ false → (A → IsTrue b) → ¬ A
never b {A} is to a = let t : b ≡ true = to a in cc

pub returns-then-not-are_groups-clause-ends : goal.returns-then-not-are_groups-clause-ends
returns-then-not-are_groups-clause-ends g c first now =
    let d = g.D.SharedDisk.state c.args.disk.now in
    let place = c.superblock_block-superblock.ensures ∙ ap superblock_place c.block_size-size.ensures in
    let groups = c.deref.ensures.value ∙ ap (λ (m : MountedValue). m.groups) c.mounted.view_is in
    let odd = not_on_disk d c.block_size-size.result c.blocks-2.result c.deref.result.now c.args.mounted.groups c.block_size-size.ensures c.blocks-2.ensures.value groups (never c.are_groups.result c.if-not-are_groups.true c.are_groups.ensures.1) in
    subst (λ (b : ℕ). MountEnds d first now (status.Damaged b 18)) (sym place)
    (odd_groups d c.args.mounted c.what_stands_breaks_nothing.ensures c.replays_keep_system_files.ensures.kept (image_there d c.blocks-2.ensures.sound c.requires.size) c.requires.mounted c.requires.replayed c.requires.alike c.mounted_groups_are_as_seen.ensures odd first now)

pub returns-then-not-are_groups-clause-image : goal.returns-then-not-are_groups-clause-image
returns-then-not-are_groups-clause-image g c = image_there (g.D.SharedDisk.state c.args.disk.now) c.blocks-2.ensures.sound c.requires.size

module _ (g : Over) (c : goal.After-drop-mounted-inside-in-Some g) where
  is : c.new-view.result ≡ view_of (g.D.SharedDisk.state c.args.disk.now).size c.args.mounted
  is = search rules

pub returns-in-Some-clause-on : goal.returns-in-Some-clause-on
returns-in-Some-clause-on g c =
    let d = g.D.SharedDisk.state c.args.disk.now in
    let groups = c.deref.ensures.value ∙ ap (λ (m : MountedValue). m.groups) c.mounted.view_is in
    on_disk d c.block_size-size.result c.blocks-2.result c.deref.result.now c.args.mounted.groups c.block_size-size.ensures c.blocks-2.ensures.value groups (c.are_groups.ensures.0 c.if-not-are_groups.false)

pub returns-in-Some-clause-image : goal.returns-in-Some-clause-image
returns-in-Some-clause-image g c = image_there (g.D.SharedDisk.state c.args.disk.now) c.blocks-2.ensures.sound c.requires.size

pub returns-clause-image : goal.returns-clause-image
returns-clause-image g c = image_there (g.D.SharedDisk.state c.args.disk.now) c.blocks-2.ensures.sound c.requires.size

module _ (g : Over) (c : goal.After-drop-mounted-inside-2 g) where
  is_too : c.new-view.result ≡ view_of (g.D.SharedDisk.state c.args.disk.now).size c.args.mounted
  is_too = search rules

pub returns-clause-ends : goal.returns-clause-ends
returns-clause-ends g c first now =
    let d = g.D.SharedDisk.state c.args.disk.now in
    let place = c.superblock_block-superblock.ensures ∙ ap superblock_place c.block_size-size.ensures in
    let stray : ¬ (HasRootInside (seen_alone (view_of d.size c.args.mounted))) = λ inside.
    c.in-None.ensures.none (subst (HasDataBlock (seen_alone c.new-view.result)) (ap (λ (v : Lone). v.root) c.new-view.ensures) (subst (λ (v : Lone). HasRootInside (seen_alone v)) (sym (is_too g c)) inside)) in
    subst (λ (b : ℕ). MountEnds d first now (status.Damaged b 2)) (sym place)
    (stray_root d c.args.mounted c.what_stands_breaks_nothing.ensures c.replays_keep_system_files.ensures.kept (image_there d c.blocks-2.ensures.sound c.requires.size) c.requires.mounted c.requires.replayed c.requires.alike c.views_may_be_read_from_mounted_images.ensures stray first now)
