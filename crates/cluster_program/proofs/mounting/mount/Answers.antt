use Rattle.std.proofs.Common.{sym, subst}
use Rattle.cluster_program.specs.Mounting.{MountEnds}
use Rattle.cluster_program.proofs.Mounts.{mount_end}
use Rattle.cluster_program.proofs.mounting.mount.Goals as goal

pub returns-in-Err-clause-ends : goal.returns-in-Err-clause-ends
returns-in-Err-clause-ends g c =
    subst (MountEnds _ _ _) (sym c.not_mounted.ensures)
    (mount_end (g.D.SharedDisk.state c.args.disk.now) (g.D.SharedDisk.faults c.args.disk.now) (g.D.SharedDisk.faults c.mount_image.new.disk) c.in-Err.fault c.what_stands_breaks_nothing.ensures c.replays_keep_system_files.ensures.kept
    (record { right = c.in-Err.ensures.refused; told = c.in-Err.ensures.told; standing = c.in-Err.ensures.standing; excused = c.in-Err.ensures.accepts }) c.in-Err.ensures.risen c.in-Err.ensures.within)

pub returns-in-Ok-clause-replayed : goal.returns-in-Ok-clause-replayed
returns-in-Ok-clause-replayed g c tells l replayed is =
    let d = g.D.SharedDisk.state c.args.disk.now in
    c.in-Ok.ensures.alike replayed (c.replayed_images_have_the_same_system.ensures d c.in-Ok.mounted l replayed tells (c.in-Ok.ensures.mounted tells) is)

pub returns-in-Ok-clause-alike : goal.returns-in-Ok-clause-alike
returns-in-Ok-clause-alike g c = c.in-Ok.ensures.shown
