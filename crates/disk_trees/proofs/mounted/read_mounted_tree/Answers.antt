use Rattle.std.proofs.Common.{sym, subst}
use Rattle.std.specs.Prelude.{Err, IsTrue}
use Rattle.file_tree.specs.Tree.{Tree}
use Rattle.image_model.specs.Image.{image_of}
use Rattle.image_model.specs.Replays.{StandsReplayed}
use Rattle.image_replays.specs.MountedImages.{IsMounted}
use Rattle.disk_trees.specs.Answers.{GivesTree, HasCause, IfDamaged}
use Rattle.disk_trees.specs.Reading.{IsUnreadable}
use Rattle.disk_trees.proofs.OfMounted.{can_be_replayed, stopped_gives, stopped_tells, stopped_cause, gives_read, tells_read, read_cause}
use Rattle.disk_trees.proofs.mounted.read_mounted_tree.Goals as goal

-- ---- the replay is stopped

pub returns-in-Err-clause-stands : goal.returns-in-Err-clause-stands
returns-in-Err-clause-stands g c =
    let d = g.D.SharedDisk.state c.args.disk.now in
    subst (λ f. IsTrue d.tells → IsMounted (image_of d) c.args.mounted.now → (t : Tree) → StandsReplayed (image_of d) t → GivesTree t (Err f)) (sym c.not_replayed.ensures)
    (stopped_gives c.stopped_images_have_no_replay.ensures d c.args.mounted.now c.in-Err.fault c.in-Err.ensures.stopped)

pub returns-in-Err-clause-damaged : goal.returns-in-Err-clause-damaged
returns-in-Err-clause-damaged g c =
    let d = g.D.SharedDisk.state c.args.disk.now in
    subst (λ f. IsTrue d.tells → (is : IsMounted (image_of d) c.args.mounted.now) → IfDamaged f (IsUnreadable (image_of d) is.layout)) (sym c.not_replayed.ensures)
    (stopped_tells c.stopped_images_have_no_replay.ensures d c.args.mounted.now c.in-Err.fault c.in-Err.ensures.stopped)

pub returns-in-Err-clause-cause : goal.returns-in-Err-clause-cause
returns-in-Err-clause-cause g c =
    let d = g.D.SharedDisk.state c.args.disk.now in
    subst (HasCause d.count (g.D.SharedDisk.faults c.args.disk.now) (g.D.SharedDisk.faults c.plan_replay.new.disk)) (sym c.not_replayed.ensures)
    (stopped_cause c.args.mounted.now.journals d.count (g.D.SharedDisk.faults c.args.disk.now) (g.D.SharedDisk.faults c.plan_replay.new.disk) c.in-Err.fault c.in-Err.ensures.cause)

-- ---- the tree was read, or wasn't

pub returns-clause-stands : goal.returns-clause-stands
returns-clause-stands g c =
    gives_read (g.D.SharedDisk.state c.args.disk.now) (g.D.SharedDisk.state c.plan_replay.new.disk) c.in-Ok.ensures.reads.same c.args.mounted.now c.in-Ok.plans.items c.deref.result.now c.deref.ensures.value c.in-Ok.ensures.plans
    c.read_replayed_tree.result c.read_replayed_tree.ensures.stands

pub returns-clause-replayable : goal.returns-clause-replayable
returns-clause-replayable g c = can_be_replayed (g.D.SharedDisk.state c.args.disk.now) c.args.mounted.now c.in-Ok.plans.items c.in-Ok.ensures.plans c.read_replayed_tree.result

pub returns-clause-damaged : goal.returns-clause-damaged
returns-clause-damaged g c =
    tells_read (g.D.SharedDisk.state c.args.disk.now) (g.D.SharedDisk.state c.plan_replay.new.disk) c.in-Ok.ensures.reads.same c.args.mounted.now c.in-Ok.plans.items c.deref.result.now c.deref.ensures.value c.in-Ok.ensures.plans
    c.read_replayed_tree.result c.read_replayed_tree.ensures.damaged

pub returns-clause-cause : goal.returns-clause-cause
returns-clause-cause g c =
    read_cause (g.D.SharedDisk.state c.args.disk.now) (g.D.SharedDisk.state c.plan_replay.new.disk) (g.D.SharedDisk.faults c.args.disk.now) (g.D.SharedDisk.faults c.plan_replay.new.disk)
    (g.D.SharedDisk.faults c.read_replayed_tree.new.disk) c.read_replayed_tree.result c.in-Ok.ensures.reads.same c.in-Ok.ensures.reads.later c.read_replayed_tree.ensures.cause
