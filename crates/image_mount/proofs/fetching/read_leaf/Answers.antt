use Rattle.std.proofs.Common.{◌≡◌, ◌∙◌, sym, subst, arith}
use Rattle.image_mount.specs.Marked.{of_kept}
use Rattle.image_mount.specs.Refusals.{HasRisen}
use Rattle.image_mount.proofs.Marked.{grown_leaf}
use Rattle.image_mount.proofs.Heads.{device_told}
use Rattle.image_mount.proofs.Marks.{searched_leaf, wanted_reached}
use Rattle.image_mount.proofs.Stops.{handed, refused}
use Rattle.image_mount.proofs.Working.{working_same}
use Rattle.image_mount.proofs.fetching.read_leaf.Goals as goal

pub returns-in_err-check_readable-clause-risen : goal.returns-in_err-check_readable-clause-risen
returns-in_err-check_readable-clause-risen g c =
    handed _ (λ f. f ≡ c.in_err-check_readable.field-0.0) (HasRisen (g.D.SharedDisk.faults c.args.disk.now) (g.D.SharedDisk.faults c.args.disk.now)) c.from_residual.ensures.1
    (λ f e. subst (HasRisen (g.D.SharedDisk.faults c.args.disk.now) (g.D.SharedDisk.faults c.args.disk.now)) (sym e) (c.in_err-check_readable.ensures.steady (g.D.SharedDisk.faults c.args.disk.now) (g.D.SharedDisk.faults c.args.disk.now)))

pub returns-in_err-check_readable-clause-refused : goal.returns-in_err-check_readable-clause-refused
returns-in_err-check_readable-clause-refused g c done d n im shows wanted known =
    refused im _ _ c.from_residual.ensures.1
    (c.in_err-check_readable.ensures.refused im done d n (c.requires.work.size ∙ sym shows.size) (c.blocks-2.ensures.value ∙ sym shows.count) wanted known)

pub returns-clause-work : goal.returns-clause-work
returns-clause-work g c = working_same (g.D.SharedDisk.state c.args.disk.now) _ c.args.table.now _ c.in_ok-read_into.ensures.reads.same c.requires.work c.mark_leaf.ensures.entries c.mark_leaf.ensures.size

pub returns-clause-searched : goal.returns-clause-searched
returns-clause-searched g c im done d n wanted known =
    searched_leaf im done d n c.args.table.now _ c.args.block c.args.from c.mark_leaf.ensures.leaves c.mark_leaf.ensures.entries c.mark_leaf.ensures.places wanted known

pub returns-clause-grown : goal.returns-clause-grown
returns-clause-grown g c = grown_leaf c.args.table.now c.mark_leaf.new.self c.args.block c.mark_leaf.ensures.entries c.mark_leaf.ensures.places c.mark_leaf.ensures.leaves c.in_ok-check_readable.ensures.unmarked

pub returns-in-Ok-clause-read : goal.returns-in-Ok-clause-read
returns-in-Ok-clause-read g c = of_kept c.in-Ok.bytes.now c.in-Ok.ensures.bytes

pub returns-in_err-read_into-clause-refused : goal.returns-in_err-read_into-clause-refused
returns-in_err-read_into-clause-refused g c done d n im shows wanted known =
    refused im _ _ c.from_residual-in_err-read_into.ensures.1
    (device_told im c.in_err-read_into.field-0.0 c.args.block c.in_err-read_into.ensures.failed
    (wanted_reached im c.args.block c.args.from wanted (omega (arith, c.in_ok-check_readable.ensures.inside, c.blocks-2.ensures.value, shows.count))))
