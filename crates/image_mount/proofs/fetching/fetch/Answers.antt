use Rattle.std.proofs.Common.{◌≡◌, ◌<◌, ◌∙◌, sym, ap, subst, length, arith}
use Rattle.image_mount.specs.Refusals.{HasRisen}
use Rattle.image_mount.proofs.Marked.{grown_kept}
use Rattle.image_mount.proofs.Heads.{device_told}
use Rattle.image_mount.proofs.Marks.{searched_more, wanted_reached}
use Rattle.image_mount.proofs.Stops.{handed, refused}
use Rattle.image_mount.proofs.Working.{not_kept, working_more, refilled}
use Rattle.image_mount.proofs.fetching.fetch.Goals as goal

pub returns-in_err-check_readable-clause-risen : goal.returns-in_err-check_readable-clause-risen
returns-in_err-check_readable-clause-risen g c =
    handed _ (λ f. f ≡ c.in_err-check_readable.field-0.0) (HasRisen (g.D.SharedDisk.faults c.args.disk.now) (g.D.SharedDisk.faults c.args.disk.now)) c.from_residual.ensures.1
    (λ f e. subst (HasRisen (g.D.SharedDisk.faults c.args.disk.now) (g.D.SharedDisk.faults c.args.disk.now)) (sym e) (c.in_err-check_readable.ensures.steady (g.D.SharedDisk.faults c.args.disk.now) (g.D.SharedDisk.faults c.args.disk.now)))

pub keep-requires-clause-new : goal.keep-requires-clause-new
keep-requires-clause-new g c =
    let low : c.args.block < length c.args.table.now.entries = omega (arith, c.in_ok-check_readable.ensures.inside, c.blocks-2.ensures.value, c.requires.work.count) in
    not_kept c.args.table.now.entries c.args.block low c.requires.new

pub returns-clause-work : goal.returns-clause-work
returns-clause-work g c =
    let low : c.args.block < length c.args.table.now.entries = omega (arith, c.in_ok-check_readable.ensures.inside, c.blocks-2.ensures.value, c.requires.work.count) in
    working_more (g.D.SharedDisk.state c.args.disk.now) _ c.args.table.now _ c.args.block _ c.in_ok-read_into.ensures.reads.same c.requires.work (not_kept c.args.table.now.entries c.args.block low c.requires.new)
    c.keep.ensures.kept c.keep.ensures.size (λ tells. refilled c.read_into.new.into c.in_ok-bytes.bytes.items c.in_ok-bytes.bytes.len c.in_ok-bytes.bytes.ok.0 (c.read_into.auto.into ∙ ap length c.deref_mut.ensures.value) ∙ c.in_ok-read_into.ensures.bytes tells)

pub returns-in_err-check_readable-clause-refused : goal.returns-in_err-check_readable-clause-refused
returns-in_err-check_readable-clause-refused g c done d n im shows wanted known =
    refused im _ _ c.from_residual.ensures.1
    (c.in_err-check_readable.ensures.refused im done d n (c.requires.work.size ∙ sym shows.size) (c.blocks-2.ensures.value ∙ sym shows.count) wanted known)

pub returns-clause-searched : goal.returns-clause-searched
returns-clause-searched g c im done d n wanted known =
    let low : c.args.block < length c.args.table.now.entries = omega (arith, c.in_ok-check_readable.ensures.inside, c.blocks-2.ensures.value, c.requires.work.count) in
    searched_more im done d n c.args.table.now _ c.args.block c.args.from _ (not_kept c.args.table.now.entries c.args.block low c.requires.new) c.keep.ensures.kept c.keep.ensures.places c.keep.ensures.leaves wanted known

pub returns-clause-grown : goal.returns-clause-grown
returns-clause-grown g c =
    let low : c.args.block < length c.args.table.now.entries = omega (arith, c.in_ok-check_readable.ensures.inside, c.blocks-2.ensures.value, c.requires.work.count) in
    grown_kept c.args.table.now c.keep.new.self c.args.block _ (not_kept c.args.table.now.entries c.args.block low c.requires.new) c.keep.ensures.kept c.keep.ensures.places c.keep.ensures.leaves c.in_ok-check_readable.ensures.unmarked

pub returns-in_err-read_into-clause-refused : goal.returns-in_err-read_into-clause-refused
returns-in_err-read_into-clause-refused g c done d n im shows wanted known =
    refused im _ _ c.from_residual-in_err-read_into.ensures.1
    (device_told im c.in_err-read_into.field-0.0 c.args.block c.in_err-read_into.ensures.failed
    (wanted_reached im c.args.block c.args.from wanted (omega (arith, c.in_ok-check_readable.ensures.inside, c.blocks-2.ensures.value, shows.count))))
