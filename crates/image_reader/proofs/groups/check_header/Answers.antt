use Rattle.std.proofs.Common.{sym, ◌∙◌}
use Rattle.image_reader.proofs.GroupFaults.{lacks_group_header, header_read, other_header}
use Rattle.image_reader.proofs.InodeFaults.{lacking}
use Rattle.image_reader.proofs.groups.check_header.Goals as goal

pub returns-then-not-has_header-clause-damaged : goal.returns-then-not-has_header-clause-damaged
returns-then-not-has_header-clause-damaged c =
    lacks_group_header c.args.image.now c.in-Some.block c.args.group.now _ c.damaged.ensures c.requires.fits c.requires.listed c.in-Some.ensures.some.0 c.in-Some.ensures.some.1
    (lacking _ _ c.if-not-has_header.true c.has_header.ensures)

pub returns-then-not-repeats-clause-damaged : goal.returns-then-not-repeats-clause-damaged
returns-then-not-repeats-clause-damaged c =
    let read = header_read c.args.image.now c.in-Some.block c.args.group.now c.in-Ok.header c.bytes.result.now c.requires.fits c.in-Some.ensures.some.0 c.in-Some.ensures.some.1 c.bytes.ensures.value (sym c.in-Ok.is ∙ c.read.ensures) in
    other_header _ c.args.group.now c.in-Ok.header _ c.damaged-then-not-repeats.ensures c.requires.fits c.requires.listed read (lacking _ _ c.if-not-repeats.true c.repeats.ensures)

pub returns-clause-header : goal.returns-clause-header
returns-clause-header c =
    header_read c.args.image.now c.in-Some.block c.args.group.now c.in-Ok.header c.bytes.result.now c.requires.fits c.in-Some.ensures.some.0 c.in-Some.ensures.some.1 c.bytes.ensures.value (sym c.in-Ok.is ∙ c.read.ensures)
