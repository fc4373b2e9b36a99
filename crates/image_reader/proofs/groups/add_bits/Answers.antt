use Rattle.std.proofs.Common.{◌≡◌, ◌+◌, rules}
use Rattle.image_reader.proofs.GroupFaults.{lacks_bitmap_header}
use Rattle.image_reader.proofs.InodeFaults.{lacking}
use Rattle.image_reader.proofs.groups.add_bits.Goals as goal

pub returns-then-not-has_header-clause-damaged : goal.returns-then-not-has_header-clause-damaged
returns-then-not-has_header-clause-damaged c =
    let at : c.saturating_add-number.result ≡ c.args.group.now.address + c.args.k = search rules in
    lacks_bitmap_header c.args.image.now c.in-Some.block c.args.group.now c.args.k c.saturating_add-number.result _ c.damaged.ensures c.requires.fits c.requires.listed c.requires.some c.requires.within at
    c.in-Some.ensures.some.0 c.in-Some.ensures.some.1 (lacking _ _ c.if-not-has_header.true c.has_header.ensures)
