use Rattle.image_mount.proofs.Grouping.{long_groups}
use Rattle.image_mount.proofs.Stops.{refused}
use Rattle.image_mount.proofs.groups.check_groups.Goals as goal

pub returns-in_err-check_cover-clause-refused : goal.returns-in_err-check_cover-clause-refused
returns-in_err-check_cover-clause-refused c im is some = refused im _ _ c.from_residual-in_err-check_cover.ensures.1 (c.in_err-check_cover.ensures.refused im c.args.list is (c.in_ok-check_rise.ensures.rise im is) some c.requires)

pub returns-then-headers-gt128-clause-refused : goal.returns-then-headers-gt128-clause-refused
returns-then-headers-gt128-clause-refused c im is some =
    long_groups im _ _ _ _ _ c.args.groups.now c.outside.ensures is c.count_headers-headers.ensures some c.requires (c.in_ok-check_cover.ensures.fit im c.args.list is (c.in_ok-check_rise.ensures.rise im is)) c.if-headers-gt128.true

pub returns-clause-fit : goal.returns-clause-fit
returns-clause-fit c im is = c.in_ok-check_cover.ensures.fit im c.args.list is (c.in_ok-check_rise.ensures.rise im is)
