use Rattle.std.proofs.Common.{arith}
use Rattle.std.proofs.lemmas.Result.{on_ok_weaker}
use Rattle.image_reader.proofs.Fitting.{fits_stuffed, fits_pointed}
use Rattle.image_reader.proofs.InodeFaults.{height_too_high}
use Rattle.image_reader.proofs.inode.Inode.check_fits.Goals as goal

pub returns-then-self-gt10-clause-damaged : goal.returns-then-self-gt10-clause-damaged
returns-then-self-gt10-clause-damaged c = height_too_high c.args.self.now _ c.damaged.ensures c.requires c.if-self-gt10.true

pub returns-then-self-eq0-clause-fits : goal.returns-then-self-eq0-clause-fits
returns-then-self-eq0-clause-fits c = on_ok_weaker c.check_stuffed.result (fits_stuffed c.args.self.now c.if-self-eq0.true) c.check_stuffed.ensures.fits

pub returns-clause-fits : goal.returns-clause-fits
returns-clause-fits c =
    on_ok_weaker c.check_pointed.result (fits_pointed c.args.self.now _ c.if-self-gt10.false (omega (arith, c.if-self-eq0.false))) c.check_pointed.ensures.under
