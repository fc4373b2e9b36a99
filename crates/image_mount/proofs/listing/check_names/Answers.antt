use Rattle.std.proofs.Common.{arith}
use Rattle.image_mount.specs.Listing.{HasItsOwnName}
use Rattle.image_mount.proofs.Sound.{all_more, all_taken}
use Rattle.image_mount.proofs.Stops.{refused}
use Rattle.image_mount.proofs.listing.check_names.Goals as goal

pub returns-in_err-check_name-clause-refused : goal.returns-in_err-check_name-clause-refused
returns-in_err-check_name-clause-refused c im a format low all = refused im _ _ c.from_residual.ensures.1 (c.in_err-check_name.ensures.refused im a format low (all c.loop-record.record-index _ (omega (arith, c.loop-record-test.true))))

pub loop-record-preserved : goal.loop-record-preserved
loop-record-preserved c = all_more HasItsOwnName c.args.records.now c.loop-record.record-index _ (omega (arith, c.loop-record-test.true)) c.loop-record.invariant c.in_ok-check_name.ensures.named

pub returns-clause-named : goal.returns-clause-named
returns-clause-named c = all_taken HasItsOwnName c.args.records.now c.loop-record.record-index (omega (arith, c.loop-record-test.false)) c.loop-record.invariant
