use Rattle.std.proofs.Common.{arith}
use Rattle.image_mount.proofs.Twice.{apart_more, apart_all, differ}
use Rattle.image_mount.proofs.listing.find.Goals as goal

pub loop-record-preserved : goal.loop-record-preserved
loop-record-preserved c = apart_more c.args.records.now c.args.name.now c.loop-record.record-index _ c.loop-record.invariant (differ _ _ c.if-eq.ensures)

pub returns-clause-none : goal.returns-clause-none
returns-clause-none c = apart_all c.args.records.now c.args.name.now c.loop-record.record-index (omega (arith, c.loop-record-test.false)) c.loop-record.invariant
