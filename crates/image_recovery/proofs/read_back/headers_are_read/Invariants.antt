use Rattle.std.proofs.Common.{take}
use Rattle.image_recovery.specs.Recoveries.{AreHeadersRead}
use Rattle.image_recovery.proofs.read_back.headers_are_read.Given as goal

abbrev pub invariant-loop-place : goal.invariant-loop-place
invariant-loop-place l = AreHeadersRead l.size 1 l.time (take l.place l.journals) (take l.place l.plans)
