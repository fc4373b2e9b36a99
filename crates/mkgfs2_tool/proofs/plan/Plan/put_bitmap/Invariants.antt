use Rattle.std.proofs.Common.{◌≡◌, take}
use Rattle.mkgfs2_tool.specs.Blocks.{bitmap}
use Rattle.mkgfs2_tool.proofs.plan.Plan.put_bitmap.Given as goal

abbrev pub invariant-loop-n : goal.invariant-loop-n
invariant-loop-n l = take l.n l.bytes ≡ bitmap l.self l.group l.start l.n
