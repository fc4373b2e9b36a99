use Rattle.std.proofs.Common.{◌≡◌}
use Rattle.std.specs.List.{range_with_len}
use Rattle.gfs2_layout.specs.Bytes.{put_at}
use Rattle.mkgfs2_tool.specs.Blocks.{addresses}
use Rattle.mkgfs2_tool.proofs.plan.Plan.put_addresses.Given as goal

abbrev pub invariant-loop-n : goal.invariant-loop-n
invariant-loop-n l = l.block ≡ put_at l.at (addresses l.self l.place (range_with_len l.first l.n)) l.initial.block
