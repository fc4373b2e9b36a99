use Rattle.std.proofs.Common.{◌≡◌}
use Rattle.gfs2_layout.specs.Bytes.{put_at}
use Rattle.mkgfs2_tool.proofs.PointerLaws.{table_part}
use Rattle.mkgfs2_tool.proofs.plan.Plan.put_table.Given as goal

abbrev pub invariant-loop-n : goal.invariant-loop-n
invariant-loop-n l = l.block ≡ put_at 232 (table_part l.self l.n) l.initial.block
