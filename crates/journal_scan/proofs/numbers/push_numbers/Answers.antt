use Rattle.std.proofs.Common.{◌+◌, ◌*◌}
use Rattle.gfs2_layout.specs.Bytes.{u64_at}
use Rattle.journal_scan.proofs.Grown.{grown}
use Rattle.journal_scan.proofs.numbers.push_numbers.Goals as goal

pub loop-i-preserved : goal.loop-i-preserved
loop-i-preserved c = grown (λ i. u64_at (c.args.at + 8 * i) c.args.block.now) c.loop-i.i c.args.into.now.items c.loop-i.into.items c.push.new.self.items c.u64_at.result c.loop-i.invariant c.in_ok-push.ensures.items c.u64_at.ensures
