use Rattle.std.proofs.Common.{◌+◌, ◌*◌}
use Rattle.std.specs.Prelude.{◌==◌}
use Rattle.gfs2_layout.specs.Bytes.{u64_at}
use Rattle.log_layout.specs.declared.due.Due.TheVariants as variant
use Rattle.journal_scan.proofs.Grown.{grown}
use Rattle.journal_scan.proofs.chunks.push_content.Goals as goal

pub loop-i-preserved : goal.loop-i-preserved
loop-i-preserved c =
    grown (λ i. variant.Content (u64_at (72 + 16 * i) c.args.block.now) (u64_at (80 + 16 * i) c.args.block.now == 1)) c.loop-i.i c.args.due.now.items c.loop-i.due.items c.push_back.new.self.items
    (variant.Content c.u64_at.result (c.u64_at-in-loop-i.result == 1)) c.loop-i.invariant c.in_ok-push_back.ensures.items (λ t. variant.Content (c.u64_at.ensures t) (c.u64_at-in-loop-i.ensures t == 1))
