use Rattle.std.proofs.Common.{◌≡◌, ◌<◌, ◌≤◌, ◌+◌, ◌*◌, sym, subst, arith}
use Rattle.std.specs.Prelude.{nat_le}
use Rattle.gfs2_layout.specs.Bytes.{u64_at}
use Rattle.journal_scan.proofs.Grown.{all_stops, all_more, not_one, one_at_most}
use Rattle.journal_scan.proofs.chunks.are_escapes.Goals as goal

pub returns-then-u64_at-gt1 : goal.returns-then-u64_at-gt1
returns-then-u64_at-gt1 c =
    let i = c.loop-i.i in
    let z : 0 + c.loop-i.i ≡ c.loop-i.i = omega arith in
    let high : 1 < u64_at (80 + 16 * c.loop-i.i) c.args.block.now = subst (λ n. 1 < n) c.u64_at.ensures c.if-u64_at-gt1.true in
    sym (all_stops (λ escape. nat_le escape 1) (λ n. u64_at (80 + 16 * n) c.args.block.now) 0 c.args.entries c.loop-i.i c.loop-i.i (omega (arith, c.loop-i-test.true)) z (not_one _ high))

pub loop-i-preserved : goal.loop-i-preserved
loop-i-preserved c =
    let low : u64_at (80 + 16 * c.loop-i.i) c.args.block.now ≤ 1 = subst (λ n. n ≤ 1) c.u64_at.ensures c.if-u64_at-gt1.false in
    all_more (λ escape. nat_le escape 1) (λ n. u64_at (80 + 16 * n) c.args.block.now) c.loop-i.i c.loop-i.invariant (one_at_most _ low)
