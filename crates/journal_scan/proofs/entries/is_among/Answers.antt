use Rattle.std.proofs.Common.{◌≡◌, ◌+◌, ◌*◌, true, false, sym, arith}
use Rattle.std.specs.Prelude.{◌==◌}
use Rattle.std.proofs.lemmas.Bool.Decides.{nat_tests}
use Rattle.gfs2_layout.specs.Bytes.{u64_at}
use Rattle.journal_scan.proofs.Numbered.{any_stops, any_more}
use Rattle.journal_scan.proofs.entries.is_among.Goals as goal

pub returns-then-u64_at-number : goal.returns-then-u64_at-number
returns-then-u64_at-number c =
    let z : 0 + c.loop-i.i ≡ c.loop-i.i = omega arith in
    let is : (u64_at (72 + c.args.step * c.loop-i.i) c.args.block.now == c.args.number) ≡ true = grind (arith, nat_tests, c.u64_at.ensures, c.if-u64_at-number.true) in
    sym (any_stops (λ n. n == c.args.number) (λ i. u64_at (72 + c.args.step * i) c.args.block.now) 0 c.args.entries c.loop-i.i c.loop-i.i (omega (arith, c.loop-i-test.true)) z is)

pub loop-i-preserved : goal.loop-i-preserved
loop-i-preserved c =
    let not : (u64_at (72 + c.args.step * c.loop-i.i) c.args.block.now == c.args.number) ≡ false = grind (arith, nat_tests, c.u64_at.ensures, c.if-u64_at-number.false) in
    any_more (λ n. n == c.args.number) (λ i. u64_at (72 + c.args.step * i) c.args.block.now) c.loop-i.i c.loop-i.invariant not
