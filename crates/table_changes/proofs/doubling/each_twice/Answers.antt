use Rattle.std.proofs.Common.{◌≡◌, ◌+◌, ◌-◌, ◌*◌, ◌≤◌, length, take, drop, ap, arith}
use Rattle.table_changes.proofs.Lists.{twice_each, twice_long}
use Rattle.table_changes.proofs.doubling.each_twice.Goals as goal

pub loop-k-preserved : goal.loop-k-preserved
loop-k-preserved c =
    let k = c.loop-k.k in
    let bytes = c.args.bytes.now in
    let low : 8 * k + 8 ≤ length bytes = omega (arith, c.loop-k-test.true) in
    let few : 8 * k + 8 - 8 * k ≡ 8 = omega arith in
    let is = ap (λ n. take n (drop (8 * k) bytes)) few in
    let first = c.in_ok-extend_from_slice.ensures.items in
    let second = c.in_ok-extend_from_slice-2.ensures.items in
    record {
      long = twice_long bytes c.loop-k.twice.items _ _ _ k is low c.loop-k.invariant.long first second;
      each = twice_each bytes c.loop-k.twice.items _ _ _ k is low c.loop-k.invariant.long first second c.loop-k.invariant.each;
    }
