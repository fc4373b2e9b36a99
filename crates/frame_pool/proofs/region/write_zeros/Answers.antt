use Rattle.std.proofs.Common.{◌≡◌, ◌+◌, ◌-◌, suc, Some, None, set, get_or, length, ap, sym, ◌∙◌, arith, append-nil, replicate, map}
use Rattle.frame_pool.proofs.Regions.{zeroed, length-zeroed, zeroed-none, zeroed-set}
use Rattle.frame_pool.proofs.region.write_zeros.Goals as goal

pub write-requires : goal.write-requires
write-requires c =
    let inv = c.loop-index.invariant in let i = c.loop-index.index in let left = c.args.len - (i + 1) in
    let one : c.args.len - i ≡ suc left = omega (arith, c.loop-index-test.true) in
    let is = inv.1 ∙ ap (zeroed i) one in
    (c.requires.0 ∙ sym inv.0, omega (arith, ap length is, length-zeroed i (suc left)), ap (λ l. get_or l i None) is ∙ zeroed-none i left)

pub loop-index-preserved : goal.loop-index-preserved
loop-index-preserved c =
    let inv = c.loop-index.invariant in let i = c.loop-index.index in let left = c.args.len - (i + 1) in
    let one : c.args.len - i ≡ suc left = omega (arith, c.loop-index-test.true) in
    let next : suc i ≡ i + 1 = omega arith in
    (c.write.ensures.0 ∙ inv.0, c.write.ensures.1 ∙ ap (λ l. set l i (Some 0)) (inv.1 ∙ ap (zeroed i) one) ∙ zeroed-set i left ∙ ap (λ k. zeroed k left) next)

pub returns : goal.returns
returns c =
    let inv = c.loop-index.invariant in
    let none : c.args.len - c.loop-index.index ≡ 0 = omega (arith, c.loop-index-test.false) in
    let all : c.loop-index.index ≡ c.args.len = omega (arith, c.loop-index-test.false, c.loop-index.auto.index-end) in
    (inv.0, inv.1 ∙ ap (zeroed c.loop-index.index) none ∙ append-nil (map Some (replicate c.loop-index.index 0)) ∙ (λ i. map Some (replicate (all i) 0)))
