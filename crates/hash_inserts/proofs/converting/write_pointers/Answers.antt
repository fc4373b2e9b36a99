use Rattle.std.proofs.Common.{◌≡◌, ◌-◌, ◌*◌, length, drop, replicate, refl, ap, ◌∙◌, subst, rules, arith}
use Rattle.hash_inserts.proofs.FirstTable.{one_pointer_more}
use Rattle.hash_inserts.proofs.converting.write_pointers.Goals as goal

pub loop-k-init : goal.loop-k-init
loop-k-init c =
    let zeros : c.fill.new.self ≡ replicate (length c.args.area.now) 0 = search rules in
    let long : length c.fill.new.self ≡ length c.args.area.now = c.fill.auto.self in
    record {
      long = refl;
      pointers = λ i low. absurd (omega (arith, low));
      clear = zeros ∙ ap (λ n. replicate n 0) (omega (arith, long));
    }

pub loop-k-preserved : goal.loop-k-preserved
loop-k-preserved c = one_pointer_more c.loop-k.area c.put_number.new.bytes _ c.loop-k.k c.args.leaf c.loop-k.invariant (omega (arith, c.requires, c.loop-k-test.true, c.fill.auto.self)) c.put_number.ensures.width c.put_number.ensures.bytes

pub returns-clause-pointers : goal.returns-clause-pointers
returns-clause-pointers c = λ i low. c.loop-k.invariant.pointers i (omega (arith, low, c.loop-k-test.false))

pub returns-clause-clear : goal.returns-clause-clear
returns-clause-clear c =
    let all : c.loop-k.k ≡ c.args.count = omega (arith, c.loop-k-test.false, c.loop-k.auto.k-end) in
    let k = c.loop-k.k in
    let area = c.loop-k.area in
    subst (λ n. drop (8 * n) area ≡ replicate (length c.args.area.now - 8 * n) 0) all (subst (λ n. drop (8 * k) area ≡ replicate (n - 8 * k) 0) c.fill.auto.self c.loop-k.invariant.clear)
