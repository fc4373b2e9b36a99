use Rattle.std.proofs.Common.{◌≡◌, ℕ, ◌+◌, ◌*◌, ◌≤◌, length, List, sym, subst, arith}
use Rattle.table_changes.specs.Setting.{HasNumbersSet}
use Rattle.table_changes.proofs.Set.{none_set, one_more}
use Rattle.table_changes.proofs.numbers.set_numbers.Goals as goal

-- src/numbers.rt:33:5
pub loop-k-init : goal.loop-k-init
loop-k-init c = none_set c.args.bytes.now c.args.start c.args.number

-- src/numbers.rt:33:5
pub loop-k-preserved : goal.loop-k-preserved
loop-k-preserved c =
    let room : c.args.start + 8 * c.loop-k.k + 8 ≤ length c.args.bytes.now = omega (arith, c.requires, c.loop-k-test.true) in
    subst (λ (bytes : List ℕ). HasNumbersSet c.args.bytes.now bytes c.args.start (c.loop-k.k + 1) c.args.number) (sym c.put_number.ensures.bytes)
    (one_more c.args.bytes.now c.loop-k.bytes c.args.start c.loop-k.k c.args.number c.loop-k.invariant room c.put_number.ensures.width)

-- src/numbers.rt:29:1
pub returns : goal.returns
returns c =
    let all : c.loop-k.k ≡ c.args.count = omega (arith, c.loop-k-test.false, c.loop-k.auto.k-end) in
    subst (λ k. HasNumbersSet c.args.bytes.now c.loop-k.bytes c.args.start k c.args.number) all c.loop-k.invariant
