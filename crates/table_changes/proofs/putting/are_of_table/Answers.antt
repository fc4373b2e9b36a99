use Rattle.std.proofs.Common.{refl, sym, subst, arith}
use Rattle.table_changes.specs.Doubling.{IsOfTable}
use Rattle.table_changes.proofs.Committed.{contradict}
use Rattle.nested_drafts.proofs.Lists.{each_all, each_next}
use Rattle.table_changes.proofs.putting.are_of_table.Goals as goal

pub returns-then-not-is_of_table : goal.returns-then-not-is_of_table
returns-then-not-is_of_table c = (
  λ never. absurd (cc),
  λ all. contradict c.is_of_table.result (c.is_of_table.ensures.1 (all c.one-item.result (c.loop-one.one-index, c.loop-one-test.true, sym c.one-item.is))) c.if-not-is_of_table.true,
)

pub loop-one-preserved : goal.loop-one-preserved
loop-one-preserved c =
    each_next c.args.blocks.now c.loop-one.one-index c.one-item.result (λ w. IsOfTable c.args.directory c.args.below.now c.args.taken.now.items w.block) c.loop-one-test.true c.loop-one.invariant
    (subst (λ w. IsOfTable c.args.directory c.args.below.now c.args.taken.now.items w.block) c.one-item.is (c.is_of_table.ensures.0 c.if-not-is_of_table.false))

pub returns : goal.returns
returns c = (
  λ _. each_all c.args.blocks.now c.loop-one.one-index (λ w. IsOfTable c.args.directory c.args.below.now c.args.taken.now.items w.block) (omega (arith, c.loop-one-test.false)) c.loop-one.invariant,
  λ _. refl,
)
