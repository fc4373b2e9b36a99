use Rattle.std.proofs.Common.{refl, sym, subst, arith}
use Rattle.nested_drafts.proofs.Lists.{each_all, each_next}
use Rattle.hash_inserts.specs.Inserting.{MayChange}
use Rattle.hash_inserts.proofs.Results.{contradict}
use Rattle.hash_inserts.proofs.committing.are_inside.Goals as goal

pub returns-then-not-may_change : goal.returns-then-not-may_change
returns-then-not-may_change g c = (
  λ never. absurd (cc),
  λ all. contradict c.may_change.result (c.may_change.ensures.1 (all c.one-item.result (c.loop-one.one-index, c.loop-one-test.true, sym c.one-item.is))) c.if-not-may_change.true,
)

pub loop-one-preserved : goal.loop-one-preserved
loop-one-preserved g c =
    each_next c.args.blocks.now c.loop-one.one-index c.one-item.result (λ w. MayChange (g.V.View.seen c.args.view.now) c.args.dir c.args.taken.now w.block) c.loop-one-test.true c.loop-one.invariant
    (subst (λ w. MayChange (g.V.View.seen c.args.view.now) c.args.dir c.args.taken.now w.block) c.one-item.is (c.may_change.ensures.0 c.if-not-may_change.false))

pub returns : goal.returns
returns g c = (
  λ _. each_all c.args.blocks.now c.loop-one.one-index (λ w. MayChange (g.V.View.seen c.args.view.now) c.args.dir c.args.taken.now w.block) (omega (arith, c.loop-one-test.false)) c.loop-one.invariant,
  λ _. refl,
)
