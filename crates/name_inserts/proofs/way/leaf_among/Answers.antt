use Rattle.std.specs.Prelude.{Contains}
use Rattle.std.proofs.Common.{◌∙◌, ◌<◌, ◌∷◌, true≢false, refl, sym, ap, arith}
use Rattle.gfs2_layout.specs.declared.leaf.Leaf.{Leaf}
use Rattle.glock_names.proofs.StepLaws.{answer_at, needed_at}
use Rattle.hash_inserts.specs.ChainWalking.{IsLeafOf, OfEach}
use Rattle.hash_inserts.proofs.Along.{begins, comes_again_to, goes_on}
use Rattle.hash_inserts.proofs.ChainLeaves.{bytes_there, told, wrong_of}
use Rattle.name_inserts.proofs.OnWay.{breaks_leaf, right_all, right_leaf, right_more}
use Rattle.name_inserts.proofs.way.leaf_among.Goals as goal

pub loop-place-init : goal.loop-place-init
loop-place-init g c = record {
  along = begins (g.V.View.seen c.args.view.now) c.args.dir c.args.head.now c.requires.from;
  right = λ h i shown is deep earlier x before chain. absurd (let none : earlier < 0 = before in omega (arith, none));
}

pub returns-in-NeedBlock-clause-needed : goal.returns-in-NeedBlock-clause-needed
returns-in-NeedBlock-clause-needed g c h i shown is = needed_at _ _ _ c.in-NeedBlock.is (c.in_ok-leaf.ensures.needed h i shown (c.loop-place.invariant.along.at h i shown is).leads)

pub returns-in-Some-broken_rule-clause-damaged : goal.returns-in-Some-broken_rule-clause-damaged
returns-in-Some-broken_rule-clause-damaged g c h i shown is deep =
    let v = g.V.View.seen c.args.view.now in
    let link = c.loop-place.link in
    let leads = (c.loop-place.invariant.along.at h i shown is).leads in
    let small = answer_at _ _ _ c.in-Is.is c.in_ok-leaf.ensures.small in
    wrong_of v h c.damaged.result (told h c.damaged.result link.leaf c.in-Some-broken_rule.rule c.damaged.ensures
    (breaks_leaf h i link.from link.leaf c.in-Some-broken_rule.rule c.in-Some.bytes.now leads small.0 (bytes_there v c.args.dir h i link.from link.leaf c.in-Some.bytes.now shown leads small.0 c.in-Some.ensures.some) c.in-Some-broken_rule.ensures.some))

pub returns-then-is_one_of-clause-some : goal.returns-then-is_one_of-clause-some
returns-then-is_one_of-clause-some g c h i shown is = (c.if-is_one_of.ensures.0 refl, (c.loop-place._place, (c.loop-place.invariant.along.at h i shown is).chain (answer_at _ _ _ c.in-Is.is c.in_ok-leaf.ensures.small).0))

pub returns-then-leaf-eq0-clause-none : goal.returns-then-leaf-eq0-clause-none
returns-then-leaf-eq0-clause-none g c h i shown is deep =
    let v = g.V.View.seen c.args.view.now in
    let link = c.loop-place.link in
    let blocks = c.args.first ∷ c.args.rest.now in
    let at = c.loop-place.invariant.along.at h i shown is in
    let small = answer_at _ _ _ c.in-Is.is c.in_ok-leaf.ensures.small in
    let leaf = answer_at _ _ _ c.in-Is.is (c.in_ok-leaf.ensures.read h i shown at.leads) in
    let right = right_leaf v c.args.dir h i link.from link.leaf c.args.depth c.in-Is.leaf c.in-Some.bytes.now shown at.leads small.0 c.in-Some.ensures.some (answer_at _ _ _ c.in-Is.is c.in_ok-leaf.ensures.inside) c.in_default-broken_rule.ensures.none leaf deep
    (answer_at _ _ _ c.in-Is.is c.in_ok-leaf.ensures.low) in
    let apart : Contains blocks link.leaf → ⊥ = λ has. true≢false (sym (c.is_one_of.ensures.1 has) ∙ c.if-is_one_of.false) in
    right_all v h i c.loop-place._place link.leaf blocks (at.chain small.0) (ap (λ (l : Leaf). l.next) (sym leaf.head) ∙ c.if-leaf-eq0.true)
    (right_more v h i c.loop-place._place link.leaf blocks (at.chain small.0) right apart (c.loop-place.invariant.right h i shown is deep))

pub loop-place-preserved : goal.loop-place-preserved
loop-place-preserved g c =
    let v = g.V.View.seen c.args.view.now in
    let link = c.loop-place.link in
    let blocks = c.args.first ∷ c.args.rest.now in
    let small = answer_at _ _ _ c.in-Is.is c.in_ok-leaf.ensures.small in
    let leaf : OfEach v c.args.dir c.args.head.now (λ h i. IsLeafOf h c.loop-place.link.leaf c.in-Is.leaf) = λ h i shown is. answer_at _ _ (IsLeafOf h c.loop-place.link.leaf) c.in-Is.is (c.in_ok-leaf.ensures.read h i shown (c.loop-place.invariant.along.at h i shown is).leads) in
    let apart : Contains blocks link.leaf → ⊥ = λ has. true≢false (sym (c.is_one_of.ensures.1 has) ∙ c.if-is_one_of.false) in
    record {
      along = goes_on v c.args.dir c.args.head.now c.loop-place._place link _ c.in-Is.leaf c.loop-place.invariant.along leaf small (answer_at _ _ _ c.in-Is.is c.in_ok-leaf.ensures.there) c.if-leaf-eq0.false refl;
      right = λ h i shown is deep.
          let at = c.loop-place.invariant.along.at h i shown is in
          right_more v h i c.loop-place._place link.leaf blocks (at.chain small.0)
          (right_leaf v c.args.dir h i link.from link.leaf c.args.depth c.in-Is.leaf c.in-Some.bytes.now shown at.leads small.0 c.in-Some.ensures.some (answer_at _ _ _ c.in-Is.is c.in_ok-leaf.ensures.inside) c.in_default-broken_rule.ensures.none (leaf h i shown is) deep
          (answer_at _ _ _ c.in-Is.is c.in_ok-leaf.ensures.low))
          apart (c.loop-place.invariant.right h i shown is deep);
    }

pub returns-clause-damaged : goal.returns-clause-damaged
returns-clause-damaged g c h i shown is depth =
    let v = g.V.View.seen c.args.view.now in
    wrong_of v h c.damaged-2.result (told h c.damaged-2.result c.loop-place.link.from 15 c.damaged-2.ensures (comes_again_to v c.args.dir c.args.head.now c.loop-place._place c.loop-place.link (omega arith) c.loop-place.invariant.along h i shown is))
