use Rattle.std.proofs.Common.{◌≡◌, ◌+◌, ◌<◌, ◌^◌, ◌++◌, inl, inr, ℕ, List, refl, sym, ap, ◌∙◌, subst, arith}
use Rattle.std.specs.Prelude.{Contains}
use Rattle.growth_drafts.specs.Taken.{IsDistinct}
use Rattle.gfs2_layout.specs.Inode.{depth_in, table_count}
use Rattle.glock_names.proofs.StepLaws.{answer_at, needed_at}
use Rattle.glock_names.specs.Steps.{TellsOf}
use Rattle.linear_dirs.proofs.Looked.{handed}
use Rattle.hash_dirs.specs.Broken.{IsWrongIn}
use Rattle.hash_dirs.specs.Leaves.{AreLeavesBefore, AreNew, AreNewIn}
use Rattle.hash_dirs.specs.Shown.{of_table}
use Rattle.hash_dirs.proofs.Gathered.{all_leaves, chain_more, distinct_both, in_one, none_before, none_in}
use Rattle.hash_dirs.proofs.Leaves.{damage_of, head_of, needed_within, wrong_tells}
use Rattle.hash_dirs.proofs.Listed.{tells}
use Rattle.hash_dirs.proofs.gathering.all_leaves.Goals as goal

pub loop-index-init : goal.loop-index-init
loop-index-init g c = record {
  listed = λ h shown shows. subst (AreLeavesBefore h 0) (sym c.new-leaves.ensures.items) (none_before h);
  once = subst IsDistinct (sym c.new-leaves.ensures.items) tt;
  read = λ x has. absurd (none_in x (subst (λ (xs : List ℕ). Contains xs x) c.new-leaves.ensures.items has));
}

pub returns-in_err-head-clause-damaged : goal.returns-in_err-head-clause-damaged
returns-in_err-head-clause-damaged g c h shown shows =
    handed c.from_residual.result _ (TellsOf (IsWrongIn (g.V.View.seen c.args.view.now) h)) c.from_residual.ensures.1 (wrong_tells (g.V.View.seen c.args.view.now) h c.in_err-head.field-0.0 (tells h c.in_err-head.field-0.0 (damage_of h c.in_err-head.field-0.0 (c.in_err-head.ensures.damaged h shows))))

pub returns-in-NeedBlock-clause-needed : goal.returns-in-NeedBlock-clause-needed
returns-in-NeedBlock-clause-needed g c h shown shows =
    let deep : c.depth-depth.result ≡ depth_in h = c.depth-depth.ensures.value ∙ g.met.T.PointerTable.deep_in c.args.table.now (g.V.View.seen c.args.view.now) h shows in
    of_table c.loop-index.index (subst (λ n. c.loop-index.index < n) (c.pointers_in-count.ensures ∙ ap (λ n. 2 ^ n) deep) c.loop-index-test.true) (needed_at _ _ _ c.in-NeedBlock.is (c.in_ok-head.ensures.needed h shows))

pub returns-in-NeedBlock-2-clause-needed : goal.returns-in-NeedBlock-2-clause-needed
returns-in-NeedBlock-2-clause-needed g c h shown shows =
    let deep : c.depth-depth.result ≡ depth_in h = c.depth-depth.ensures.value ∙ g.met.T.PointerTable.deep_in c.args.table.now (g.V.View.seen c.args.view.now) h shows in
    let low : c.loop-index.index < table_count h = subst (λ n. c.loop-index.index < n) (c.pointers_in-count.ensures ∙ ap (λ n. 2 ^ n) deep) c.loop-index-test.true in
    let head = head_of h c.loop-index.index c.loop-index.index c.in-Is.head refl low (answer_at _ _ _ c.in-Is.is (c.in_ok-head.ensures.found h shows)) in
    needed_within (g.V.View.seen c.args.view.now) h c.loop-index.index (λ i. i < table_count h) c.in-NeedBlock-2.missing low (needed_at _ _ _ c.in-NeedBlock-2.is (c.in_ok-chain.ensures.needed h c.loop-index.index shown head))

pub loop-index-preserved : goal.loop-index-preserved
loop-index-preserved g c =
    let v = g.V.View.seen c.args.view.now in
    let known = c.loop-index.leaves.items in
    let chain = c.in-Is-2.chain.items in
    let grown : c.extend_from_slice.new.self.items ≡ known ++ chain = c.in_ok-extend_from_slice.ensures.items ∙ ap (λ xs. known ++ xs) c.deref-in-loop-index.ensures.value in
    let new = subst (λ (ks : List ℕ). AreNew ks chain) c.deref.ensures.value (answer_at _ _ _ c.in-Is-2.is c.in_ok-chain.ensures.new) in
    record {
      listed = λ h shown shows.
          let deep : c.depth-depth.result ≡ depth_in h = c.depth-depth.ensures.value ∙ g.met.T.PointerTable.deep_in c.args.table.now v h shows in
          let low : c.loop-index.index < table_count h = subst (λ n. c.loop-index.index < n) (c.pointers_in-count.ensures ∙ ap (λ n. 2 ^ n) deep) c.loop-index-test.true in
          let head = head_of h c.loop-index.index c.loop-index.index c.in-Is.head refl low (answer_at _ _ _ c.in-Is.is (c.in_ok-head.ensures.found h shows)) in
          let more = subst (λ (ks : List ℕ). AreNewIn h c.loop-index.index ks chain) c.deref.ensures.value (answer_at _ _ _ c.in-Is-2.is (c.in_ok-chain.ensures.listed h c.loop-index.index shown head)) in
          subst (AreLeavesBefore h (c.loop-index.index + 1)) (sym grown) (chain_more h c.loop-index.index known chain (c.loop-index.invariant.listed h shown shows) more);
      once = subst IsDistinct (sym grown) (distinct_both known chain c.loop-index.invariant.once new.once new.apart);
      read = λ x has. elim (in_one known chain x (subst (λ (xs : List ℕ). Contains xs x) grown has)) [
        | inl at ↦ c.loop-index.invariant.read x at
        | inr at ↦ answer_at _ _ _ c.in-Is-2.is c.in_ok-chain.ensures.read x at
      ];
    }

pub returns-clause-found : goal.returns-clause-found
returns-clause-found g c h shown shows =
    let deep : c.depth-depth.result ≡ depth_in h = c.depth-depth.ensures.value ∙ g.met.T.PointerTable.deep_in c.args.table.now (g.V.View.seen c.args.view.now) h shows in
    let end : c.loop-index.index ≡ c.pointers_in-count.result = omega (arith, c.loop-index.auto.index-end, c.loop-index-test.false) in
    all_leaves h c.loop-index.index c.loop-index.leaves.items (end ∙ c.pointers_in-count.ensures ∙ ap (λ n. 2 ^ n) deep) (c.loop-index.invariant.listed h shown shows) c.loop-index.invariant.once
