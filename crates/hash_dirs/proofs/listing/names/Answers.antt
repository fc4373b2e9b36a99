use Rattle.std.proofs.Common.{◌≡◌, ◌+◌, ◌-◌, ◌*◌, ◌/◌, ◌<◌, ◌≤◌, ◌^◌, refl, sym, ap, ◌∙◌, subst, arith}
use Rattle.gfs2_layout.specs.Inode.{depth_in, table_count}
use Rattle.glock_names.specs.Steps.{TellsOf}
use Rattle.glock_names.proofs.StepLaws.{answer_at, needed_at}
use Rattle.linear_dirs.proofs.Looked.{handed}
use Rattle.hash_dirs.specs.Broken.{IsWrongIn}
use Rattle.hash_dirs.specs.Shown.{of_table}
use Rattle.hash_dirs.specs.Walking.{IsListed}
use Rattle.hash_dirs.proofs.Leaves.{wrong_tells, damage_of, head_of, needed_within}
use Rattle.hash_dirs.proofs.Listed.{tells}
use Rattle.hash_dirs.proofs.Passed.{listed_all, listed_next, listed_none}
use Rattle.hash_dirs.proofs.listing.names.Goals as goal

pub loop-index-init : goal.loop-index-init
loop-index-init g c = record {
  within = omega arith;
  listed = λ h shown shows sound. subst (λ ns. IsListed h ns 0) (sym c.new-names.ensures.items) (listed_none h sound shown.hashed);
}

pub returns-in_err-head-clause-damaged : goal.returns-in_err-head-clause-damaged
returns-in_err-head-clause-damaged g c h shown shows =
    handed c.from_residual.result _ (TellsOf (IsWrongIn (g.V.View.seen c.args.view.now) h)) c.from_residual.ensures.1 (wrong_tells (g.V.View.seen c.args.view.now) h c.in_err-head.field-0.0 (tells h c.in_err-head.field-0.0 (damage_of h c.in_err-head.field-0.0 (c.in_err-head.ensures.damaged h shows))))

pub returns-in-NeedBlock-clause-needed : goal.returns-in-NeedBlock-clause-needed
returns-in-NeedBlock-clause-needed g c h shown shows =
    let deep : c.depth-depth.result ≡ depth_in h = c.depth-depth.ensures.value ∙ g.met.T.PointerTable.deep_in c.args.table.now (g.V.View.seen c.args.view.now) h shows in
    of_table c.loop-index.index (subst (λ n. c.loop-index.index < n) (c.pointers_in-count.ensures ∙ ap (λ n. 2 ^ n) deep) c.loop-index-test.true) (needed_at _ _ _ c.in-NeedBlock.is (c.in_ok-head.ensures.needed h shows))

pub returns-in-NeedBlock-2-clause-needed : goal.returns-in-NeedBlock-2-clause-needed
returns-in-NeedBlock-2-clause-needed g c h shown shows =
    let deep : c.depth-depth.result ≡ depth_in h = c.depth-depth.ensures.value ∙ g.met.T.PointerTable.deep_in c.args.table.now (g.V.View.seen c.args.view.now) h shows in
    let low : c.loop-index.index < table_count h = subst (λ n. c.loop-index.index < n) (c.pointers_in-count.ensures ∙ ap (λ n. 2 ^ n) deep) c.loop-index-test.true in
    let head = head_of h c.loop-index.index c.loop-index.index c.in-Is.head refl low (answer_at _ _ _ c.in-Is.is (c.in_ok-head.ensures.found h shows)) in
    needed_within (g.V.View.seen c.args.view.now) h c.loop-index.index (λ i. i < table_count h) c.in-NeedBlock-2.missing low (needed_at _ _ _ c.in-NeedBlock-2.is (c.in_ok-deep.ensures.needed h c.loop-index.index shown head))

pub loop-index-preserved : goal.loop-index-preserved
loop-index-preserved g c = record {
  within = omega (arith, c.behind_run-index.ensures.within, c.pointers_in-count.ensures);
  listed = λ h shown shows sound.
      let deep : c.depth-depth.result ≡ depth_in h = c.depth-depth.ensures.value ∙ g.met.T.PointerTable.deep_in c.args.table.now (g.V.View.seen c.args.view.now) h shows in
      let low : c.loop-index.index < table_count h = subst (λ n. c.loop-index.index < n) (c.pointers_in-count.ensures ∙ ap (λ n. 2 ^ n) deep) c.loop-index-test.true in
      let head = head_of h c.loop-index.index c.loop-index.index c.in-Is.head refl low (answer_at _ _ _ c.in-Is.is (c.in_ok-head.ensures.found h shows)) in
      let more = answer_at _ _ _ c.in-Is-2.is (c.in_ok-deep.ensures.listed h c.loop-index.index shown head) in
      subst (IsListed h c.add_chain.new.names.items) (sym (c.behind_run-index.ensures.value ∙ ap (λ n. (c.loop-index.index / 2 ^ (n - c.in-Is-2.deep) + 1) * 2 ^ (n - c.in-Is-2.deep)) deep))
      (listed_next h sound shown.hashed c.loop-index.names.items c.add_chain.new.names.items c.loop-index.index c.in-Is-2.deep (c.loop-index.invariant.listed h shown shows sound) more);
}

pub returns-clause-found : goal.returns-clause-found
returns-clause-found g c h shown shows sound =
    let deep : c.depth-depth.result ≡ depth_in h = c.depth-depth.ensures.value ∙ g.met.T.PointerTable.deep_in c.args.table.now (g.V.View.seen c.args.view.now) h shows in
    let within : c.loop-index.index ≤ c.pointers_in-count.result = c.loop-index.invariant.within in
    let end : c.loop-index.index ≡ c.pointers_in-count.result = omega (arith, within, c.loop-index-test.false) in
    listed_all h sound shown.hashed c.loop-index.names.items c.loop-index.index (c.loop-index.invariant.listed h shown shows sound) (end ∙ c.pointers_in-count.ensures ∙ ap (λ n. 2 ^ n) deep)
