use Rattle.std.proofs.Common.{inl, refl, subst, ap, ◌∙◌, arith}
use Rattle.std.proofs.lemmas.List.{take_all}
use Rattle.drafts.specs.Fates.{seen_in}
use Rattle.table_changes.specs.Setting.{counted}
use Rattle.table_changes.proofs.RunSet.{IsSetKept, seen_still}
use Rattle.table_changes.proofs.Runs.{item_in, none_set_in, parts_more, run_more, same_view, seen_fits}
use Rattle.table_changes.proofs.setting.set_runs.Goals as goal

pub loop-run-init : goal.loop-run-init
loop-run-init g c = record {
  within = omega arith;
  view = refl;
  still = λ b has. has;
  so_far = λ h from table sound placed are few. none_set_in g.V.View.seen c.args.draft.now c.args.table h from c.args.leaf table;
  parts = λ b. inl refl;
}

pub put_pointers-requires-clause-there : goal.put_pointers-requires-clause-there
put_pointers-requires-clause-there g c = c.loop-run.invariant.still _ (c.requires.seen _ (item_in c.args.runs.now c.loop-run.run-index _ c.loop-run-test.true)).there

pub put_pointers-requires-clause-fits : goal.put_pointers-requires-clause-fits
put_pointers-requires-clause-fits g c =
    seen_fits (seen_in g.V.View.seen c.args.draft.now) (seen_in g.V.View.seen c.loop-run.draft) _ (c.requires.seen _ (item_in c.args.runs.now c.loop-run.run-index _ c.loop-run-test.true)) (ap (λ v. (g.V.View.seen v).size) c.loop-run.invariant.view)

pub loop-run-preserved : goal.loop-run-preserved
loop-run-preserved g c =
    let seen = c.requires.seen _ (item_in c.args.runs.now c.loop-run.run-index _ c.loop-run-test.true) in
    let has = c.loop-run.invariant.still _ seen.there in
    let put = c.in_ok-put_pointers.ensures.put has.0 has.1 in
    record {
      within = omega (arith, c.loop-run-test.true);
      view = same_view c.loop-run.draft c.put_pointers.new.draft _ put.2 ∙ c.loop-run.invariant.view;
      still = λ b there. seen_still g.V.View.seen c.loop-run.draft c.put_pointers.new.draft _ c.args.table.directory put.0 put.2 b (c.loop-run.invariant.still b there);
      so_far = λ h from table sound placed are few. run_more g.V.View.seen c.args.draft.now c.loop-run.draft c.put_pointers.new.draft c.args.table c.args.runs.now c.loop-run.run-index _ c.args.leaf has.0 put.0
          c.loop-run-test.true seen has.1 put.1 put.2 h from table sound placed are few (c.loop-run.invariant.so_far h from table sound placed are few);
      parts = parts_more g.V.View.seen c.args.draft.now c.loop-run.draft c.put_pointers.new.draft c.args.table c.args.runs.now c.loop-run.run-index _ c.args.leaf has.0 put.0
          c.loop-run-test.true seen has.1 put.1 put.2 c.loop-run.invariant.parts;
    }

pub returns-clause-set : goal.returns-clause-set
returns-clause-set g c h from table sound placed are few =
    let all = take_all c.loop-run.run-index c.args.runs.now (omega (arith, c.loop-run-test.false)) in
    (subst (λ xs. IsSetKept g.V.View.seen c.args.draft.now c.loop-run.draft c.args.table h from (counted xs) c.args.leaf) all (c.loop-run.invariant.so_far h from table sound placed are few)).0
