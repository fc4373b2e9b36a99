use Rattle.std.proofs.Common.{◌+◌, ◌-◌, ◌≤◌, sym, ap, ◌∙◌, subst, arith}
use Rattle.std.specs.Prelude.{Contains}
use Rattle.glock_names.proofs.StepLaws.{answer_at, needed_at}
use Rattle.dinode_tree.proofs.Pieces.{needed_for}
use Rattle.table_changes.specs.Setting.{AreRuns, IsRun, IsSeenRun, counted}
use Rattle.table_changes.proofs.Runs.{counted_more, each_more, none_in, own_run, runs_more}
use Rattle.table_changes.proofs.finding.find_runs.Goals as goal

pub loop-done-init : goal.loop-done-init
loop-done-init g c = record {
  within = omega arith;
  all = ap counted c.new-runs.ensures.items;
  found = λ h table. subst (AreRuns h c.args.from) (sym c.new-runs.ensures.items) tt;
  seen = λ run has. absurd (none_in run (subst (λ xs. Contains xs run) c.new-runs.ensures.items has));
}

pub loop-done-preserved : goal.loop-done-preserved
loop-done-preserved g c =
    let run = c.in-Is.run' in
    let runs = c.loop-done.runs.items in
    let most : run.count ≤ c.args.count - c.loop-done.done = answer_at _ _ _ c.in-Is.is c.in_ok-run.ensures.most in
    let more = c.in_ok-push-in-Is.ensures.items in
    record {
      within = omega (arith, most, c.loop-done.invariant.within, c.loop-done-test.true);
      all = ap counted more ∙ counted_more runs run ∙ ap (λ n. n + run.count) c.loop-done.invariant.all;
      found = λ h table. subst (AreRuns h c.args.from) (sym more) (runs_more h c.args.from runs run (c.loop-done.invariant.found h table)
          (subst (λ n. IsRun h (c.args.from + n) run.count run) (sym c.loop-done.invariant.all) (own_run h _ _ run (answer_at _ _ _ c.in-Is.is (c.in_ok-run.ensures.found h table)))));
      seen = λ r has. each_more (IsSeenRun (g.V.View.seen c.args.view.now)) runs run c.loop-done.invariant.seen (answer_at _ _ _ c.in-Is.is c.in_ok-run.ensures.seen) r (subst (λ xs. Contains xs r) more has);
    }

pub returns-in-NeedBlock-clause-needed : goal.returns-in-NeedBlock-clause-needed
returns-in-NeedBlock-clause-needed g c h table =
    needed_for (g.V.View.seen c.args.view.now) h _ _ 0 0 c.in-NeedBlock.missing (λ k is. (c.args.from + c.loop-done.done, record { low = omega arith; high = omega (arith, c.loop-done-test.true) }, is)) (omega arith)
    (needed_at _ _ _ c.in-NeedBlock.is (c.in_ok-run.ensures.needed h table))
