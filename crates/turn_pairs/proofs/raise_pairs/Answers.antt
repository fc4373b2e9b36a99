use Rattle.std.proofs.Common.{ℕ, ◌≡◌, ◌+◌, ◌∙◌, subst, arith}
use Rattle.turn_pairs.specs.Pairs.{HasReached}
use Rattle.turn_pairs.proofs.Apart.{reached_more}
use Rattle.turn_pairs.proofs.raise_pairs.Goals as goal

pub loop-done-preserved : goal.loop-done-preserved
loop-done-preserved g c =
    let inv = c.loop-done.invariant in
    let step = c.raise_pair.ensures in
    record {
      same = (step.same.0 ∙ inv.same.0, step.same.1 ∙ inv.same.1, step.same.2);
      kept = λ p x seen. step.kept p x (inv.kept p x seen);
      reached = λ x seen. reached_more c.loop-done._done x c.loop-done.chair c.raise_pair.new.chair (inv.reached x seen) step.kept step.reached;
    }

pub returns-clause-reached : goal.returns-clause-reached
returns-clause-reached g c = λ x seen.
    let all : c.loop-done._done ≡ c.args.times = omega arith in
    subst (λ (n : ℕ). HasReached c.loop-done.chair (x + n)) all (c.loop-done.invariant.reached x seen)
