use Rattle.std.proofs.Common.{ℕ, Some, sym, ap, ◌∙◌, arith}
use Rattle.logged_calls.specs.Nodes.{writes_in}
use Rattle.logged_scripts.proofs.Crashing.{all_made, before_all}
use Rattle.logged_scripts.proofs.crashes.writes_left.Goals as goal

pub overflow_sub-result : goal.overflow_sub-result
overflow_sub-result c = let low = before_all c.args.armed.now c.args.made c.in-Some.write c.requires.before (sym c.in-Some.ensures) in omega (arith, low)

pub returns-in-Some-clause-awaits : goal.returns-in-Some-clause-awaits
returns-in-Some-clause-awaits c = let low = before_all c.args.armed.now c.args.made c.in-Some.write c.requires.before (sym c.in-Some.ensures) in omega (arith, low)

pub returns-in-Some-clause-crash : goal.returns-in-Some-clause-crash
returns-in-Some-clause-crash c items same =
    let low = before_all c.args.armed.now c.args.made c.in-Some.write c.requires.before (sym c.in-Some.ensures) in
    ap (λ (k : ℕ). Some k) (all_made (writes_in items) c.in-Some.write c.args.made same low) ∙ c.in-Some.ensures
