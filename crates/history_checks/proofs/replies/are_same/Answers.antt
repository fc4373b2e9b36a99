use Rattle.std.proofs.Common.{[], arith, refl}
use Rattle.std.proofs.lemmas.List.{ext_get_or}
use Rattle.history_checks.proofs.replies.are_same.Goals as goal

-- as many, and the same each
pub returns : goal.returns
returns c = (λ t. ext_get_or [] c.args.names.now c.args.others.now (omega arith) (λ i h. c.loop-i.invariant i (omega arith)), λ e. refl)
