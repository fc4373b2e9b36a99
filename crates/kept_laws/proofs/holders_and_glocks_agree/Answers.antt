use Rattle.kept_laws.proofs.Agreeing.{all_agree, none_agree}
use Rattle.kept_laws.proofs.holders_and_glocks_agree.Goals as goal

pub returns-clause-kept : goal.returns-clause-kept
returns-clause-kept c = all_agree

pub returns-clause-begun : goal.returns-clause-begun
returns-clause-begun c = none_agree
