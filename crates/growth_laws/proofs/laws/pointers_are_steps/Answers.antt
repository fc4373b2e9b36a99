use Rattle.growth_laws.proofs.Pointing.{put_pointers_fill, cleared_pointers_free, rewrites_keep_the_rest}
use Rattle.growth_laws.proofs.laws.pointers_are_steps.Goals as goal

pub returns-clause-fill : goal.returns-clause-fill
returns-clause-fill c = put_pointers_fill

pub returns-clause-free : goal.returns-clause-free
returns-clause-free c = cleared_pointers_free

pub returns-clause-rewritten : goal.returns-clause-rewritten
returns-clause-rewritten c = rewrites_keep_the_rest
