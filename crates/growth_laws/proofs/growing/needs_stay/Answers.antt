use Rattle.growth_laws.proofs.Staying.{puts_keep_need, sizes_keep_need, bare_heights_keep_need, nothing_needs_nothing, growth_needs_levels}
use Rattle.growth_laws.proofs.growing.needs_stay.Goals as goal

pub returns-clause-puts : goal.returns-clause-puts
returns-clause-puts c = puts_keep_need

pub returns-clause-sizes : goal.returns-clause-sizes
returns-clause-sizes c = sizes_keep_need

pub returns-clause-bare : goal.returns-clause-bare
returns-clause-bare c = bare_heights_keep_need

pub returns-clause-nothing : goal.returns-clause-nothing
returns-clause-nothing c = nothing_needs_nothing

pub returns-clause-levels : goal.returns-clause-levels
returns-clause-levels c = growth_needs_levels
