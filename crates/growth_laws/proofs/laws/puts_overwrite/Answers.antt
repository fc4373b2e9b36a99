use Rattle.growth_laws.proofs.Bare.{stuffed_content_is_put}
use Rattle.growth_laws.proofs.Puts.{puts_overwrite}
use Rattle.growth_laws.proofs.laws.puts_overwrite.Goals as goal

pub returns-clause-blocks : goal.returns-clause-blocks
returns-clause-blocks c = puts_overwrite

pub returns-clause-stuffed : goal.returns-clause-stuffed
returns-clause-stuffed c = stuffed_content_is_put
