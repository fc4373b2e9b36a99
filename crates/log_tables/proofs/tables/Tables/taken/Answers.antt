use Rattle.std.proofs.Common.{ap, ◌∙◌}
use Rattle.log_tables.specs.Kept.{Kept, frames_taken}
use Rattle.log_tables.proofs.tables.Tables.taken.Goals as goal

pub returns : goal.returns
returns c = c.self.invariant.taken ∙ c.self.invariant.counted ∙ ap (λ (k : Kept). frames_taken k) c.self.view_is
