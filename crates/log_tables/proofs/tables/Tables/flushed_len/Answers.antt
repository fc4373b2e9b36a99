use Rattle.std.proofs.Common.{ap, ◌∙◌}
use Rattle.log_tables.specs.Kept.{Kept}
use Rattle.log_tables.specs.Slots.{version_in}
use Rattle.log_tables.proofs.Reading.{len_seen}
use Rattle.log_tables.proofs.tables.Tables.flushed_len.Goals as goal

pub returns : goal.returns
returns c = c.len.ensures ∙ len_seen (version_in c.self.inside.pool) c.self.inside.flushed.at c.args.self.now.flushed (ap (λ (k : Kept). k.flushed) c.self.view_is)
