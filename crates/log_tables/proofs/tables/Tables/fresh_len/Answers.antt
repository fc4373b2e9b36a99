use Rattle.std.proofs.Common.{ap, ◌∙◌}
use Rattle.log_tables.specs.Kept.{Kept}
use Rattle.log_tables.specs.Slots.{version_in}
use Rattle.log_tables.proofs.Reading.{len_seen}
use Rattle.log_tables.proofs.tables.Tables.fresh_len.Goals as goal

pub returns : goal.returns
returns c = c.len.ensures ∙ len_seen (version_in c.self.inside.pool) c.self.inside.fresh.at c.args.self.now.fresh (ap (λ (k : Kept). k.fresh) c.self.view_is)
