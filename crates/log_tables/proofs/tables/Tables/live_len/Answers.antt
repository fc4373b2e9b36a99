use Rattle.std.proofs.Common.{ap, ◌∙◌}
use Rattle.log_tables.specs.Kept.{Kept}
use Rattle.log_tables.specs.Slots.{entry_in}
use Rattle.log_tables.proofs.Reading.{len_seen}
use Rattle.log_tables.proofs.tables.Tables.live_len.Goals as goal

pub returns : goal.returns
returns c = c.len.ensures ∙ len_seen (entry_in c.self.inside.pool) c.self.inside.live.at c.args.self.now.live (ap (λ (k : Kept). k.live) c.self.view_is)
