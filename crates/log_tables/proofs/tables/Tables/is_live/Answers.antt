use Rattle.std.proofs.Common.{ap, ◌∙◌, is_some}
use Rattle.log_tables.specs.Kept.{Kept}
use Rattle.log_tables.specs.Slots.{entry_in}
use Rattle.log_tables.proofs.Reading.{copied_some, some_seen}
use Rattle.log_tables.proofs.tables.Tables.is_live.Goals as goal

pub returns : goal.returns
returns c =
    c.is_some.ensures ∙ copied_some c.get.result ∙ ap is_some c.get.ensures
    ∙ some_seen (entry_in c.self.inside.pool) c.self.inside.live.at c.args.self.now.live c.args.block (ap (λ (k : Kept). k.live) c.self.view_is)
