use Rattle.std.proofs.Common.{ap, ◌∙◌, is_some}
use Rattle.log_tables.specs.Kept.{Kept}
use Rattle.log_tables.specs.Slots.{version_in}
use Rattle.log_tables.proofs.Reading.{copied_some, some_seen}
use Rattle.log_tables.proofs.tables.Tables.is_flushed.Goals as goal

pub returns : goal.returns
returns c =
    c.is_some.ensures ∙ copied_some c.get.result ∙ ap is_some c.get.ensures
    ∙ some_seen (version_in c.self.inside.pool) c.self.inside.flushed.at c.args.self.now.flushed c.args.block (ap (λ (k : Kept). k.flushed) c.self.view_is)
