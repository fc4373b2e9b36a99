use Rattle.std.proofs.Common.{ap, ℕ}
use Rattle.log_tables.specs.Kept.{Kept}
use Rattle.log_tables.specs.Slots.{version_in}
use Rattle.log_tables.specs.Versions.{Version}
use Rattle.log_tables.proofs.Reading.{row_seen, row_there}
use Rattle.log_tables.proofs.tables.Tables.fresh_is_plain.Goals as goal

pub row-requires : goal.row-requires
row-requires c = row_there (version_in c.self.inside.pool) c.self.inside.fresh.at c.args.self.now.fresh (ap (λ (k : Kept). k.fresh) c.self.view_is) c.args.place c.requires

pub returns : goal.returns
returns c = λ e at.
    ap (λ (x : ℕ × Version). x.1.plain) (row_seen (version_in c.self.inside.pool) c.self.inside.fresh.at c.args.self.now.fresh (ap (λ (k : Kept). k.fresh) c.self.view_is) c.args.place c.row.result.now e c.row.ensures at)
