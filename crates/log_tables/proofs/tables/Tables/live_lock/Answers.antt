use Rattle.std.proofs.Common.{ap, ℕ}
use Rattle.log_tables.specs.Kept.{Kept}
use Rattle.log_tables.specs.Slots.{entry_in}
use Rattle.log_tables.specs.Versions.{Entry}
use Rattle.log_tables.proofs.Reading.{row_seen, row_there}
use Rattle.log_tables.proofs.tables.Tables.live_lock.Goals as goal

pub row-requires : goal.row-requires
row-requires c = row_there (entry_in c.self.inside.pool) c.self.inside.live.at c.args.self.now.live (ap (λ (k : Kept). k.live) c.self.view_is) c.args.place c.requires

pub returns : goal.returns
returns c = λ e at.
    ap (λ (x : ℕ × Entry). x.1.lock) (row_seen (entry_in c.self.inside.pool) c.self.inside.live.at c.args.self.now.live (ap (λ (k : Kept). k.live) c.self.view_is) c.args.place c.row.result.now e c.row.ensures at)
