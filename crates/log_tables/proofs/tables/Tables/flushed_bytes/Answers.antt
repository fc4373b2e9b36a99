use Rattle.std.proofs.Common.{ap, ℕ, ◌∙◌}
use Rattle.log_tables.specs.Kept.{Kept}
use Rattle.log_tables.specs.Slots.{version_in}
use Rattle.log_tables.specs.Versions.{Version}
use Rattle.log_tables.proofs.Reading.{flushed_out, out_bytes, row_seen, row_there}
use Rattle.log_tables.proofs.tables.Tables.flushed_bytes.Goals as goal

pub row-requires : goal.row-requires
row-requires c = row_there (version_in c.self.inside.pool) c.self.inside.flushed.at c.args.self.now.flushed (ap (λ (k : Kept). k.flushed) c.self.view_is) c.args.place c.requires

pub bytes-requires : goal.bytes-requires
bytes-requires c = flushed_out c.self.inside c.self.invariant c.args.place c.row.result.now c.row.ensures

pub returns : goal.returns
returns c = record {
  bytes = λ e at.
      out_bytes c.self.inside.pool c.row.result.now.1.frame c.bytes.result.now c.bytes.ensures.bytes
      ∙ ap (λ (x : ℕ × Version). x.1.bytes) (row_seen (version_in c.self.inside.pool) c.self.inside.flushed.at c.args.self.now.flushed (ap (λ (k : Kept). k.flushed) c.self.view_is) c.args.place c.row.result.now e c.row.ensures at);
  whole = c.bytes.ensures.whole ∙ ap (λ (k : Kept). k.size) c.self.view_is;
}
