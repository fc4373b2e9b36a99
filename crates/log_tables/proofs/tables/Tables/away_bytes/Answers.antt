use Rattle.std.proofs.Common.{ap, ℕ, sym, ◌∙◌, Some}
use Rattle.log_tables.specs.Kept.{Kept, away_bytes}
use Rattle.log_tables.specs.Slots.{entry_in, frame_of_hold, way_in}
use Rattle.log_tables.specs.Versions.{Entry}
use Rattle.log_tables.specs.declared.cells.Hold.{Hold}
use Rattle.log_tables.proofs.Reading.{live_out, out_bytes, row_seen, row_there}
use Rattle.log_tables.proofs.tables.Tables.away_bytes.Goals as goal

pub row-requires : goal.row-requires
row-requires c = row_there (entry_in c.self.inside.pool) c.self.inside.live.at c.args.self.now.live (ap (λ (k : Kept). k.live) c.self.view_is) c.args.place c.requires

pub bytes-requires : goal.bytes-requires
bytes-requires c = live_out c.self.inside c.self.invariant c.args.place c.in-Away.frame c.row.result.now c.row.ensures (ap frame_of_hold c.in-Away.is)

pub returns-in-Away : goal.returns-in-Away
returns-in-Away c = record {
  bytes = λ e at.
      ap Some (out_bytes c.self.inside.pool c.in-Away.frame c.bytes.result.now c.bytes.ensures.bytes)
      ∙ sym (ap (λ (h : Hold). away_bytes (way_in c.self.inside.pool h)) c.in-Away.is) ∙ ap (λ (x : ℕ × Entry). away_bytes x.1.way) (row_seen (entry_in c.self.inside.pool) c.self.inside.live.at c.args.self.now.live (ap (λ (k : Kept). k.live) c.self.view_is) c.args.place c.row.result.now e c.row.ensures at);
  whole = c.bytes.ensures.whole ∙ ap (λ (k : Kept). k.size) c.self.view_is;
}

pub returns-in-Home : goal.returns-in-Home
returns-in-Home c = record {
  bytes = λ e at.
      sym (ap (λ (h : Hold). away_bytes (way_in c.self.inside.pool h)) c.in-Home.is) ∙ ap (λ (x : ℕ × Entry). away_bytes x.1.way) (row_seen (entry_in c.self.inside.pool) c.self.inside.live.at c.args.self.now.live (ap (λ (k : Kept). k.live) c.self.view_is) c.args.place c.row.result.now e c.row.ensures at);
  whole = tt;
}

pub returns-in-Flying : goal.returns-in-Flying
returns-in-Flying c = record {
  bytes = λ e at.
      sym (ap (λ (h : Hold). away_bytes (way_in c.self.inside.pool h)) c.in-Flying.is) ∙ ap (λ (x : ℕ × Entry). away_bytes x.1.way) (row_seen (entry_in c.self.inside.pool) c.self.inside.live.at c.args.self.now.live (ap (λ (k : Kept). k.live) c.self.view_is) c.args.place c.row.result.now e c.row.ensures at);
  whole = tt;
}
