use Rattle.std.proofs.Common.{ap, ℕ, sym, ◌∙◌}
use Rattle.log_tables.specs.Kept.{Kept, place_of_way}
use Rattle.log_tables.specs.Slots.{entry_in, way_in}
use Rattle.log_tables.specs.Versions.{Entry}
use Rattle.log_tables.specs.declared.cells.Hold.{Hold}
use Rattle.log_tables.proofs.Reading.{row_seen, row_there}
use Rattle.log_tables.proofs.tables.Tables.live_whereabouts.Goals as goal

pub row-requires : goal.row-requires
row-requires c = row_there (entry_in c.self.inside.pool) c.self.inside.live.at c.args.self.now.live (ap (λ (k : Kept). k.live) c.self.view_is) c.args.place c.requires

pub returns-in-Home : goal.returns-in-Home
returns-in-Home c = λ e at.
    sym (ap (λ (h : Hold). place_of_way (way_in c.self.inside.pool h)) c.in-Home.is) ∙ ap (λ (x : ℕ × Entry). place_of_way x.1.way) (row_seen (entry_in c.self.inside.pool) c.self.inside.live.at c.args.self.now.live (ap (λ (k : Kept). k.live) c.self.view_is) c.args.place c.row.result.now e c.row.ensures at)

pub returns-in-Away : goal.returns-in-Away
returns-in-Away c = λ e at.
    sym (ap (λ (h : Hold). place_of_way (way_in c.self.inside.pool h)) c.in-Away.is) ∙ ap (λ (x : ℕ × Entry). place_of_way x.1.way) (row_seen (entry_in c.self.inside.pool) c.self.inside.live.at c.args.self.now.live (ap (λ (k : Kept). k.live) c.self.view_is) c.args.place c.row.result.now e c.row.ensures at)

pub returns-in-Flying : goal.returns-in-Flying
returns-in-Flying c = λ e at.
    sym (ap (λ (h : Hold). place_of_way (way_in c.self.inside.pool h)) c.in-Flying.is) ∙ ap (λ (x : ℕ × Entry). place_of_way x.1.way) (row_seen (entry_in c.self.inside.pool) c.self.inside.live.at c.args.self.now.live (ap (λ (k : Kept). k.live) c.self.view_is) c.args.place c.row.result.now e c.row.ensures at)
