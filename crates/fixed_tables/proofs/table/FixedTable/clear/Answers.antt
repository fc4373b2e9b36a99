use Rattle.std.proofs.Common.{ap, ◌∙◌}
use Rattle.std.specs.FinMap as map
use Rattle.fixed_tables.specs.Fixed.{Fixed}
use Rattle.fixed_tables.proofs.Tables.{none_is_empty}
use Rattle.fixed_tables.proofs.table.FixedTable.clear.Goals as goal

pub returns : goal.returns
returns g c =
    none_is_empty c.clear.new.self.items c.self.inside.room c.clear.ensures.items
    ∙ ap (λ (f : Fixed g.row.V.Denot). let e : Fixed g.row.V.Denot = record { at = map.empty; room = f.room } in e) c.self.view_is
