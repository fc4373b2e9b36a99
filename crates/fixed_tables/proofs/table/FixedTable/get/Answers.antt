use Rattle.std.proofs.Common.{ap, ◌∙◌}
use Rattle.std.specs.FinMap as map
use Rattle.fixed_tables.specs.Fixed.{Fixed}
use Rattle.fixed_tables.proofs.Tables.{at_in, between_in, found, missed}
use Rattle.fixed_tables.proofs.table.FixedTable.get.Goals as goal

pub returns-in-Ok : goal.returns-in-Ok
returns-in-Ok g c =
    found c.self.inside c.self.invariant c.in-Ok.place c.args.key c.index.result.now
    (at_in c.deref.result.now c.self.inside.rows.items c.in-Ok.place c.args.key c.deref.ensures.value c.in-Ok.ensures.there) c.index.ensures
    ∙ ap (λ (f : Fixed g.row.V.Denot). map.get f.at c.args.key) c.self.view_is

pub returns-in-Err : goal.returns-in-Err
returns-in-Err g c =
    missed c.self.inside c.self.invariant c.in-Err.field-0 c.args.key
    (between_in c.deref.result.now c.self.inside.rows.items c.in-Err.field-0 c.args.key c.deref.ensures.value c.in-Err.ensures.absent)
    ∙ ap (λ (f : Fixed g.row.V.Denot). map.get f.at c.args.key) c.self.view_is
