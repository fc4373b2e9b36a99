use Rattle.std.proofs.Common.{sym, ap, ◌∙◌}
use Rattle.std.specs.FinMap as map
use Rattle.fixed_tables.specs.Fixed.{Fixed}
use Rattle.fixed_tables.proofs.Tables.{len_is}
use Rattle.fixed_tables.proofs.table.FixedTable.len.Goals as goal

pub returns : goal.returns
returns g c = c.len.ensures ∙ sym (len_is c.self.inside c.self.invariant) ∙ ap (λ (f : Fixed g.row.V.Denot). map.len f.at) c.self.view_is
