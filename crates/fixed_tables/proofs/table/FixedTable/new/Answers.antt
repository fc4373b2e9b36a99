use Rattle.fixed_tables.proofs.Tables.{none_is_empty}
use Rattle.fixed_tables.proofs.table.FixedTable.new.Goals as goal

pub returns : goal.returns
returns g c = none_is_empty c.in_ok-rows.rows.items c.args.room c.in_ok-rows.ensures.items
