-- What the fields of a table stand for, and what always holds of them.
use Rattle.std.specs.Prelude.{◌≤◌, T, vec_len, vec_capacity}
use Rattle.std.specs.Ordering.{nat_cmp}
use Rattle.std.specs.FinMap.{from_sorted, is_sorted}
use Rattle.fixed_tables.specs.declared.table.FixedTable.TheInside.{Inside}
use Rattle.fixed_tables.specs.Fixed.{Fixed}

abbrev pub fixed_in : {V : Type 0} → Inside V → Fixed V
fixed_in t = record { at = from_sorted t.rows.items; room = t.room }

-- the numbers rise, and the memory is there
pub record IsFixed {V : Type 0} (t : Inside V) : Type 0 where
  pub rise : T (is_sorted nat_cmp t.rows.items)
  pub fits : vec_len t.rows ≤ t.room
  pub room : t.room ≤ vec_capacity t.rows
