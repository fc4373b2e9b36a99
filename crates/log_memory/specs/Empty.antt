-- What a new log has.
use Rattle.std.specs.Prelude.{◌≡◌, ◌≤◌, ℕ, [], vec_capacity, Vec}
use Rattle.std.specs.Global.{Global}
use Rattle.std.specs.FinMap as table
use Rattle.fixed_tables.specs.Fixed.{Fixed}

-- a table that is empty
abbrev pub no_rows : ℕ → Fixed (Unit {0})
no_rows room = record { at = table.empty; room = room }

-- a list that is empty, and has room for so many
pub record IsEmptyList (list : Vec ℕ Global) (most : ℕ) : Type 0 where
  pub items : list.items ≡ []
  pub capacity : most ≤ vec_capacity list
