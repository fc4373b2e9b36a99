-- What lies on a shelf.
use Rattle.std.specs.Prelude.{◌≡◌, ℕ, ◌≤◌, [], ◌∷◌, Vec, vec_capacity}
use Rattle.std.specs.declared.alloc.Global.{Global}
use mathlib.Core.Option.{some}
use Rattle.atomic_table.specs.Table.{State}

-- the one slot has an empty `Vec` with this room
abbrev pub IsShelved : {V W : Type 0} → ℕ → State (Vec V Global) W → Type 0
IsShelved {V} room s = (v : Vec V Global) × (s.homes ≡ some v ∷ []) × (v.items ≡ []) × (room ≤ vec_capacity v)
