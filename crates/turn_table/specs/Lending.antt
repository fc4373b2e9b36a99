-- What a handed value is once a borrow of it ends.
use Rattle.std.specs.Borrow.{Lends, Fml, RattleType, MutBor}
use Rattle.turn_table.specs.Sitting.{Handed}
use Rattle.turn_table.specs.contracts.hold.Held.{the_row}

-- only the value changes: it is what was last written through r
abbrev pub LendsValue : (V : RattleType) → MutBor (Handed V.Denot) → MutBor V.Denot → Fml
LendsValue V h r = Lends (the_row V) V h r (λ w. record h.now { value = w })
