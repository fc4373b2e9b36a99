-- The modes of a lock.
use Rattle.std.specs.Prelude.{ℕ, Bool, true, false, not, ◌&&◌, replicate}
use Rattle.dlm_modes.specs.declared.Mode.{Mode}
use Rattle.dlm_modes.specs.declared.Mode.TheVariants.{Nl, Cr, Cw, Pr, Pw, Ex}
use Rattle.dlm_modes.specs.declared.ValueBlock.{ValueBlock}

-- whether two nodes may hold a lock in these modes at the same time: Nl goes with all, Cr with all but Ex, Cw with Cw and
-- Pr with Pr
abbrev pub go_together : Mode → Mode → Bool
go_together Nl b = true
go_together a Nl = true
go_together Ex b = false
go_together a Ex = false
go_together Cr b = true
go_together a Cr = true
go_together Cw Cw = true
go_together Pr Pr = true
go_together a b = false

-- whether the first mode is the second or above it: Nl < Cr < Cw, Pr < Pw < Ex, with Cw and Pr side by side
abbrev pub is_at_least : Mode → Mode → Bool
is_at_least a Nl = true
is_at_least Nl b = false
is_at_least a Cr = true
is_at_least Cr b = false
is_at_least Ex b = true
is_at_least a Ex = false
is_at_least Pw b = true
is_at_least Cw Cw = true
is_at_least Pr Pr = true
is_at_least a b = false

-- whether the first mode is above the second
abbrev pub is_above : Mode → Mode → Bool
is_above a b = is_at_least a b && not (is_at_least b a)

-- a lock's value where nobody has written one
abbrev pub not_valid : ValueBlock
not_valid = record { bytes = replicate 32 0; valid = false }
