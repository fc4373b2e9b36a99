-- A group's blocks lie in it.
use Rattle.std.proofs.Common.{ℕ, arith}
use Rattle.glock_names.specs.Views.{Seen, HasGroup, IsView}
use Rattle.glock_names.specs.declared.views.Group.{Group}
use Rattle.resource_groups.specs.Putting.{HasDataBlock}
use Rattle.resource_groups.specs.Shown.{IsHeaderOf}
use Rattle.resource_groups.proofs.Fits.{fit_of}
use Rattle.image_changes.specs.Does.{LiesInGroup}

pub data_lies : (v : Seen) (b : ℕ) → IsView v → HasDataBlock v b → LiesInGroup v b
data_lies v b view has =
    let fit = fit_of v has.0 view has.1 in
    record { group = has.0; has = has.1; low = omega (arith, fit.first, has.2.low); high = has.2.high }

pub header_lies : (v : Seen) (g : Group) (b : ℕ) → IsView v → HasGroup v g → IsHeaderOf g b → LiesInGroup v b
header_lies v g b view has head =
    let fit = fit_of v g view has in
    record { group = g; has = has; low = head.low; high = omega (arith, head.high, fit.first) }
