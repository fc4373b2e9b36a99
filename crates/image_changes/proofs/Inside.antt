-- What a draft writes lies in the view's groups.
use Rattle.std.proofs.Common.{◌≡◌, ℕ, zero, suc, ◌<◌, List, [], ◌∷◌, length, slice_get, Some, refl, arith}
use Rattle.std.specs.List.{AllByRecursion}
use Rattle.glock_names.specs.declared.LockName.{LockName}
use Rattle.drafts.specs.declared.change.Written.{Written}
use Rattle.image_changes.specs.Does.{IsInside}
use Rattle.image_changes.specs.Drafted.{DraftsStayInside}
use Rattle.image_changes.proofs.Finishing.{finish_makes}

-- the lock at each place of a list that is as long
there : (locks : List LockName) (i : ℕ) → i < length locks → (lock : LockName) × (slice_get locks i ≡ Some lock)
there [] i low = absurd (omega arith)
there (l ∷ ls) zero low = (l, refl)
there (l ∷ ls) (suc i) low = there ls i (omega arith)

by_place : (P : Written → Type 0) (ws : List Written) → ((i : ℕ) (w : Written) → slice_get ws i ≡ Some w → P w) → AllByRecursion P ws
by_place P [] each = tt
by_place P (w ∷ ws) each = (each 0 w refl, by_place P ws (λ i v at. each (suc i) v at))

low : (ws : List Written) (i : ℕ) (w : Written) → slice_get ws i ≡ Some w → i < length ws
low [] i w at = cc
low (v ∷ ws) zero w at = omega arith
low (v ∷ ws) (suc i) w at = omega (arith, low ws i w at)

pub stay_inside : DraftsStayInside
stay_inside v fates change finished whole inside =
    let of = finish_makes fates change finished in
    by_place (IsInside v) change.blocks.items (λ i w at.
    let lock = there change.locks.items i (omega (arith, low change.blocks.items i w at, of.form.locks)) in
    let put = of.told i w lock.0 at lock.1 in
    record { whole = whole w.block lock.0 w.plain w.bytes put; inside = inside w.block lock.0 w.plain w.bytes put })
