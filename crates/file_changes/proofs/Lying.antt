-- Where the blocks lie that a change writes.
use Rattle.std.proofs.Common.{◌≡◌, ◌<◌, inl, inr, ℕ, zero, suc, List, [], ◌∷◌, Some, refl, sym, ap, subst, arith}
use Rattle.std.specs.Prelude.{Contains, length, slice_get}
use Rattle.std.specs.List.{AllByRecursion}
use Rattle.std.specs.Ordering.{nat_cmp}
use Rattle.std.specs.FinMap.{FinMap}
use Rattle.drafts.specs.Fates.{AreWhole}
use Rattle.drafts.specs.declared.change.Change.{Change}
use Rattle.drafts.specs.declared.change.Written.{Written}
use Rattle.drafts.specs.declared.fate.Fate.{Fate}
use Rattle.glock_names.specs.Views.{Seen}
use Rattle.image_model.proofs.Members.{IsIn, contained, is_in}
use Rattle.image_changes.specs.Does.{AreInside, IsInside, LiesInGroup}
use Rattle.image_changes.specs.Drafted.{IsFinished}
use Rattle.image_changes.proofs.Finishing.{finish_makes}

pub all_at : {X : Type 0} (P : X → Type 0) (xs : List X) (x : X) → AllByRecursion P xs → IsIn x xs → P x
all_at P [] x all at = elim at [ ]
all_at P (y ∷ ys) x all (inl e) = subst P (sym e) all.0
all_at P (y ∷ ys) x all (inr later) = all_at P ys x all.1 later

pub from_all : {X : Type 0} (P : X → Type 0) (xs : List X) → ((x : X) → IsIn x xs → P x) → AllByRecursion P xs
from_all P [] each = tt
from_all P (x ∷ xs) each = (each x (inl refl), from_all P xs (λ y at. each y (inr at)))

-- a change is inside whose blocks are whole and lie in groups
pub inside_of : (v : Seen) (change : Change) → ((w : Written) → Contains change.blocks.items w → length w.bytes ≡ v.size) → ((w : Written) → Contains change.blocks.items w → LiesInGroup v w.block) → AreInside v change
inside_of v change whole lie = from_all (IsInside v) change.blocks.items (λ w at. let has = contained w change.blocks.items at in record { whole = whole w has; inside = lie w has })

pub lies_of : (v : Seen) (change : Change) → AreInside v change → (w : Written) → Contains change.blocks.items w → LiesInGroup v w.block
lies_of v change inside w has = (all_at (IsInside v) change.blocks.items w inside (is_in w change.blocks.items has)).inside

-- ---- what a draft's change writes is whole

place_of : {X : Type 0} (x : X) (xs : List X) → IsIn x xs → (i : ℕ) × (i < length xs) × (slice_get xs i ≡ Some x)
place_of x [] at = elim at [ ]
place_of x (y ∷ ys) (inl e) = (0, omega arith, ap Some (sym e))
place_of x (y ∷ ys) (inr later) = let p = place_of x ys later in (suc p.0, omega (arith, p.1), p.2)

there_at : {X : Type 0} (xs : List X) (i : ℕ) → i < length xs → (x : X) × (slice_get xs i ≡ Some x)
there_at [] i low = absurd (omega (arith, low))
there_at (y ∷ ys) zero low = (y, refl)
there_at (y ∷ ys) (suc i) low = there_at ys i (omega (arith, low))

pub whole_written : (size : ℕ) (fates : FinMap nat_cmp Fate) (change : Change) → IsFinished fates change → AreWhole size fates → (w : Written) → Contains change.blocks.items w → length w.bytes ≡ size
whole_written size fates change finished whole w has =
    let d = finish_makes fates change finished in
    let i = place_of w change.blocks.items (is_in w change.blocks.items has) in
    let lock = there_at change.locks.items i.0 (omega (arith, i.1, d.form.locks)) in
    whole w.block lock.0 w.plain w.bytes (d.told i.0 w lock.0 i.2 lock.1)
