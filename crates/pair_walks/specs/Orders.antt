-- The locks of the inodes on two paths of a call, in the order in which they are taken.
use Rattle.std.specs.Prelude.{ℕ, ◌==◌, ◌||◌, Bool, true, false, nat_lt, is_none, if◌then◌else◌, List, [], ◌∷◌}
use Rattle.file_tree.specs.Names.{leads_to}
use Rattle.glock_names.specs.StateOrder.{leq}
use Rattle.glock_names.specs.declared.State.{State}
use Rattle.glock_names.specs.declared.State.TheVariants.{Ex}
use Rattle.call_locks.specs.declared.want.Want.{Want}
use Rattle.image_model.specs.Flat.{Flat, Path, follow}
use Rattle.image_model.specs.Image.{Image}
use Rattle.image_model.specs.Owners.{Owners}
use Rattle.image_model.specs.Stands.{Layout, flat_of}
use Rattle.path_walks.specs.Holds.{Hold, holds_in}

-- ---- two ways as one

-- the least state of a lock that serves both who wants it in one state and who wants it in the other: of two of which one is stronger that one, and of a shared
-- and a deferred one the exclusive
abbrev pub stronger : State → State → State
stronger a b = if leq a b then b else if leq b a then a else Ex

-- a lock that both ways take
abbrev pub in_both : Hold → Hold → Hold
in_both x y = record { lock = x.lock; state = stronger x.state y.state }

-- A lock of the first way, with what comes after it there, beside those of the second: of the next lock of each way the one with the least number comes
-- first, and one that is next on both comes once, in the stronger state.
abbrev pub beside : Hold → (List Hold → List Hold) → List Hold → List Hold
beside x later [] = x ∷ later []
beside x later (y ∷ ys) =
    if x.lock.number == y.lock.number then in_both x y ∷ later ys
    else if nat_lt x.lock.number y.lock.number then x ∷ later (y ∷ ys)
    else y ∷ beside x later ys

-- Two ways from the root down, each with its locks parents before children, as one. Once the first has ended there come these yet of the second.
abbrev pub merged : (List Hold → List Hold) → List Hold → List Hold → List Hold
merged left [] ys = left ys
merged left (x ∷ xs) ys = beside x (λ zs. merged left xs zs) ys

-- ---- two paths

-- the first path's end decides: it leads nowhere, or the second path is the same or goes on from it
abbrev pub ends_both : Flat → ℕ → Path → Path → Bool
ends_both f root p q = is_none (follow f root p) || leads_to p q

-- where it does, no more of the second way is taken
abbrev pub left_after : Bool → List Hold → List Hold
left_after true ys = []
left_after false ys = ys

-- in an image the locks of the inodes on both paths, as far as they are there, each path's as it is wanted
abbrev pub pair_holds : Image → Owners → Layout → Path → Path → List Want → List Want → List Hold
pair_holds im o l p q first second = merged (left_after (ends_both (flat_of im o) l.root p q)) (holds_in im o l p first) (holds_in im o l q second)
