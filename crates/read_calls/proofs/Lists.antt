-- The wants of a call that reads.
use Rattle.std.proofs.Common.{◌≡◌, ◌&&◌, ℕ, zero, suc, ◌+◌, Bool, true, false, List, [], ◌∷◌, ◌++◌, length, slice_get, Some, refl, ap, ◌∙◌, arith}
use Rattle.std.proofs.lemmas.List.{length-append}
use Rattle.file_tree.specs.declared.call.Call.{Call}
use Rattle.file_tree.specs.declared.call.Call.TheVariants as call
use Rattle.file_tree.specs.declared.reply.Reply.{Reply}
use Rattle.cluster_history.specs.Changes.{Changes, is_ok}
use Rattle.glock_names.specs.declared.State.{State}
use Rattle.glock_names.specs.declared.State.TheVariants.{Sh, Df}
use Rattle.call_locks.specs.declared.want.Want.{Want}
use Rattle.call_locks.specs.Wants.{want, shared_above, way_to, wanted}
use Rattle.call_locks.specs.WantLaws.{path_of}
use Rattle.image_model.proofs.Held.{some_same}
use Rattle.path_walks.specs.Walks.{AreInOrder}
use Rattle.read_calls.specs.Reading.{IsReading}

-- the state in which such a call takes the inode at its path's end
abbrev pub taken_in : Call → State
taken_in (call.Dread p at count) = Df
taken_in _ = Sh

pub wants_are : (c : Call) → IsReading c → wanted c ≡ way_to false (length (path_of c false)) (taken_in c)
wants_are (call.Read p at count) is = refl
wants_are (call.Dread p at count) is = refl
wants_are (call.Stat p) is = refl
wants_are (call.List p) is = refl
wants_are (call.Create p) is = absurd is
wants_are (call.Mkdir p) is = absurd is
wants_are (call.Unlink p) is = absurd is
wants_are (call.Rmdir p) is = absurd is
wants_are (call.Write p at new) is = absurd is
wants_are (call.Truncate p size) is = absurd is
wants_are (call.Rename p q) is = absurd is
wants_are call.Sync is = absurd is

-- depth by depth, from this one on
abbrev AreFrom : ℕ → List Want → Type 0
AreFrom k ws = (i : ℕ) (w : Want) → slice_get ws i ≡ Some w → w.depth ≡ k + i

push : (k : ℕ) (ws : List Want) (w : Want) → AreFrom k ws → w.depth ≡ k + length ws → AreFrom k (ws ++ w ∷ [])
push k [] w before here zero x at = let d = ap (λ (y : Want). y.depth) (some_same at) in omega (arith, here, d)
push k [] w before here (suc i) x at = cc
push k (y ∷ ws) w before here zero x at = before 0 x at
push k (y ∷ ws) w before here (suc i) x at =
    let later : AreFrom (suc k) ws = λ j z there. omega (arith, before (suc j) z there) in
    omega (arith, push (suc k) ws w later (omega (arith, here)) i x at)

shared_from : (s : Bool) (n : ℕ) → AreFrom 0 (shared_above s n) × (length (shared_above s n) ≡ n)
shared_from s zero = ((λ i w at. cc), refl)
shared_from s (suc n) =
    let before = shared_from s n in
    (push 0 (shared_above s n) (want s n Sh) before.0 (omega (arith, before.1)), length-append (shared_above s n) (want s n Sh ∷ []) ∙ omega (arith, before.1))

pub in_order : (s : Bool) (n : ℕ) (state : State) → AreInOrder (way_to s n state)
in_order s n state i w at = let before = shared_from s n in omega (arith, push 0 (shared_above s n) (want s n state) before.0 (omega (arith, before.1)) i w at)

pub as_many : (s : Bool) (n : ℕ) (state : State) → length (way_to s n state) ≡ n + 1
as_many s n state = length-append (shared_above s n) (want s n state ∷ []) ∙ omega (arith, (shared_from s n).1)

plain : (b : Bool) → (b && false) ≡ false
plain true = refl
plain false = refl

-- such a call never changes the tree
pub no_change : (c : Call) (r : Reply) → IsReading c → Changes (record { call = c; reply = r }) ≡ false
no_change (call.Read p at count) r is = plain (is_ok r)
no_change (call.Dread p at count) r is = plain (is_ok r)
no_change (call.Stat p) r is = plain (is_ok r)
no_change (call.List p) r is = plain (is_ok r)
no_change (call.Create p) r is = absurd is
no_change (call.Mkdir p) r is = absurd is
no_change (call.Unlink p) r is = absurd is
no_change (call.Rmdir p) r is = absurd is
no_change (call.Write p at new) r is = absurd is
no_change (call.Truncate p size) r is = absurd is
no_change (call.Rename p q) r is = absurd is
no_change call.Sync r is = absurd is
