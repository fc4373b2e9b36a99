-- The wants of the inodes on a path.
use Rattle.std.proofs.Common.{◌≡◌, ℕ, zero, suc, ◌+◌, true, false, true≢false, List, [], ◌∷◌, ◌++◌, length, slice_get, Some, refl, sym, ap, ◌∙◌, subst, arith}
use Rattle.std.proofs.lemmas.List.{length-append}
use Rattle.glock_names.specs.StateOrder.{leq}
use Rattle.glock_names.specs.Views.{Seen}
use Rattle.glock_names.specs.declared.State.{State}
use Rattle.glock_names.specs.declared.State.TheVariants.{Un, Sh, Df, Ex}
use Rattle.call_locks.specs.declared.want.Want.{Want}
use Rattle.call_locks.specs.Wants.{want, shared_above, way_to}
use Rattle.image_model.specs.Flat.{Path}
use Rattle.image_model.proofs.Held.{some_same}
use Rattle.path_walks.specs.Walks.{LeadsTo, at_root, by_name, IsHeldAt}

-- depth by depth, from this one on
abbrev pub AreFrom : ℕ → List Want → Type 0
AreFrom k ws = (i : ℕ) (w : Want) → slice_get ws i ≡ Some w → w.depth ≡ k + i

pub push : (k : ℕ) (ws : List Want) (w : Want) → AreFrom k ws → w.depth ≡ k + length ws → AreFrom k (ws ++ w ∷ [])
push k [] w before here zero x at = let d = ap (λ (y : Want). y.depth) (some_same at) in omega (arith, here, d)
push k [] w before here (suc i) x at = cc
push k (y ∷ ws) w before here zero x at = before 0 x at
push k (y ∷ ws) w before here (suc i) x at =
    let later : AreFrom (suc k) ws = λ j z there. omega (arith, before (suc j) z there) in
    omega (arith, push (suc k) ws w later (omega (arith, here)) i x at)

pub shared_from : (n : ℕ) → AreFrom 0 (shared_above false n) × (length (shared_above false n) ≡ n)
shared_from zero = ((λ i w at. cc), refl)
shared_from (suc n) =
    let before = shared_from n in
    (push 0 (shared_above false n) (want false n Sh) before.0 (omega (arith, before.1)), length-append (shared_above false n) (want false n Sh ∷ []) ∙ omega (arith, before.1))

pub way_from : (n : ℕ) → AreFrom 0 (way_to false n Ex) × (length (way_to false n Ex) ≡ n + 1)
way_from n =
    let before = shared_from n in
    (push 0 (shared_above false n) (want false n Ex) before.0 (omega (arith, before.1)), length-append (shared_above false n) (want false n Ex ∷ []) ∙ omega (arith, before.1))

-- the want at a list's end, and at the place before
pub at_end : (ws : List Want) (w : Want) (n : ℕ) → length ws ≡ n → slice_get (ws ++ w ∷ []) n ≡ Some w
at_end [] w zero e = refl
at_end [] w (suc n) e = absurd (omega (arith, e))
at_end (x ∷ ws) w zero e = absurd (omega (arith, e))
at_end (x ∷ ws) w (suc n) e = at_end ws w n (omega (arith, e))

pub before_end : (ws : List Want) (v w : Want) (n : ℕ) → length ws ≡ n → slice_get ((ws ++ v ∷ []) ++ w ∷ []) n ≡ Some v
before_end [] v w zero e = refl
before_end [] v w (suc n) e = absurd (omega (arith, e))
before_end (x ∷ ws) v w zero e = absurd (omega (arith, e))
before_end (x ∷ ws) v w (suc n) e = before_end ws v w n (omega (arith, e))

-- where a path leads the lock is held as it is wanted there
pub leads_held : (v : Seen) (wants : List Want) (path : Path) (a : ℕ) → LeadsTo v wants path a → IsHeldAt v wants (length path) a
leads_held v wants [] a (at_root held) = held
leads_held v wants path a (by_name front dir b name leads is_name named inside held) = subst (λ n. IsHeldAt v wants n b) (sym (length-append front (name ∷ []))) held

-- what is held exclusive is held so
pub exclusive : (s : State) → leq Ex s ≡ true → s ≡ Ex
exclusive Ex e = refl
exclusive Un e = absurd (true≢false (sym e))
exclusive Sh e = absurd (true≢false (sym e))
exclusive Df e = absurd (true≢false (sym e))
