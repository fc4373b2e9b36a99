-- What two numbers that are apart tell of each other.
use Rattle.std.proofs.Common.{◌≡◌, ℕ, ◌+◌, ◌<◌, ◌≤◌, List, ◌∷◌, Some, Contains, slice_get, inl, inr, ⊎_elim, ap, sym, ◌∙◌, subst, arith, le_trans, lt_of_not-le}
use native.Mathlib.Decide.{dec_le}
use Rattle.turn_table.specs.Sitting.{Sitting, HasSeen}
use Rattle.turn_pairs.specs.Pairs.{AreApart, HasReached, HaveReached, greatest}

pub apart_found : (gap : ℕ) (parts : List ℕ) (high low : ℕ) → AreApart gap parts → slice_get parts 0 ≡ Some high → slice_get parts 1 ≡ Some low → high ≡ low + gap
apart_found gap parts high low apart first second =
    let first' : Some (apart.0 + gap) ≡ Some high = ap (λ xs. slice_get xs 0) (sym apart.1) ∙ first in
    let second' : Some apart.0 ≡ Some low = ap (λ xs. slice_get xs 1) (sym apart.1) ∙ second in
    let high_is : apart.0 + gap ≡ high = cc in
    let low_is : apart.0 ≡ low = cc in
    omega arith

-- where both numbers were put back, the seat has seen how far they came
pub second_behind : (x high low high' low' a b : ℕ) (seat : Sitting ℕ) (notes : List (ℕ × ℕ)) → a ≡ 0 → b ≡ 1 → seat.seen ≡ (a, high') ∷ (b, low') ∷ notes → x ≤ low
    → (high < greatest → low' ≡ low + 1) → (greatest ≤ high → greatest ≤ high') → HasReached seat (x + 1)
second_behind x high low high' low' a b seat notes a_is b_is seen grown risen full = go (dec_le greatest high)
  where
    go : Dec (greatest ≤ high) → HasReached seat (x + 1)
    go (yes top) = inl (high', subst (λ ns. Contains ns (0, high')) (sym seen) (0, omega arith, (λ i. (a_is i, high'))), full top)
    go (no less) = let is = risen (lt_of_not-le less) in inr (low', subst (λ ns. Contains ns (1, low')) (sym seen) (1, omega arith, (λ i. (b_is i, low'))), omega arith)

-- one more step
pub reached_more : (n x : ℕ) (seat seat' : Sitting ℕ) → HasReached seat (x + n) → ((p y : ℕ) → HasSeen seat p y → HasSeen seat' p y) → ((y : ℕ) → HasSeen seat 1 y → HasReached seat' (y + 1)) → HasReached seat' (x + (n + 1))
reached_more n x seat seat' before kept step = ⊎_elim (λ (t : (high : ℕ) × HasSeen seat 0 high × (greatest ≤ high)). inl (t.0, kept 0 t.0 t.1, t.2))
    (λ (t : (low : ℕ) × HasSeen seat 1 low × (x + n ≤ low)). ⊎_elim (λ (u : (high : ℕ) × HasSeen seat' 0 high × (greatest ≤ high)). inl u)
    (λ (u : (low : ℕ) × HasSeen seat' 1 low × (t.0 + 1 ≤ low)). inr (u.0, u.1, (let h = t.2 in let k = u.2 in omega arith))) (step t.0 t.1))
    before

-- what the numbers are in the end, where each has grown from all that the seat saw of it
pub reached_ends : (n high low : ℕ) (seat : Sitting ℕ) → HasReached seat n → ((y : ℕ) → HasSeen seat 0 y → y ≤ high) → ((y : ℕ) → HasSeen seat 1 y → y ≤ low) → HaveReached n high low
reached_ends n high low seat reached first second = ⊎_elim (λ (t : (y : ℕ) × HasSeen seat 0 y × (greatest ≤ y)). let h = t.2 in let k = first t.0 t.1 in inl (le_trans h k))
    (λ (t : (y : ℕ) × HasSeen seat 1 y × (n ≤ y)). let h = t.2 in let k = second t.0 t.1 in inr (le_trans h k)) reached
