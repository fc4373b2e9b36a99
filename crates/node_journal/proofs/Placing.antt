-- Blocks at their places round the ring.
use Rattle.std.proofs.Common.{◌≡◌, ◌+◌, ◌<◌, ◌++◌, ℕ, zero, suc, List, [], ◌∷◌, length, map, take, refl, sym, ap, ◌∙◌, arith, Some}
use Rattle.std.specs.List.{slice_get}
use Rattle.std.proofs.lemmas.List.{length-take, map-append}
use Rattle.std.proofs.lemmas.Option.{slice_get_within}
use Rattle.log_layout.specs.Journal.{Placed, next}
use Rattle.node_journal.specs.Places.{place_on, placed_from}

-- the place behind so many is the next one
pub one_further : (places p n : ℕ) → place_on places p (n + 1) ≡ next places (place_on places p n)
one_further places p zero = refl
one_further places p (suc n) = ap (place_on places p) (let e : suc n + 1 ≡ suc (n + 1) = omega arith in e) ∙ one_further places (next places p) n

-- one block more stands behind the others
pub placed_behind : (places p : ℕ) (xs ys : List (List ℕ)) → placed_from places p (xs ++ ys) ≡ placed_from places p xs ++ placed_from places (place_on places p (length xs)) ys
placed_behind places p [] ys = refl
placed_behind places p (x ∷ xs) ys = ap (λ (bs : List Placed). record { place = p; bytes = x } ∷ bs) (placed_behind places (next places p) xs ys)

-- so many of them are placed, and the next goes behind them
take_next : (xs : List (List ℕ)) (i : ℕ) (b : List ℕ) → slice_get xs i ≡ Some b → take (i + 1) xs ≡ take i xs ++ b ∷ []
take_next [] i b is = absurd (omega (arith, slice_get_within [] i b is))
take_next (x ∷ xs) zero b is = cc
take_next (x ∷ xs) (suc i) b is = ap (λ n. take n (x ∷ xs)) (let e : suc i + 1 ≡ suc (i + 1) = omega arith in e) ∙ ap (λ ys. x ∷ ys) (take_next xs i b is)

-- a block behind those that are placed
pub placed_next : {W : Type 0} (f : W → Placed) (places p : ℕ) (blocks : List (List ℕ)) (b : List ℕ) (placed after : List W) (w : W)
    → map f placed ≡ placed_from places p blocks → after ≡ placed ++ w ∷ [] → f w ≡ record { place = place_on places p (length blocks); bytes = b }
    → map f after ≡ placed_from places p (blocks ++ b ∷ [])
placed_next f places p blocks b placed after w so put one =
    ap (map f) put ∙ map-append f placed (w ∷ []) ∙ (λ j. so j ++ one j ∷ []) ∙ sym (placed_behind places p blocks (b ∷ []))

pub one_more_placed : {W : Type 0} (f : W → Placed) (places p i : ℕ) (blocks : List (List ℕ)) (b : List ℕ) (placed after : List W) (w : W)
    → slice_get blocks i ≡ Some b → map f placed ≡ placed_from places p (take i blocks) → after ≡ placed ++ w ∷ []
    → f w ≡ record { place = place_on places p i; bytes = b }
    → map f after ≡ placed_from places p (take (i + 1) blocks)
one_more_placed f places p i blocks b placed after w is so put one =
    placed_next f places p (take i blocks) b placed after w so put (one ∙ (λ j. record { place = place_on places p (sym front j); bytes = b }))
    ∙ ap (placed_from places p) (sym (take_next blocks i b is))
  where
    front : length (take i blocks) ≡ i
    front = let inside : i < length blocks = slice_get_within blocks i b is in (let e : length (take i blocks) ≡ i = omega (arith, length-take i blocks, inside) in e)
