-- Lists of blocks that may be taken for a file.
use Rattle.std.proofs.Common.{◌≡◌, inl, inr, Option, None, Some, ℕ, zero, suc, List, [], ◌∷◌, ◌++◌, refl, sym, subst, arith}
use Rattle.std.proofs.lemmas.List.Elements.{Contains-append_left, Contains-append_right, Contains-append_cases}
use Rattle.std.specs.Prelude.{Contains, IsSome}
use Rattle.gfs2_layout.specs.Holding.{Cell, Holding}
use Rattle.growth_laws.specs.Files.{with_cells}
use Rattle.growth_drafts.specs.Taken.{AreFreeFor, HasTaken, IsDistinct}

pub none_in : (x : ℕ) → Contains [] x → ⊥
none_in x (k, low, is) = omega (arith, low)

pub only_in : (x b : ℕ) → Contains (x ∷ []) b → b ≡ x
only_in x b (zero, low, is) = sym is
only_in x b (suc k, low, is) = absurd (omega (arith, low))

pub apart_of : (xs ys : List ℕ) (b : ℕ) → IsDistinct (xs ++ ys) → Contains xs b → Contains ys b → ⊥
apart_of [] ys b distinct left right = none_in b left
apart_of (x ∷ xs) ys b distinct left right = elim (Contains-append_cases (x ∷ []) xs b left) [
  | inl first ↦ distinct.0 (subst (Contains (xs ++ ys)) (only_in x b first) (Contains-append_right xs ys b right))
  | inr rest ↦ apart_of xs ys b distinct.1 rest right
]

distinct_back : (xs ys : List ℕ) → IsDistinct (xs ++ ys) → IsDistinct ys
distinct_back [] ys distinct = distinct
distinct_back (x ∷ xs) ys distinct = distinct_back xs ys distinct.1

pub none_some : (o : Option Cell) → o ≡ None → IsSome o → ⊥
none_some None e some = cc
none_some (Some c) e some = cc

none_cell : (o : Option Cell) → (IsSome o → ⊥) → o ≡ None
none_cell None none = refl
none_cell (Some c) none = absurd (none refl)

-- what is left when some from the front are taken
module _ (h : Holding) (cell : ℕ → Option Cell) (taken room left : List ℕ) (free : AreFreeFor h room) (front : room ≡ taken ++ left) where
  back : (b : ℕ) → Contains left b → Contains room b
  back b in_left = subst (λ xs. Contains xs b) (sym front) (Contains-append_right taken left b in_left)

  distinct : IsDistinct (taken ++ left)
  distinct = subst IsDistinct front free.once

  pub free_left : HasTaken h (with_cells h cell) taken → AreFreeFor (with_cells h cell) left
  free_left blocks = record {
    some = λ none. free.some (back 0 none);
    once = distinct_back taken left distinct;
    inside = λ b in_left. free.inside b (back b in_left);
    new = λ b in_left. none_cell (cell b) (λ there. elim ((blocks.blocks b).0 there) [
      | inl had ↦ none_some (h.cell b) (free.new b (back b in_left)) had
      | inr in_taken ↦ apart_of taken left b distinct in_taken in_left
    ]);
  }

  pub free_before : (b : ℕ) → Contains taken b → h.cell b ≡ None
  free_before b in_taken = free.new b (subst (λ xs. Contains xs b) (sym front) (Contains-append_left taken left b in_taken))
