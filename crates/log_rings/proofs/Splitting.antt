-- Two ways to part a journal's transactions.
use Rattle.std.proofs.Common.{◌≡◌, ◌+◌, ◌<◌, ◌≤◌, ◌++◌, ℕ, List, [], ◌∷◌, Option, refl, sym, ap, ◌∙◌, arith}
use Rattle.log_layout.specs.Journal.{Ring}
use Rattle.node_journal.specs.Places.{place_on}
use Rattle.log_rings.specs.Laid.{AreLaid, Laid, places_of}
use Rattle.log_rings.proofs.Pieces.{places-append}

-- the first of two parts ends within the first of the others, or behind it
pub data IsParted (before ts before' ts' : List Laid) : Type 0 where
  sooner : (t : Laid) (rest : List Laid) → before' ≡ before ++ t ∷ rest → ts ≡ (t ∷ rest) ++ ts' → IsParted before ts before' ts'
  later : (rest : List Laid) → before ≡ before' ++ rest → ts' ≡ rest ++ ts → IsParted before ts before' ts'

pub parted : (before ts before' ts' : List Laid) → before ++ ts ≡ before' ++ ts' → IsParted before ts before' ts'
parted before ts [] ts' e = later before refl (sym e)
parted [] ts (t ∷ before') ts' e = sooner t before' refl e
parted (u ∷ before) ts (t ∷ before') ts' e = more (parted before ts before' ts' tails)
  where
    heads : u ≡ t
    heads = cc

    tails : before ++ ts ≡ before' ++ ts'
    tails = cc

    more : IsParted before ts before' ts' → IsParted (u ∷ before) ts (t ∷ before') ts'
    more (sooner x rest one two) = sooner x rest (λ i. sym heads i ∷ one i) two
    more (later rest one two) = later rest (λ i. heads i ∷ one i) two

-- each takes a place at least
abbrev pub AllSome : List Laid → Type 0
AllSome [] = Unit {0}
AllSome (t ∷ ts) = (1 ≤ t.count) × AllSome ts

pub all_some : (ring : Ring) (p : ℕ) (last : Option ℕ) (ts : List Laid) (q : ℕ) → AreLaid ring p last ts q → AllSome ts
all_some ring p last [] q are = tt
all_some ring p last (t ∷ ts) q are = (are.1, all_some ring (place_on ring.places p t.count) _ ts q are.3)

pub some_behind : (before ts : List Laid) → AllSome (before ++ ts) → AllSome ts
some_behind [] ts all = all
some_behind (t ∷ before) ts all = some_behind before ts all.1

-- the last of a list that isn't empty
pub snoc : {A : Type 0} (xs ys : List A) (x y : A) → xs ++ x ∷ [] ≡ ys ++ y ∷ [] → (xs ≡ ys) × (x ≡ y)
snoc [] [] x y e = (refl, cc)
snoc [] (z ∷ []) x y e = absurd cc
snoc [] (z ∷ w ∷ ys) x y e = absurd cc
snoc (z ∷ []) [] x y e = absurd cc
snoc (z ∷ w ∷ xs) [] x y e = absurd cc
snoc (z ∷ xs) (w ∷ ys) x y e = more (snoc xs ys x y tails)
  where
    heads : z ≡ w
    heads = cc

    tails : xs ++ x ∷ [] ≡ ys ++ y ∷ []
    tails = cc

    more : (xs ≡ ys) × (x ≡ y) → (z ∷ xs ≡ w ∷ ys) × (x ≡ y)
    more both = ((λ i. heads i ∷ both.0 i), both.1)
