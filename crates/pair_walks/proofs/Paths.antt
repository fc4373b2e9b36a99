-- Paths and lists at one of their places.
use Rattle.std.proofs.Common.{◌≡◌, ◌≢◌, ℕ, zero, suc, ◌+◌, ◌<◌, ◌≤◌, List, [], ◌∷◌, ◌++◌, length, take, drop, flat_map, slice_get, get_or, Some, refl, ap, ap₂, ◌∙◌, arith}
use Rattle.std.proofs.lemmas.List.{length-append, length-take-le}
use Rattle.std.proofs.lemmas.Option.{slice_get-get_or, slice_get_within}
use Rattle.file_tree.specs.Names.{last_of, parent_of}
use Rattle.image_model.specs.Flat.{Path}
use Rattle.image_model.proofs.Held.{some_same}
use Rattle.path_walks.proofs.Lists.{parent_of_next, split_at}

pub name_at : (path : Path) (k : ℕ) → k < length path → (n : List ℕ) × (slice_get path k ≡ Some n)
name_at path k low = (get_or path k [], slice_get-get_or path k [] low)

pub long : (path : Path) (k : ℕ) (n : List ℕ) → slice_get path k ≡ Some n → length (take k path) ≡ k
long path k n at = length-take-le k path (omega (arith, slice_get_within path k n at))

-- the names up to one of a path
pub take_front : (front back : Path) (n : List ℕ) → take (length front + 1) (front ++ n ∷ back) ≡ front ++ n ∷ []
take_front [] back n = refl
take_front (m ∷ front) back n =
    let e : length (m ∷ front) + 1 ≡ suc (length front + 1) = omega arith in
    ap (λ k. take k (m ∷ (front ++ n ∷ back))) e ∙ ap (λ p. m ∷ p) (take_front front back n)

-- what is left behind one
pub drop_next : {X : Type 0} (xs : List X) (k : ℕ) (x : X) → slice_get xs k ≡ Some x → drop k xs ≡ x ∷ drop (suc k) xs
drop_next [] k x at = cc
drop_next (y ∷ ys) zero x at = ap (λ z. z ∷ ys) (some_same at)
drop_next (y ∷ ys) (suc k) x at = drop_next ys k x at

-- nothing is made of those behind a place
pub none_behind : {X Y : Type 0} (f : X → List Y) (xs : List X) (k : ℕ) → ((i : ℕ) (x : X) → k ≤ i → slice_get xs i ≡ Some x → f x ≡ []) → flat_map f (drop k xs) ≡ []
none_behind f [] zero none = refl
none_behind f [] (suc k) none = refl
none_behind f (x ∷ xs) zero none = ap₂ (λ a b. a ++ b) (none 0 x (omega arith) refl) (none_behind f xs 0 (λ i y low at. none (suc i) y (omega arith) at))
none_behind f (x ∷ xs) (suc k) none = none_behind f xs k (λ i y low at. none (suc i) y (omega (arith, low)) at)

-- ---- the last name

pub last_of_next : (path : Path) (n : List ℕ) → last_of (path ++ n ∷ []) ≡ n
last_of_next [] n = refl
last_of_next (m ∷ []) n = refl
last_of_next (m ∷ k ∷ path) n = last_of_next (k ∷ path) n

pub ends_so : (path : Path) → path ≢ [] → path ≡ parent_of path ++ last_of path ∷ []
ends_so [] some = absurd (some refl)
ends_so (n ∷ []) some = refl
ends_so (n ∷ m ∷ path) some = ap (λ p. n ∷ p) (ends_so (m ∷ path) (λ e. cc))

pub parent_longer : (front : Path) (n m : List ℕ) (rest : Path) → parent_of (front ++ n ∷ m ∷ rest) ≡ front ++ n ∷ parent_of (m ∷ rest)
parent_longer [] n m rest = refl
parent_longer (x ∷ []) n m rest = refl
parent_longer (x ∷ y ∷ front) n m rest = ap (λ p. x ∷ p) (parent_longer (y ∷ front) n m rest)

-- where the name at a place is the last one, those before it are its parent's
pub last_at : (path : Path) (k : ℕ) (n : List ℕ) → slice_get path k ≡ Some n → k + 1 ≡ length path → path ≡ take k path ++ n ∷ []
last_at path k n at e = split_at path k n at ∙ ap (λ p. take k path ++ n ∷ p) (none_left path (suc k) (omega (arith, e)))
  where
    none_left : (xs : Path) (j : ℕ) → length xs ≤ j → drop j xs ≡ []
    none_left [] zero low = refl
    none_left [] (suc j) low = refl
    none_left (x ∷ xs) zero low = absurd (omega (arith, low))
    none_left (x ∷ xs) (suc j) low = none_left xs j (omega (arith, low))

pub last_parent : (path : Path) (k : ℕ) (n : List ℕ) → slice_get path k ≡ Some n → k + 1 ≡ length path → (parent_of path ≡ take k path) × (last_of path ≡ n)
last_parent path k n at e =
    let whole = last_at path k n at e in
    (ap parent_of whole ∙ parent_of_next (take k path) n, ap last_of whole ∙ last_of_next (take k path) n)

-- where it isn't, they and it begin the parent's
pub before_last : (path : Path) (k : ℕ) (n : List ℕ) → slice_get path k ≡ Some n → k + 1 < length path → (rest : Path) × (parent_of path ≡ take k path ++ n ∷ rest)
before_last path k n at low = more (drop (suc k) path) (split_at path k n at)
  where
    more : (behind : Path) → path ≡ take k path ++ n ∷ behind → (rest : Path) × (parent_of path ≡ take k path ++ n ∷ rest)
    more [] whole = absurd (omega (arith, low, ap length whole, length-append (take k path) (n ∷ []), long path k n at))
    more (m ∷ ms) whole = (parent_of (m ∷ ms), ap parent_of whole ∙ parent_longer (take k path) n m ms)
