-- Lists of locks, and the fronts of a path.
use Rattle.std.proofs.Common.{◌≡◌, ℕ, zero, suc, ◌≤◌, ◌<◌, List, [], ◌∷◌, ◌++◌, take, drop, flat_map, slice_get, Option, None, Some, refl, ap, ap₂, ◌∙◌, arith}
use Rattle.std.proofs.lemmas.Grind.{flat_map-append}
use Rattle.std.proofs.lemmas.List.{append-nil}
use Rattle.std.specs.Prelude.{option_and_then}
use Rattle.image_model.proofs.Held.{some_same}
use Rattle.file_tree.specs.Names.{parent_of}
use Rattle.image_model.specs.Flat.{Path, Flat, follow}
use Rattle.image_changes.proofs.FlatPaths.{follow-append, after_some}

-- a list at one of its places
pub split_at : {X : Type 0} (xs : List X) (k : ℕ) (x : X) → slice_get xs k ≡ Some x → xs ≡ take k xs ++ x ∷ drop (suc k) xs
split_at [] k x at = cc
split_at (y ∷ ys) zero x at = ap (λ z. z ∷ ys) (some_same at)
split_at (y ∷ ys) (suc k) x at = ap (λ zs. y ∷ zs) (split_at ys k x at)

pub take_next : {X : Type 0} (xs : List X) (k : ℕ) (x : X) → slice_get xs k ≡ Some x → take (suc k) xs ≡ take k xs ++ x ∷ []
take_next [] k x at = cc
take_next (y ∷ ys) zero x at = ap (λ z. z ∷ []) (some_same at)
take_next (y ∷ ys) (suc k) x at = ap (λ zs. y ∷ zs) (take_next ys k x at)

-- what is made of the elements up to a place, and of those from it on
pub with_next : {X Y : Type 0} (f : X → List Y) (xs : List X) (k : ℕ) (x : X) → slice_get xs k ≡ Some x → flat_map f (take (suc k) xs) ≡ flat_map f (take k xs) ++ f x
with_next f xs k x at = ap (flat_map f) (take_next xs k x at) ∙ flat_map-append f (take k xs) (x ∷ []) ∙ ap (λ b. flat_map f (take k xs) ++ b) (append-nil (f x))

pub made_at : {X Y : Type 0} (f : X → List Y) (xs : List X) (k : ℕ) (x : X) → slice_get xs k ≡ Some x
    → flat_map f xs ≡ flat_map f (take k xs) ++ (f x ++ flat_map f (drop (suc k) xs))
made_at f xs k x at = ap (flat_map f) (split_at xs k x at) ∙ flat_map-append f (take k xs) (x ∷ drop (suc k) xs)

-- nothing is made of those behind a place
pub no_more : {X Y : Type 0} (f : X → List Y) (xs : List X) (k : ℕ) → ((i : ℕ) (x : X) → k ≤ i → slice_get xs i ≡ Some x → f x ≡ []) → flat_map f xs ≡ flat_map f (take k xs)
no_more f [] zero none = refl
no_more f [] (suc k) none = refl
no_more f (x ∷ xs) zero none = ap₂ (λ a b. a ++ b) (none 0 x (omega arith) refl) (no_more f xs zero (λ i y low at. none (suc i) y (omega arith) at))
no_more f (x ∷ xs) (suc k) none = ap (λ b. f x ++ b) (no_more f xs k (λ i y low at. none (suc i) y (omega (arith, low)) at))

-- a path that goes on
pub parent_of_next : (path : Path) (n : List ℕ) → parent_of (path ++ n ∷ []) ≡ path
parent_of_next [] n = refl
parent_of_next (m ∷ []) n = refl
parent_of_next (m ∷ k ∷ path) n = ap (λ p. m ∷ p) (parent_of_next (k ∷ path) n)

-- a front behind a name that leads nowhere
pub nowhere : (f : Flat) (root a : ℕ) (path : Path) (i j : ℕ) (n : List ℕ) → slice_get path i ≡ Some n → follow f root (take i path) ≡ Some a → (f a).child n ≡ None → i < j
    → follow f root (take j path) ≡ None
nowhere f root a [] i j n at here none low = cc
nowhere f root a (m ∷ path) i zero n at here none low = absurd (omega (arith, low))
nowhere f root a (m ∷ path) zero (suc j) n at here none low =
    ap (option_and_then (λ b. follow f b (take j path))) (ap (λ x. (f x).child m) (some_same here) ∙ ap (λ x. (f a).child x) (some_same at) ∙ none)
nowhere f root a (m ∷ path) (suc i) (suc j) n at here none low =
    let s = after_some (λ b. follow f b (take i path)) ((f root).child m) a here in
    ap (option_and_then (λ b. follow f b (take j path))) s.1 ∙ nowhere f s.0 a path i j n at s.2 none (omega (arith, low))

-- and one that leads on
pub onward : (f : Flat) (root a : ℕ) (path : Path) (i : ℕ) (n : List ℕ) → slice_get path i ≡ Some n → follow f root (take i path) ≡ Some a
    → follow f root (take (suc i) path) ≡ (f a).child n
onward f root a path i n at here = ap (follow f root) (take_next path i n at) ∙ follow-append f (take i path) (n ∷ []) root a here ∙ last ((f a).child n)
  where
    last : (x : Option ℕ) → option_and_then (λ b. Some b) x ≡ x
    last None = refl
    last (Some b) = refl
