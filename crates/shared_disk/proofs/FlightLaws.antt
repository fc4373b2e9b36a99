-- Writes in flight in rising order of their blocks.
use Rattle.std.proofs.Common.{◌≡◌, ◌≢◌, ℕ, zero, suc, ◌<◌, ◌≤◌, true, false, List, [], ◌∷◌, ◌++◌, length, take, drop, map, set, get_or, eqb, arith}
use Rattle.std.specs.Prelude.{Option, None, Some}
use Rattle.std.specs.List.{AllByRecursion}
use Rattle.shared_disk.specs.Disk.{Flight, AreRising}

pub all_weaken : {X : Type 0} (P Q : X → Type 0) → ((x : X) → P x → Q x) → (xs : List X) → AllByRecursion P xs → AllByRecursion Q xs
all_weaken P Q f [] h = tt
all_weaken P Q f (x ∷ xs) h = (f x h.0, all_weaken P Q f xs h.1)

pub all_at : {X : Type 0} (P : X → Type 0) (xs : List X) (k : ℕ) (d : X) → AllByRecursion P xs → k < length xs → P (get_or xs k d)
all_at P [] k d h within = absurd (omega arith)
all_at P (x ∷ xs) zero d h within = h.0
all_at P (x ∷ xs) (suc k) d h within = all_at P xs k d h.1 (omega arith)

pub all_map : {X Y : Type 0} (P : Y → Type 0) (f : X → Y) (xs : List X) → AllByRecursion P (map f xs) → AllByRecursion (λ x. P (f x)) xs
all_map P f [] h = tt
all_map P f (x ∷ xs) h = (h.0, all_map P f xs h.1)

pub all_mapped : {X Y : Type 0} (P : Y → Type 0) (f : X → Y) (xs : List X) → AllByRecursion (λ x. P (f x)) xs → AllByRecursion P (map f xs)
all_mapped P f [] h = tt
all_mapped P f (x ∷ xs) h = (h.0, all_mapped P f xs h.1)

pub all_set : {X : Type 0} (P : X → Type 0) (xs : List X) (i : ℕ) (x : X) → AllByRecursion P xs → P x → AllByRecursion P (set xs i x)
all_set P [] i x h new = tt
all_set P (y ∷ ys) zero x h new = (new, h.1)
all_set P (y ∷ ys) (suc i) x h new = (h.0, all_set P ys i x h.1 new)

pub all_take : {X : Type 0} (P : X → Type 0) (n : ℕ) (xs : List X) → AllByRecursion P xs → AllByRecursion P (take n xs)
all_take P zero xs h = tt
all_take P (suc n) [] h = tt
all_take P (suc n) (x ∷ xs) h = (h.0, all_take P n xs h.1)

pub all_drop : {X : Type 0} (P : X → Type 0) (n : ℕ) (xs : List X) → AllByRecursion P xs → AllByRecursion P (drop n xs)
all_drop P zero xs h = h
all_drop P (suc n) [] h = tt
all_drop P (suc n) (x ∷ xs) h = all_drop P n xs h.1

pub all_append : {X : Type 0} (P : X → Type 0) (xs ys : List X) → AllByRecursion P xs → AllByRecursion P ys → AllByRecursion P (xs ++ ys)
all_append P [] ys h k = k
all_append P (x ∷ xs) ys h k = (h.0, all_append P xs ys h.1 k)

-- the blocks after the first are above it
pub rising_head : (f : Flight) (fs : List Flight) → AreRising (f ∷ fs) → AllByRecursion (λ g. f.block < g.block) fs
rising_head f [] h = tt
rising_head f (g ∷ gs) h =
    (h.0, all_weaken (λ (x : Flight). g.block < x.block) (λ (x : Flight). f.block < x.block) (λ x above. omega (arith, h.0)) gs (rising_head g gs h.1))

pub rising_tail : (f : Flight) (fs : List Flight) → AreRising (f ∷ fs) → AreRising fs
rising_tail f [] h = tt
rising_tail f (g ∷ gs) h = h.1

pub rising_cons : (f : Flight) (fs : List Flight) → AllByRecursion (λ g. f.block < g.block) fs → AreRising fs → AreRising (f ∷ fs)
rising_cons f [] above rising = tt
rising_cons f (g ∷ gs) above rising = (above.0, rising)

pub not_equal : (a b : ℕ) → a ≢ b → eqb a b ≡ false
not_equal a b h = grind arith

pub equal : (a b : ℕ) → a ≡ b → eqb a b ≡ true
equal a b h = grind arith

pub strictly : (a b : ℕ) → a ≤ b → b ≢ a → a < b
strictly a b h other = grind arith

pub none_some : {X : Type 0} (o : Option X) (x : X) → o ≡ None → o ≡ Some x → ⊥
none_some o x e f = cc
