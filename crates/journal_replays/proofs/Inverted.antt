-- Turns of blocks, taken apart again.
use Rattle.std.proofs.Common.{◌≡◌, ℕ, ◌+◌, ◌≤◌, List, [], ◌∷◌, ◌++◌, length, refl, sym, ap, ap₂, subst, ◌∙◌, arith}
use Rattle.std.proofs.lemmas.List.{length-append}
use Rattle.drafts.specs.declared.change.Written.{Written}
use Rattle.shared_disk.specs.Disk.{Operation}
use Rattle.disk_turns.specs.Turns.{AreBrought, IsTurn, none, turn, turn_of}

head_same : {A : Type 0} {x y : A} {xs ys : List A} → x ∷ xs ≡ y ∷ ys → x ≡ y
head_same e = cc

tail_same : {A : Type 0} {x y : A} {xs ys : List A} → x ∷ xs ≡ y ∷ ys → xs ≡ ys
tail_same e = cc

-- two fronts of the same length
cut : (xs behind ys later : List Written) → length xs ≡ length ys → xs ++ behind ≡ ys ++ later → (xs ≡ ys) × (behind ≡ later)
cut [] behind [] later long same = (refl, same)
cut [] behind (y ∷ ys) later long same = absurd (omega (arith, long))
cut (x ∷ xs) behind [] later long same = absurd (omega (arith, long))
cut (x ∷ xs) behind (y ∷ ys) later long same =
    let rest = cut xs behind ys later (omega (arith, long)) (tail_same same) in
    (ap₂ (λ (v : Written) (vs : List Written). v ∷ vs) (head_same same) rest.0, rest.1)

-- two turns that come next have the same length
as_long : (some later xs behind : List Written) → some ++ later ≡ xs ++ behind → IsTurn some later → IsTurn xs behind → length some ≡ length xs
as_long some later xs behind same a b = by later behind (sym (length-append some later) ∙ ap length same ∙ length-append xs behind) a b
  where
    by : (later behind : List Written) → length some + length later ≡ length xs + length behind → IsTurn some later → IsTurn xs behind → length some ≡ length xs
    by [] [] long a b = omega (arith, long)
    by [] (v ∷ vs) long a b = let whole = b.whole (λ e. cc) in let few = a.few in omega (arith, long, whole, few)
    by (w ∷ ws) [] long a b = let whole = a.whole (λ e. cc) in let few = b.few in omega (arith, long, whole, few)
    by (w ∷ ws) (v ∷ vs) long a b = let one = a.whole (λ e. cc) in let other = b.whole (λ e. cc) in omega (arith, one, other)

pub record IsSplit (node : ℕ) (some later : List Written) (operations : List Operation) : Type 0 where
  pub left : List Operation
  pub are : operations ≡ turn_of node some ++ left
  pub brought : AreBrought node later left

-- the operations of blocks begin with those of their first turn
pub split_turn : (node : ℕ) (rest : List Written) (operations : List Operation) → AreBrought node rest operations → (some later : List Written) → rest ≡ some ++ later → IsTurn some later
    → IsSplit node some later operations
split_turn node rest operations none [] later parts is = let no : 1 ≤ 0 = is.not_none in absurd (omega (arith, no))
split_turn node rest operations none (w ∷ ws) later parts is = absurd (let no : [] ≡ w ∷ (ws ++ later) = parts in cc)
split_turn node rest operations (turn xs behind more first are) some later parts is =
    let same = cut xs behind some later (as_long xs behind some later parts first is) parts in
    record { left = more; are = ap (λ (ws : List Written). turn_of node ws ++ more) same.0; brought = subst (λ (ws : List Written). AreBrought node ws more) same.1 are }

-- nothing takes no operation
pub no_turn : (node : ℕ) (rest : List Written) (operations : List Operation) → AreBrought node rest operations → rest ≡ [] → operations ≡ []
no_turn node rest operations none empty = refl
no_turn node rest operations (turn xs behind more first are) empty = absurd (some xs first.not_none empty)
  where
    some : (xs : List Written) → 1 ≤ length xs → xs ++ behind ≡ [] → ⊥
    some [] long is = omega (arith, long)
    some (x ∷ xs) long is = cc
