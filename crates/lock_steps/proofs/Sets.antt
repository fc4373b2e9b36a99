-- Sets of nodes.
use Rattle.std.proofs.Common.{ℕ, ◌≡◌, ◌≤◌, Bool, true, false, None, List, [], ◌∷◌, refl, ap, nat_eq, arith}
use Rattle.std.specs.Prelude.{◌||◌, not, ◌^◌}
use Rattle.std.specs.List.{AllByRecursion, list_all}
use Rattle.std.specs.Int.Bits.{and_zero_l}
use Rattle.fencing.specs.NodeSets.{has, all_nodes, least_of}
use Rattle.fencing.proofs.LeastLaws as all_nodes_have
use Rattle.lock_steps.proofs.Basics.{true-false}

-- what holds of all nodes of the list holds of the nodes 0 to 8
pub of-all : (P : ℕ → Type 0) → AllByRecursion P all_nodes → (k : ℕ) → k ≤ 8 → P k
of-all P all k h = all_nodes_have.of-all P all k (omega arith)

-- a set without a least node has none
pub least-none : (set : ℕ) → least_of set ≡ None → (k : ℕ) → k ≤ 8 → has set k ≡ false
least-none set e k h = all_nodes_have.least-none set k e (omega arith)

pub zero-has : (k : ℕ) → has 0 k ≡ false
zero-has k = ap (λ (n : ℕ). not (nat_eq n 0)) (and_zero_l (2 ^ k))

all-true : (p : ℕ → Bool) (ks : List ℕ) → list_all p ks ≡ true → AllByRecursion (λ k. p k ≡ true) ks
all-true p [] e = tt
all-true p (k ∷ ks) e = by (p k) refl (all-true p ks)
  where
    by : (b : Bool) → p k ≡ b → (list_all p ks ≡ true → AllByRecursion (λ k. p k ≡ true) ks) → (p k ≡ true) × AllByRecursion (λ k. p k ≡ true) ks
    by true h rest = (h, rest (rw h at e))
    by false h rest = true-false {b = false} (rw h at e) refl

-- every member has ended
pub all-ended : (members ended : ℕ) → list_all (λ node. not (has members node) || has ended node) all_nodes ≡ true → (k : ℕ) → k ≤ 8 → has members k ≡ true → has ended k ≡ true
all-ended members ended e k h m =
    elim-or (has members k) (has ended k) m (of-all (λ k. (not (has members k) || has ended k) ≡ true) (all-true (λ node. not (has members node) || has ended node) all_nodes e) k h)
  where
    elim-or : (a b : Bool) → a ≡ true → (not a || b) ≡ true → b ≡ true
    elim-or true b e f = f
    elim-or false b e f = true-false e refl
