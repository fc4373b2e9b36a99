-- Lists that rise: at each place what stands nowhere before it.
use Rattle.std.proofs.Common.{◌≡◌, ℕ, zero, suc, ◌+◌, ◌<◌, List, [], ◌∷◌, length, map, take, get_or, slice_index, Contains, refl, sym, ap, subst, arith}
use Rattle.std.specs.List.Sorted.{IsStrictlyIncreasing}
use Rattle.drafts.specs.declared.change.Written.{Written}
use Rattle.drafts.specs.declared.change.Change.{Change}
use Rattle.log_layout.specs.Chunks.{Logged}
use Rattle.journal_scan.specs.Said.{logged}
use Rattle.log_values.specs.Changes.{CanBeAdded}
use Rattle.log_memory.proofs.Halves.{Lacks, numbers}

rises_on : (x : ℕ) (xs : List ℕ) → IsStrictlyIncreasing (x ∷ xs) → IsStrictlyIncreasing xs
rises_on x xs rise k less =
    let e : suc k + 1 ≡ suc (k + 1) = omega arith in
    subst (λ n. slice_index (x ∷ xs) (suc k) < slice_index (x ∷ xs) n) e (rise (suc k) (omega (arith, less)))

above : (x : ℕ) (xs : List ℕ) (i : ℕ) → IsStrictlyIncreasing (x ∷ xs) → i < length xs → x < get_or xs i 0
above x [] i rise less = absurd (omega (arith, less))
above x (y ∷ ys) zero rise less = rise 0 (omega arith)
above x (y ∷ ys) (suc i) rise less =
    let first : x < y = rise 0 (omega arith) in
    let rest : y < get_or ys i 0 = above y ys i (rises_on x (y ∷ ys) rise) (omega (arith, less)) in
    omega (arith, first, rest)

lacks_none : (b : ℕ) → Lacks [] b
lacks_none b there = absurd (impossible there.1)
  where
    impossible : there.0 < 0 → ⊥
    impossible less = omega arith

lacks_more : (x : ℕ) (xs : List ℕ) (b : ℕ) → (x ≡ b → ⊥) → Lacks xs b → Lacks (x ∷ xs) b
lacks_more x xs b ne lacks there = by there.0 there.1 there.2
  where
    by : (k : ℕ) → k < length (x ∷ xs) → get_or (x ∷ xs) k b ≡ b → ⊥
    by zero less e = ne e
    by (suc k) less e = lacks (k, omega (arith, less), e)

pub lacks_before : (xs : List ℕ) (i : ℕ) → IsStrictlyIncreasing xs → i < length xs → Lacks (take i xs) (get_or xs i 0)
lacks_before [] i rise less = absurd (omega (arith, less))
lacks_before (x ∷ xs) zero rise less = lacks_none x
lacks_before (x ∷ xs) (suc i) rise less =
    let low = above x xs i rise (omega (arith, less)) in
    lacks_more x (take i xs) (get_or xs i 0) (λ e. omega (arith, low, e)) (lacks_before xs i (rises_on x xs rise) (omega (arith, less)))

number_at : (ws : List Written) (i d : ℕ) (w : Written) → i < length ws → w ≡ get_or ws i w → get_or (numbers ws) i d ≡ w.block
number_at [] i d w less e = absurd (omega (arith, less))
number_at (x ∷ ws) zero d w less e = ap (λ (v : Written). v.block) (sym e)
number_at (x ∷ ws) (suc i) d w less e = number_at ws i d w (omega (arith, less)) e

front : (i : ℕ) (ws : List Written) → take i (numbers ws) ≡ numbers (take i ws)
front zero ws = refl
front (suc i) [] = refl
front (suc i) (w ∷ ws) = ap (λ ns. w.block ∷ ns) (front i ws)

count : (ws : List Written) → length (numbers ws) ≡ length ws
count [] = refl
count (w ∷ ws) = ap suc (count ws)

logged_numbers : (ws : List Written) → map (λ (e : Logged). e.block) (map logged ws) ≡ numbers ws
logged_numbers [] = refl
logged_numbers (w ∷ ws) = ap (λ ns. w.block ∷ ns) (logged_numbers ws)

module _ (size : ℕ) (c : Change) (can : CanBeAdded size c) (i : ℕ) (w : Written) (less : i < length c.blocks.items) (at : w ≡ get_or c.blocks.items i w) where
  -- none of the blocks that are written before is this
  pub unwritten_before : Lacks (numbers (take i c.blocks.items)) w.block
  unwritten_before =
      subst (λ ns. Lacks ns w.block) (front i c.blocks.items)
      (subst (λ b. Lacks (take i (numbers c.blocks.items)) b) (number_at c.blocks.items i 0 w less at)
      (lacks_before (numbers c.blocks.items) i (subst IsStrictlyIncreasing (logged_numbers c.blocks.items) can.whole.rising) (let n = count c.blocks.items in omega arith)))

  -- nor is one that is freed
  pub unfreed : Lacks c.freed.items w.block
  unfreed = can.whole.apart w.block
      (subst (λ ns. Contains ns w.block) (sym (logged_numbers c.blocks.items)) (i, (let n = count c.blocks.items in omega arith), number_at c.blocks.items i w.block w less at))
