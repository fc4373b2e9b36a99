-- The pointers that lead to one leaf, and the blocks that have them.
use Rattle.std.proofs.Common.{◌≡◌, ℕ, ◌+◌, ◌-◌, ◌*◌, ◌/◌, ◌<◌, ◌≤◌, true, List, drop, take, sym, ap, ◌∙◌, subst, arith}
use Rattle.std.proofs.Math.Nat.{mul-le-mul_right}
use Rattle.std.proofs.lemmas.Bool.{cond-true}
use Rattle.std.proofs.lemmas.List.{drop-drop}
use Rattle.gfs2_layout.specs.Bytes.{slice}
use Rattle.gfs2_layout.specs.Holding.{Holding}
use Rattle.gfs2_layout.specs.Inode.{depth_in, dinode_in, entry, first_hash, has_hash_flag, header_length, is_directory_in, is_hashed_in, table_count, unit}
use Rattle.image_model.proofs.Rows.{and_left}
use Rattle.table_changes.specs.Pointers.{HasPointerOf}
use Rattle.hash_steps.specs.Shown.{IsSound}
use Rattle.hash_steps.proofs.Chained.{rules}
use Rattle.hash_steps.proofs.Indexes.{run_within}
use Rattle.hash_steps.specs.Leaves.{first_of, leaf_depth, run_of}
use Rattle.hash_steps.proofs.Contents.{IsTableBlock, table_block}
use Rattle.hash_steps.proofs.Halves.{half_bits, half_run}
use Rattle.hash_inserts.proofs.Blockwise.{size_bounds}

-- ---- bytes behind a place

-- what stands behind a place is the same where all behind it is
pub slice_behind : (xs ys : List ℕ) (from at n : ℕ) → from ≤ at → drop from xs ≡ drop from ys → slice at n xs ≡ slice at n ys
slice_behind xs ys from at n low same =
    let place : from + (at - from) ≡ at = omega (arith, low) in
    let over : (zs : List ℕ) → drop at zs ≡ drop (at - from) (drop from zs) = λ zs. ap (λ k. drop k zs) (sym place) ∙ sym (drop-drop (at - from) from zs) in
    ap (take n) (over xs ∙ ap (drop (at - from)) same ∙ sym (over ys))

-- ---- the pointers to a leaf

-- they are all of the table
pub run_low : (h : Holding) (i : ℕ) → IsSound h → is_hashed_in h ≡ true → i < table_count h → first_of h i + run_of h (leaf_depth h i) ≤ table_count h
run_low h i sound hashed low =
    let is = rules h sound hashed in
    let depth : leaf_depth h i ≤ depth_in h = (is.leaves (entry h i) (first_hash h i) 0 (is.leads i low)).depth in
    let within = run_within i (depth_in h) (leaf_depth h i) depth low in
    by (i / run_of h (leaf_depth h i)) (run_of h (leaf_depth h i)) (table_count h) within
  where
    by : (q r all : ℕ) → (q + 1) * r ≤ all → q * r + r ≤ all
    by q r all most = omega (arith, most)

-- so is their lower half
pub half_less : (h : Holding) (i : ℕ) → leaf_depth h i < depth_in h → run_of h (leaf_depth h i + 1) ≤ run_of h (leaf_depth h i)
half_less h i less = let twice = half_run (depth_in h) (leaf_depth h i) less in omega (arith, twice)

-- the first of a part of them, and the last
pub run_inside : (h : Holding) (i : ℕ) → leaf_depth h i < depth_in h
    → (first_of h i ≤ i / run_of h (leaf_depth h i + 1) * run_of h (leaf_depth h i + 1))
    × (i / run_of h (leaf_depth h i + 1) * run_of h (leaf_depth h i + 1) + run_of h (leaf_depth h i + 1) ≤ first_of h i + run_of h (leaf_depth h i))
run_inside h i less = by (i / run_of h (leaf_depth h i)) (i / run_of h (leaf_depth h i + 1)) (run_of h (leaf_depth h i + 1)) (run_of h (leaf_depth h i)) (half_bits (depth_in h) (leaf_depth h i) i less) (half_run (depth_in h) (leaf_depth h i) less)
  where
    by : (q p r all : ℕ) → p / 2 ≡ q → all ≡ r * 2 → (q * all ≤ p * r) × (p * r + r ≤ q * all + all)
    by q p r all half twice =
        let low : 2 * q * r ≤ p * r = mul-le-mul_right r (omega (arith, half)) in
        let high : (p + 1) * r ≤ (2 * q + 2) * r = mul-le-mul_right r (omega (arith, half)) in
        let all_is : q * all ≡ q * (r * 2) = ap (λ n. q * n) twice in
        (omega (arith, low, all_is), omega (arith, high, all_is, twice))

-- ---- the blocks that have pointers

pub directory_of : (h : Holding) → is_hashed_in h ≡ true → is_directory_in h ≡ true
directory_of h hashed = and_left (is_directory_in h) (has_hash_flag (dinode_in h)) hashed

pub unit_some : (h : Holding) → is_directory_in h ≡ true → 512 ≤ h.size → 0 < unit h
unit_some h directory large = let whole : unit h ≡ h.size - header_length = cond-true (is_directory_in h) (h.size - header_length) h.size directory in omega (arith, whole, large)

-- they are the dinode's block, or of the table
pub pointer_block : (h : Holding) (from count b : ℕ) → IsSound h → is_hashed_in h ≡ true → from + count ≤ table_count h → HasPointerOf h from count b → IsTableBlock h b
pointer_block h from count b sound hashed within pointer =
    let j : ℕ = pointer.0 in
    let low : pointer.0 < table_count h = omega (arith, pointer.1.high, within) in
    subst (IsTableBlock h) (sym pointer.2) (table_block h sound.inode.tree sound.inode.fits (size_bounds h.size sound.block_size).0 (directory_of h hashed) (rules h sound hashed).size pointer.0 low)

-- with one of some it has one of more
pub pointer_of_more : (h : Holding) (from count start many b : ℕ) → start ≤ from → from + count ≤ start + many → HasPointerOf h from count b → HasPointerOf h start many b
pointer_of_more h from count start many b low high pointer = (pointer.0, record { low = omega (arith, low, pointer.1.low); high = omega (arith, high, pointer.1.high) }, pointer.2)
