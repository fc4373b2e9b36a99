-- Frames of one length side by side in a region: each is within it, and what is written to one is not in another.
use Rattle.std.proofs.Common.{◌≡◌, ◌≢◌, ℕ, suc, ◌+◌, ◌-◌, ◌*◌, ◌<◌, ◌≤◌, ◌⊎◌, inl, inr, List, ◌++◌, length, take, drop, sym, ap, ◌∙◌, arith, length-drop, take_at, drop_at, drop-drop, take-append-drop}
use Rattle.std.proofs.lemmas.Bool.{cases_lt}
use Rattle.std.proofs.lemmas.Nat.{mul-le}
use Rattle.std.proofs.lemmas.List.{drop-append-le, take-append-le, length-take-le}
use native.Mathlib.Nat.{suc-mul}
use Rattle.std.specs.List.{refill}
use Rattle.frame_pool.specs.Parts.{with_part}
use Rattle.frame_pool.specs.Inside.{frame_at}
use Rattle.frame_pool.proofs.Regions.{length-part, length-refilled}

pub side_by_side : (size m n : ℕ) → m < n → m * size + size ≤ n * size
side_by_side size m n h = omega (arith, mul-le (suc m) size n size (omega arith) (omega arith), suc-mul m size)

module _ (size count : ℕ) (bytes : List ℕ) (all : length bytes ≡ count * size) where
  pub frame_within : (n : ℕ) → n < count → n * size + size ≤ length bytes
  frame_within n h = omega (arith, side_by_side size n count h, all)

  pub length-frame_at : (n : ℕ) → n < count → length (frame_at bytes size n) ≡ size
  length-frame_at n h = length-part bytes (n * size) size (frame_within n h)

  module _ (n : ℕ) (w : List ℕ) (within : n < count) where
    abbrev at : ℕ
    at = n * size

    abbrev new : List ℕ
    new = refill size (frame_at bytes size n) w

    new-length : length new ≡ size
    new-length = length-refilled bytes at size w (frame_within n within)

    front : length (take at bytes) ≡ at
    front = length-take-le at bytes (omega (arith, frame_within n within))

    pub written_same : frame_at (with_part bytes at size w) size n ≡ new
    written_same = ap (take size) (drop_at (take at bytes) (new ++ drop (at + size) bytes) at front) ∙ take_at new (drop (at + size) bytes) size new-length

    -- what lies before a part is the same in each list that begins with it
    before : (xs ys : List ℕ) (k : ℕ) → k + size ≤ length xs → take size (drop k (xs ++ ys)) ≡ take size (drop k xs)
    before xs ys k h = ap (take size) (drop-append-le k xs ys (omega arith)) ∙ take-append-le size (drop k xs) ys (omega (arith, length-drop k xs))

    past : drop (at + size) (with_part bytes at size w) ≡ drop (at + size) bytes
    past = sym (drop-drop size at (with_part bytes at size w)) ∙ ap (drop size) (drop_at (take at bytes) (new ++ drop (at + size) bytes) at front)
        ∙ drop_at new (drop (at + size) bytes) size new-length

    pub written_other : (m : ℕ) → m ≢ n → frame_at (with_part bytes at size w) size m ≡ frame_at bytes size m
    written_other m ne = by (cases_lt m n)
      where
        by : (m < n) ⊎ (n ≤ m) → frame_at (with_part bytes at size w) size m ≡ frame_at bytes size m
        by (inl less) =
            let ends : m * size + size ≤ length (take at bytes) = omega (arith, side_by_side size m n less, front) in
            before (take at bytes) (new ++ drop (at + size) bytes) (m * size) ends
            ∙ sym (before (take at bytes) (drop at bytes) (m * size) ends) ∙ ap (λ l. take size (drop (m * size) l)) (take-append-drop at bytes)
        by (inr more) =
            let gap = m * size - (at + size) in
            let far : at + size ≤ m * size = side_by_side size n m (omega (arith, more, ne)) in
            let begins : m * size ≡ at + size + gap = omega (arith, far) in
            ap (λ k. take size (drop k (with_part bytes at size w))) begins ∙ sym (ap (take size) (drop-drop gap (at + size) (with_part bytes at size w)))
            ∙ ap (λ l. take size (drop gap l)) past ∙ ap (take size) (drop-drop gap (at + size) bytes) ∙ ap (λ k. take size (drop k bytes)) (sym begins)
