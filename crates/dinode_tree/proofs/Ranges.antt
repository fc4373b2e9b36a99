-- What a range of the content is, piece by piece.
use Rattle.std.proofs.Common.{◌≡◌, ◌⊎◌, ℕ, zero, suc, ◌+◌, ◌-◌, ◌*◌, ◌/◌, ◌%◌, ◌<◌, ◌≤◌, min, inl, inr, List, [], ◌++◌, length, take, drop, sym, ap, ap₂, subst, ◌∙◌, arith, length-drop, length-take, drop-drop, drop_at}
use Rattle.std.proofs.Math.Nat.{div-add-mod', div-lt_iff_lt-mul, lt_of_mul-lt-mul_right, le-div_iff_mul-le, mul-div_left}
use Rattle.std.proofs.Math.Seq.{take-add}
use Rattle.std.proofs.lemmas.List.{drop-append-le, take-append-le, drop-take, take-take, take_all, drop_all}
use Rattle.std.proofs.lemmas.Bool.{cases_lt}
use Rattle.std.specs.Prelude.{flat_map}
use Rattle.std.specs.List.{range_with_len}
use Rattle.std.proofs.lemmas.Grind.{div_ceil_times}
use Rattle.gfs2_layout.specs.Inode.{pieces}
use Rattle.dinode_tree.proofs.Spans.{pieces_of}

suc_times : (n u : ℕ) → suc n * u ≡ n * u + u
suc_times n u = omega arith

-- ---- pieces of one length

module _ (P : ℕ → List ℕ) (u : ℕ) where
  -- behind so many pieces come the rest
  pub drop_pieces : (s q n : ℕ) → ((i : ℕ) → i < q → length (P (s + i)) ≡ u) → q ≤ n → drop (q * u) (flat_map P (range_with_len s n)) ≡ flat_map P (range_with_len (s + q) (n - q))
  drop_pieces s zero n each low =
      let none : 0 * u ≡ 0 = omega arith in
      let from : s ≡ s + 0 = omega arith in
      let rest : n ≡ n - 0 = omega arith in
      ap (λ k. drop k (flat_map P (range_with_len s n))) none ∙ ap₂ (λ a b. flat_map P (range_with_len a b)) from rest
  drop_pieces s (suc q) zero each low = absurd (omega (arith, low))
  drop_pieces s (suc q) (suc n) each low =
      let more : suc q * u ≡ u + q * u = omega arith in
      let here : s + 0 ≡ s = omega arith in
      let first : length (P s) ≡ u = subst (λ k. length (P k) ≡ u) here (each 0 (omega arith)) in
      let from : s + 1 + q ≡ s + suc q = omega arith in
      let rest : n - q ≡ suc n - suc q = omega arith in
      let behind : drop u (P s ++ flat_map P (range_with_len (s + 1) n)) ≡ flat_map P (range_with_len (s + 1) n) = drop_at (P s) (flat_map P (range_with_len (s + 1) n)) u first in
      ap (λ k. drop k (P s ++ flat_map P (range_with_len (s + 1) n))) more ∙ sym (drop-drop (q * u) u (P s ++ flat_map P (range_with_len (s + 1) n))) ∙ ap (drop (q * u)) behind
      ∙ drop_pieces (s + 1) q n (λ i less. let same : s + suc i ≡ s + 1 + i = omega arith in subst (λ k. length (P k) ≡ u) same (each (suc i) (omega (arith, less)))) (omega (arith, low))
      ∙ ap₂ (λ a b. flat_map P (range_with_len a b)) from rest

  -- a part of the first of two lists
  part_of_first : (xs ys : List ℕ) (r m : ℕ) → r + m ≤ length xs → take m (drop r (xs ++ ys)) ≡ take m (drop r xs)
  part_of_first xs ys r m low = ap (take m) (drop-append-le r xs ys (omega (arith, low))) ∙ take-append-le m (drop r xs) ys (omega (arith, low, length-drop r xs))

  -- a range within a piece is that of the piece
  pub range_of_piece : (n q r m : ℕ) → ((i : ℕ) → i < q → length (P i) ≡ u) → length (P q) ≡ u → q < n → r + m ≤ u
      → take m (drop (q * u + r) (flat_map P (range_with_len 0 n))) ≡ take m (drop r (P q))
  range_of_piece n q r m before here low small =
      let at : 0 + q ≡ q = omega arith in
      let more : n - q ≡ suc (n - q - 1) = omega (arith, low) in
      let each : (i : ℕ) → i < q → length (P (0 + i)) ≡ u = λ i less. let same : i ≡ 0 + i = omega arith in subst (λ k. length (P k) ≡ u) same (before i less) in
      let start : length (P (0 + q)) ≡ u = subst (λ k. length (P k) ≡ u) (sym at) here in
      ap (take m) (sym (drop-drop r (q * u) (flat_map P (range_with_len 0 n)))) ∙ ap (λ l. take m (drop r l)) (drop_pieces 0 q n each (omega (arith, low)))
      ∙ ap (λ k. take m (drop r (flat_map P (range_with_len (0 + q) k)))) more
      ∙ part_of_first (P (0 + q)) (flat_map P (range_with_len (0 + q + 1) (n - q - 1))) r m (omega (arith, start, small))
      ∙ ap (λ k. take m (drop r (P k))) at

-- ---- one range behind another

pub joined_ranges : (xs : List ℕ) (a b c : ℕ) → a ≤ b → b ≤ c → take (b - a) (drop a xs) ++ take (c - b) (drop b xs) ≡ take (c - a) (drop a xs)
joined_ranges xs a b c low high =
    let to : a + (b - a) ≡ b = omega (arith, low) in
    let all : b - a + (c - b) ≡ c - a = omega (arith, low, high) in
    sym (ap (λ k. take k (drop a xs)) (sym all) ∙ take-add (b - a) (c - b) (drop a xs)
    ∙ ap (λ l. take (b - a) (drop a xs) ++ take (c - b) l) (drop-drop (b - a) a xs ∙ ap (λ k. drop k xs) to))

-- up to the end of what there is
pub range_to_end : (xs : List ℕ) (size at len : ℕ) → take (min (at + len) size - at) (drop at xs) ≡ take len (drop at (take size xs))
range_to_end xs size at len = elim (cases_lt size at) [
  | inl past ↦
      let none : min (at + len) size - at ≡ 0 = omega (arith, past) in
      ap (λ k. take k (drop at xs)) none ∙ sym (ap (take len) (drop_all at (take size xs) (omega (arith, past, length-take size xs))) ∙ take_all len [] (omega arith))
  | inr within ↦
      let whole : size ≡ at + (size - at) = omega (arith, within) in
      let cut : drop at (take size xs) ≡ take (size - at) (drop at xs) = ap (λ k. drop at (take k xs)) whole ∙ drop-take at (size - at) xs in
      rest within (cases_lt (size - at) len) ∙ sym (ap (take len) cut)
]
  where
    rest : at ≤ size → (size - at < len) ⊎ (len ≤ size - at) → take (min (at + len) size - at) (drop at xs) ≡ take len (take (size - at) (drop at xs))
    rest within (inl more) =
        let all : min (at + len) size - at ≡ size - at = omega (arith, within, more) in
        ap (λ k. take k (drop at xs)) all ∙ sym (take_all len (take (size - at) (drop at xs)) (omega (arith, more, length-take (size - at) (drop at xs))))
    rest within (inr few) =
        let all : min (at + len) size - at ≡ len = omega (arith, within, few) in
        ap (λ k. take k (drop at xs)) all ∙ sym (take-take len (size - at) (drop at xs) few)

-- ---- which piece has which byte

-- the piece with a byte before the end is one of them
pub piece_within : (at size u : ℕ) → 0 < u → at < size → at / u < pieces size u
piece_within at size u some low =
    (div-lt_iff_lt-mul some).1 (omega (arith, low, cover))
  where
    cover : size ≤ pieces size u * u
    cover = subst (λ c. size ≤ c * u) (pieces_of size u some) (div_ceil_times size u some).0

-- the pieces before a byte that isn't behind the end
pub before_end : (i at size u : ℕ) → 0 < u → at ≤ size → i < at / u → i < pieces size u
before_end i at size u some low before =
    let times : suc i * u ≤ at = (le-div_iff_mul-le some).0 before in
    let back : i * u / u ≡ i = mul-div_left i some in
    let less : i * u < size = omega (arith, times, low, some, suc_times i u) in
    subst (λ n. n < pieces size u) back (piece_within (i * u) size u some less)

-- so far as the end of a piece there are no more pieces
pub piece_before : (i at d u : ℕ) → 0 < u → at % u + d ≤ u → i < (at + d) / u → (i < at / u) ⊎ (i ≡ at / u)
piece_before i at d u some small low = rest (cases_lt i (at / u))
  where
    split : at / u * u + at % u ≡ at
    split = div-add-mod' at u

    high : suc i * u ≤ at + d
    high = (le-div_iff_mul-le some).0 low

    more : i * u < suc (at / u) * u
    more = omega (arith, split, high, small, some, suc_times i u, suc_times (at / u) u)

    less : i < suc (at / u)
    less = lt_of_mul-lt-mul_right u more

    rest : (i < at / u) ⊎ (at / u ≤ i) → (i < at / u) ⊎ (i ≡ at / u)
    rest (inl before) = inl before
    rest (inr after) = inr (omega (arith, after, less))
