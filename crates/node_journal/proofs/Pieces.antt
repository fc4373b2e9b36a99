-- A list in pieces: the first, and those of the rest.
use Rattle.std.proofs.Common.{◌≡◌, ◌<◌, ◌≤◌, ◌+◌, ◌-◌, ◌*◌, ◌/◌, ◌⊎◌, ℕ, zero, suc, List, [], ◌∷◌, length, take, drop, map, refl, sym, ap, ◌∙◌, inl, inr, arith, length-drop, subst}
use Rattle.std.specs.List.{range_with_len}
use Rattle.gfs2_layout.specs.Device.{IsBlockSize}
use Rattle.std.proofs.Math.Nat.{add-div_left, div-eq_of_lt}
use Rattle.std.proofs.lemmas.Bool.{cases_lt}
use Rattle.std.proofs.lemmas.List.{drop-drop}
use Rattle.node_journal.specs.Encoding.{piece_count, pieces}

-- ---- how many pieces there are

pub none_counted : (n : ℕ) → 0 < n → piece_count n 0 ≡ 0
none_counted n some = div-eq_of_lt (let less : 0 + (n - 1) < n = omega (arith, some) in less)

pub one_more_counted : (n c : ℕ) → 0 < n → 0 < c → piece_count n c ≡ suc (piece_count n (c - n))
one_more_counted n c some more =
    ap (λ m. m / n) (let e : c + (n - 1) ≡ n + (c - 1) = omega (arith, some, more) in e) ∙ add-div_left (c - 1) some
    ∙ (let e : (c - 1) / n + 1 ≡ suc ((c - 1) / n) = omega arith in e) ∙ ap suc (rest (cases_lt c n))
  where
    rest : (c < n) ⊎ (n ≤ c) → (c - 1) / n ≡ (c - n + (n - 1)) / n
    rest (inr h) = ap (λ m. m / n) (let e : c - 1 ≡ (c - n) + (n - 1) = omega (arith, some, h) in e)
    rest (inl h) = div-eq_of_lt (let less : c - 1 < n = omega (arith, h) in less)
        ∙ sym (div-eq_of_lt (let less : (c - n) + (n - 1) < n = omega (arith, h, some) in less))

-- ---- the pieces

pub shift : {A : Type 0} (g h : ℕ → A) → ((i : ℕ) → g (i + 1) ≡ h i) → (a m : ℕ) → map g (range_with_len (a + 1) m) ≡ map h (range_with_len a m)
shift g h e a zero = refl
shift g h e a (suc m) = λ j. e a j ∷ shift g h e (a + 1) m j

pub none_in_pieces : {A : Type 0} (n : ℕ) → 0 < n → pieces {A = A} n [] ≡ []
none_in_pieces {A} n some = ap (λ m. map (λ i. take n (drop (n * i) (let xs : List A = [] in xs))) (range_with_len 0 m)) (none_counted n some)

pub pieces_go_on : {A : Type 0} (n : ℕ) (xs : List A) → 0 < n → 0 < length xs → pieces n xs ≡ take n xs ∷ pieces n (drop n xs)
pieces_go_on n xs some more =
    ap (λ m. map (λ i. take n (drop (n * i) xs)) (range_with_len 0 m)) (one_more_counted n (length xs) some more)
    ∙ (λ j. take n (drop (first j) xs) ∷ behind j)
  where
    first : n * 0 ≡ 0
    first = omega arith

    behind : map (λ i. take n (drop (n * i) xs)) (range_with_len (0 + 1) (piece_count n (length xs - n))) ≡ pieces n (drop n xs)
    behind =
        shift (λ i. take n (drop (n * i) xs)) (λ i. take n (drop (n * i) (drop n xs)))
        (λ i. ap (take n) (ap (λ m. drop m xs) (let e : n * (i + 1) ≡ n + n * i = omega arith in e) ∙ sym (drop-drop (n * i) n xs))) 0 (piece_count n (length xs - n))
        ∙ ap (λ m. map (λ i. take n (drop (n * i) (drop n xs))) (range_with_len 0 (piece_count n m))) (sym (length-drop n xs))

-- ---- behind the end

pub none_left : {A : Type 0} (xs : List A) (at : ℕ) → length xs ≤ at → drop at xs ≡ []
none_left [] zero h = refl
none_left [] (suc at) h = refl
none_left (x ∷ xs) zero h = absurd (omega arith)
none_left (x ∷ xs) (suc at) h = none_left xs at (omega arith)

-- ---- whole blocks

-- there is room for entries
pub rooms : (size : ℕ) → IsBlockSize size → (0 < (size - 72) / 16) × (0 < (size - 72) / 8) × (0 < (size - 24) / 8)
rooms size (inl e) = let P : ℕ → Type 0 = λ n. (0 < (n - 72) / 16) × (0 < (n - 72) / 8) × (0 < (n - 24) / 8) in subst P (sym e) (omega arith)
rooms size (inr (inl e)) = let P : ℕ → Type 0 = λ n. (0 < (n - 72) / 16) × (0 < (n - 72) / 8) × (0 < (n - 24) / 8) in subst P (sym e) (omega arith)
rooms size (inr (inr (inl e))) = let P : ℕ → Type 0 = λ n. (0 < (n - 72) / 16) × (0 < (n - 72) / 8) × (0 < (n - 24) / 8) in subst P (sym e) (omega arith)
rooms size (inr (inr (inr e))) = let P : ℕ → Type 0 = λ n. (0 < (n - 72) / 16) × (0 < (n - 72) / 8) × (0 < (n - 24) / 8) in subst P (sym e) (omega arith)

pub at_least : (size : ℕ) → IsBlockSize size → 72 < size
at_least size (inl e) = omega (arith, e)
at_least size (inr (inl e)) = omega (arith, e)
at_least size (inr (inr (inl e))) = omega (arith, e)
at_least size (inr (inr (inr e))) = omega (arith, e)
