-- Lists that are gone over or built one item after another.
use Rattle.std.proofs.Common.{◌≡◌, ℕ, zero, suc, ◌+◌, ◌*◌, ◌/◌, ◌<◌, ◌≤◌, inl, inr, List, [], ◌∷◌, ◌++◌, length, take, drop, refl, sym, ap, ◌∙◌, arith}
use Rattle.std.specs.Prelude.{flat_map}
use Rattle.std.specs.List.{range_with_len}
use Rattle.std.proofs.lemmas.Bool.{cases_eq, cases_lt}
use Rattle.std.proofs.lemmas.List.{append_assoc, drop-append-le, drop_at, length-append, length-drop, length-take, take-append-le, take_all}
use Rattle.gfs2_layout.specs.Bytes.{slice, u64_at}
use Rattle.growth_laws.proofs.Numbers.{numbers_at_the_back, numbers_in_front}
use Rattle.table_files.proofs.Entries.{in_front, u64_same}

-- ---- lists that are built

append_none : (xs : List ℕ) → xs ++ [] ≡ xs
append_none [] = refl
append_none (x ∷ xs) = ap (λ ys. x ∷ ys) (append_none xs)

rows_more : (f : ℕ → List ℕ) (a n : ℕ) → flat_map f (range_with_len a (suc n)) ≡ flat_map f (range_with_len a n) ++ f (a + n)
rows_more f a zero = let same : a ≡ a + zero = omega arith in append_none (f a) ∙ ap f same
rows_more f a (suc n) =
    let next : a + 1 + n ≡ a + suc n = omega arith in
    ap (λ xs. f a ++ xs) (rows_more f (a + 1) n) ∙ sym (append_assoc (f a) (flat_map f (range_with_len (a + 1) n)) (f (a + 1 + n))) ∙ ap (λ m. f a ++ flat_map f (range_with_len (a + 1) n) ++ f m) next

pub row_more : (f : ℕ → List ℕ) (n : ℕ) → flat_map f (range_with_len 0 (n + 1)) ≡ flat_map f (range_with_len 0 n) ++ f n
row_more f n =
    let next : n + 1 ≡ suc n = omega arith in
    let same : 0 + n ≡ n = omega arith in
    ap (λ m. flat_map f (range_with_len 0 m)) next ∙ rows_more f 0 n ∙ ap (λ m. flat_map f (range_with_len 0 n) ++ f m) same

-- one number more, twice
module _ (bytes twice p mid new : List ℕ) (k : ℕ) (is : p ≡ take 8 (drop (8 * k) bytes)) (low : 8 * k + 8 ≤ length bytes) (long : length twice ≡ 8 * (2 * k))
    (first : mid ≡ twice ++ p) (second : new ≡ mid ++ p) where
  p_long : length p ≡ 8
  p_long = ap length is ∙ length-take 8 (drop (8 * k) bytes) ∙ omega (arith, length-drop (8 * k) bytes, low)

  mid_long : length mid ≡ 8 * (2 * k) + 8
  mid_long = ap length first ∙ length-append twice p ∙ omega (arith, long, p_long)

  pub twice_long : length new ≡ 8 * (2 * (k + 1))
  twice_long = ap length second ∙ length-append mid p ∙ omega (arith, mid_long, p_long)

  number_is : u64_at 0 p ≡ u64_at (8 * k) bytes
  number_is = ap (u64_at 0) is ∙ u64_same 0 (8 * k) (take 8 (drop (8 * k) bytes)) bytes (in_front 8 0 (drop (8 * k) bytes) (omega arith))

  pub twice_each : ((i : ℕ) → i < 2 * k → u64_at (8 * i) twice ≡ u64_at (8 * (i / 2)) bytes) → (i : ℕ) → i < 2 * (k + 1) → u64_at (8 * i) new ≡ u64_at (8 * (i / 2)) bytes
  twice_each before i less = elim (cases_lt i (2 * k)) [
    | inl early ↦
        ap (u64_at (8 * i)) second ∙ numbers_in_front mid p (8 * i) (omega (arith, early, mid_long)) ∙ ap (u64_at (8 * i)) first ∙ numbers_in_front twice p (8 * i) (omega (arith, early, long)) ∙ before i early
    | inr late ↦ elim (cases_eq i (2 * k)) [
      | inl even ↦
          let half : i / 2 ≡ k = omega (arith, even) in
          let place : 8 * i ≡ length twice + 0 = omega (arith, even, long) in
          ap (u64_at (8 * i)) second ∙ numbers_in_front mid p (8 * i) (omega (arith, even, mid_long)) ∙ ap (u64_at (8 * i)) first ∙ ap (λ n. u64_at n (twice ++ p)) place ∙ numbers_at_the_back twice p 0 ∙ number_is ∙ ap (λ n. u64_at (8 * n) bytes) (sym half)
      | inr other ↦
          let odd : i ≡ 2 * k + 1 = omega (arith, less, late, other) in
          let half : i / 2 ≡ k = omega (arith, odd) in
          let place : 8 * i ≡ length mid + 0 = omega (arith, odd, mid_long) in
          ap (u64_at (8 * i)) second ∙ ap (λ n. u64_at n (mid ++ p)) place ∙ numbers_at_the_back mid p 0 ∙ number_is ∙ ap (λ n. u64_at (8 * n) bytes) (sym half)
    ]
  ]

-- one header more
module _ (old new bytes : List ℕ) (n : ℕ) (more : new ≡ old ++ take 24 bytes) (long : length old ≡ n * 24) (large : 24 ≤ length bytes) where
  header_long : length (take 24 bytes) ≡ 24
  header_long = length-take 24 bytes ∙ omega (arith, large)

  pub headers_long : length new ≡ (n + 1) * 24
  headers_long = ap length more ∙ length-append old (take 24 bytes) ∙ omega (arith, long, header_long)

  pub headers_each : (Q : ℕ → List ℕ) → ((j : ℕ) → j < n → slice (j * 24) 24 old ≡ Q j) → take 24 bytes ≡ Q n → (j : ℕ) → j < n + 1 → slice (j * 24) 24 new ≡ Q j
  headers_each Q before here j less = elim (cases_lt j n) [
    | inl early ↦
        ap (slice (j * 24) 24) more ∙ ap (take 24) (drop-append-le (j * 24) old (take 24 bytes) (omega (arith, early, long)))
        ∙ take-append-le 24 (drop (j * 24) old) (take 24 bytes) (omega (arith, early, long, length-drop (j * 24) old)) ∙ before j early
    | inr late ↦
        let same : j ≡ n = omega (arith, late, less) in
        let place : length old ≡ j * 24 = omega (arith, long, same) in
        ap (slice (j * 24) 24) more ∙ ap (take 24) (drop_at old (take 24 bytes) (j * 24) place) ∙ take_all 24 (take 24 bytes) (omega (arith, header_long)) ∙ here ∙ ap Q (sym same)
  ]
