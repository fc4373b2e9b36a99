-- The block with an index among those of chunks: which piece it is of, and its place there.
use Rattle.std.proofs.Common.{◌≡◌, ◌<◌, ◌≤◌, ◌+◌, ◌-◌, ◌*◌, ◌/◌, ◌%◌, ◌++◌, ◌⊎◌, ℕ, zero, suc, List, [], ◌∷◌, length, take, drop, refl, sym, ap, ◌∙◌, inl, inr, arith, length-drop, subst, Some}
use Rattle.std.specs.List.{flat_map, slice_get}
use Rattle.std.proofs.Math.Nat.{add-div_left, add-mod_left, div-eq_of_lt, mod-eq_of_lt, mod-lt, add-mul}
use Rattle.std.proofs.lemmas.Bool.{cases_lt}
use Rattle.std.proofs.lemmas.List.{drop-drop, length-map, length-take}
use Rattle.std.proofs.lemmas.Option.{get_or_from_slice_get}
use Rattle.gfs2_layout.specs.Device.{IsBlockSize}
use Rattle.log_layout.specs.Chunks.{Logged, content_room, numbers_room}
use Rattle.node_journal.specs.Encoding.{content_chunk, escaped, kind_size, metadata_chunk, piece_count, pieces}
use Rattle.node_journal.specs.Written.{AreWhole}
use Rattle.node_journal.proofs.Heads.{some_at}
use Rattle.node_journal.proofs.Pieces.{none_counted, one_more_counted, pieces_go_on, rooms}

pub slice_left : {X : Type 0} (xs ys : List X) (k : ℕ) → k < length xs → slice_get (xs ++ ys) k ≡ slice_get xs k
slice_left [] ys k h = absurd (omega (arith, h))
slice_left (x ∷ xs) ys zero h = refl
slice_left (x ∷ xs) ys (suc k) h = slice_left xs ys k (omega (arith, h))

pub slice_right : {X : Type 0} (xs ys : List X) (k : ℕ) → slice_get (xs ++ ys) (length xs + k) ≡ slice_get ys k
slice_right [] ys k = ap (slice_get ys) (let e : 0 + k ≡ k = omega arith in e)
slice_right (x ∷ xs) ys k = ap (slice_get (x ∷ (xs ++ ys))) (let e : suc (length xs) + k ≡ suc (length xs + k) = omega arith in e) ∙ slice_right xs ys k

-- Block k of the chunks of pieces of n is block k mod n + 1 of the chunk of piece k / (n + 1), whose descriptor is its first.
pub record IsAt {A : Type 0} (chunk : List A → List (List ℕ)) (n : ℕ) (xs : List A) (k : ℕ) : Type 0 where
  pub inside : k / (n + 1) * n < length xs
  pub place : k / (n + 1) * n + k % (n + 1) ≤ length xs
  pub block : slice_get (flat_map chunk (pieces n xs)) k ≡ slice_get (chunk (take n (drop (k / (n + 1) * n) xs))) (k % (n + 1))

module _ {A : Type 0} (chunk : List A → List (List ℕ)) (one : (es : List A) → length (chunk es) ≡ suc (length es)) (n : ℕ) (some : 0 < n) where
  in_first : (xs : List A) (k : ℕ) → 0 < length xs → k ≤ length xs → k < n + 1 → IsAt chunk n xs k
  in_first xs k more few less =
      let quotient : k / (n + 1) * n ≡ 0 = ap (λ m. m * n) (div-eq_of_lt less) ∙ (let e : 0 * n ≡ 0 = omega arith in e) in
      let rest : k % (n + 1) ≡ k = mod-eq_of_lt less in
      record {
        inside = omega (arith, quotient, more);
        place = omega (arith, quotient, rest, few);
        block =
            ap (λ ps. slice_get (flat_map chunk ps) k) (pieces_go_on n xs some more)
            ∙ slice_left (chunk (take n xs)) (flat_map chunk (pieces n (drop n xs))) k (omega (arith, one (take n xs), length-take n xs, few, less))
            ∙ (λ i. slice_get (chunk (take n (drop (sym quotient i) xs))) (sym rest i));
      }

  in_later : (xs : List A) (k : ℕ) → n ≤ length xs → 0 < length xs → IsAt chunk n (drop n xs) k → IsAt chunk n xs ((n + 1) + k)
  in_later xs k many more at =
      let quotient : ((n + 1) + k) / (n + 1) * n ≡ n + k / (n + 1) * n =
      ap (λ m. m * n) (add-div_left k (let p : 0 < n + 1 = omega arith in p)) ∙ add-mul (k / (n + 1)) 1 n ∙ (let e : k / (n + 1) * n + 1 * n ≡ n + k / (n + 1) * n = omega arith in e) in
      let rest : ((n + 1) + k) % (n + 1) ≡ k % (n + 1) = add-mod_left (n + 1) k in
      let whole : length (chunk (take n xs)) ≡ n + 1 = omega (arith, one (take n xs), length-take n xs, many) in
      record {
        inside = omega (arith, quotient, at.inside, length-drop n xs, many);
        place = omega (arith, quotient, rest, at.place, length-drop n xs, many);
        block =
            ap (λ ps. slice_get (flat_map chunk ps) ((n + 1) + k)) (pieces_go_on n xs some more)
            ∙ ap (λ m. slice_get (chunk (take n xs) ++ flat_map chunk (pieces n (drop n xs))) (m + k)) (sym whole)
            ∙ slice_right (chunk (take n xs)) (flat_map chunk (pieces n (drop n xs))) k
            ∙ at.block
            ∙ ap (λ ys. slice_get (chunk (take n ys)) (k % (n + 1))) (drop-drop (k / (n + 1) * n) n xs)
            ∙ (λ i. slice_get (chunk (take n (drop (sym quotient i) xs))) (sym rest i));
      }

  at_most : (most : ℕ) (xs : List A) (k : ℕ) → length xs ≤ most → k < kind_size n (length xs) → IsAt chunk n xs k
  at_most most [] k h less = absurd (omega (arith, less, none_counted n some))
  at_most zero (x ∷ xs) k h less = absurd (omega (arith, h))
  at_most (suc most) (x ∷ xs) k h less =
      let counted = one_more_counted n (length (x ∷ xs)) some (omega arith) in
      elim (cases_lt k (n + 1)) [
        | inl first ↦ in_first (x ∷ xs) k (omega arith) (few (cases_lt (length (x ∷ xs)) n) first) first
        | inr later ↦
            let many : n ≤ length (x ∷ xs) = long (cases_lt (length (x ∷ xs)) n) later in
            let behind : k ≡ (n + 1) + (k - (n + 1)) = omega (arith, later) in
            let left : k - (n + 1) < kind_size n (length (drop n (x ∷ xs))) =
            let Q : ℕ → Type 0 = λ m. k - (n + 1) < kind_size n m in
            subst Q (sym (length-drop n (x ∷ xs))) (omega (arith, less, counted, later, many)) in
            let P : ℕ → Type 0 = λ m. IsAt chunk n (x ∷ xs) m in
            subst P (sym behind) (in_later (x ∷ xs) (k - (n + 1)) many (omega arith) (at_most most (drop n (x ∷ xs)) (k - (n + 1)) (omega (arith, h, length-drop n (x ∷ xs), some)) left))
      ]
    where
      short : length (x ∷ xs) < n → k ≤ length (x ∷ xs)
      short fewer =
          let gone : length (x ∷ xs) - n ≡ 0 = omega (arith, fewer) in
          let none : piece_count n (length (x ∷ xs) - n) ≡ 0 = ap (piece_count n) gone ∙ none_counted n some in
          omega (arith, less, one_more_counted n (length (x ∷ xs)) some (let more : 0 < length (x ∷ xs) = omega arith in more), none)

      few : (length (x ∷ xs) < n) ⊎ (n ≤ length (x ∷ xs)) → k < n + 1 → k ≤ length (x ∷ xs)
      few (inl fewer) first = short fewer
      few (inr many) first = omega (arith, first, many)

      long : (length (x ∷ xs) < n) ⊎ (n ≤ length (x ∷ xs)) → n + 1 ≤ k → n ≤ length (x ∷ xs)
      long (inl fewer) later = absurd (omega (arith, later, short fewer, fewer))
      long (inr many) later = many

  pub is_at : (xs : List A) (k : ℕ) → k < kind_size n (length xs) → IsAt chunk n xs k
  is_at xs k less = at_most (length xs) xs k (omega arith) less

-- ---- the two kinds

pub content_is_at : (size jid : ℕ) (es : List Logged) (k : ℕ) → IsBlockSize size → k < kind_size (content_room size) (length es) → IsAt (content_chunk size jid) (content_room size) es k
content_is_at size jid es k is less = is_at (content_chunk size jid) (λ es. ap suc (length-map es (λ (e : Logged). escaped e.bytes))) (content_room size) (rooms size is).0 es k less

pub metadata_is_at : (size jid : ℕ) (es : List Logged) (k : ℕ) → IsBlockSize size → k < kind_size (numbers_room size) (length es) → IsAt (metadata_chunk size jid) (numbers_room size) es k
metadata_is_at size jid es k is less = is_at (metadata_chunk size jid) (λ es. ap suc (length-map es (λ (e : Logged). e.bytes))) (numbers_room size) (rooms size is).1 es k less

-- the entry at a place behind the descriptor
pub entry_at : {A : Type 0} (chunk : List A → List (List ℕ)) (n : ℕ) (xs : List A) (k : ℕ) → IsAt chunk n xs k → (k % (n + 1) ≡ 0 → ⊥)
    → (e : A) × (slice_get xs (k / (n + 1) * n + k % (n + 1) - 1) ≡ Some e) × (k / (n + 1) * n + k % (n + 1) - 1 < length xs) × (0 < k % (n + 1)) × (k % (n + 1) ≤ n)
entry_at chunk n xs k at some =
    let more : 0 < k % (n + 1) = omega (arith, some) in
    let inside : k / (n + 1) * n + k % (n + 1) - 1 < length xs = omega (arith, at.place, more) in
    let found = some_at xs (k / (n + 1) * n + k % (n + 1) - 1) inside in
    (found.0, found.1, inside, more, (let p : k % (n + 1) ≤ n = omega (arith, mod-lt k (let q : 0 < n + 1 = omega arith in q)) in p))

-- each entry is a whole block
pub whole_at : (size : ℕ) (es : List Logged) (k : ℕ) (e : Logged) → AreWhole size es → slice_get es k ≡ Some e → k < length es → length e.bytes ≡ size
whole_at size es k e all is inside = ap (λ (d : Logged). length d.bytes) (sym (get_or_from_slice_get es k e e is)) ∙ all k e inside
