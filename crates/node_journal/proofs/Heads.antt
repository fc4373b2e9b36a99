-- The descriptor of a piece, number by number, and a chunk's blocks by their indices.
use Rattle.std.proofs.Common.{◌≡◌, ◌<◌, ◌≤◌, ◌+◌, ◌-◌, ◌*◌, ℕ, Bool, true, false, zero, suc, List, [], ◌∷◌, length, take, drop, map, refl, sym, ap, ◌∙◌, arith, length-drop, min, Some}
use Rattle.std.specs.Prelude.{if◌then◌else◌, option_map}
use mir.Val.{bool_byte}
use Rattle.std.specs.Int.{w64}
use Rattle.std.specs.List.{range_with_len, slice_get}
use Rattle.std.proofs.lemmas.List.{drop_more, length-take, take_min}
use Rattle.std.proofs.lemmas.Option.{get_or_from_slice_get, slice_get-map}
use Rattle.std.proofs.Math.Nat.{mul_comm}
use Rattle.gfs2_layout.specs.Bytes.{with_number}
use Rattle.log_layout.specs.Chunks.{Logged, further_count, further_room, numbers_room}
use Rattle.node_journal.specs.Encoding.{begins_with_magic, further_block, piece_count, pieces, revoke_chunks, revoke_size, with_numbers}
use Rattle.node_journal.proofs.NumbersPut.{with_one_more}

-- ---- an element of a list, and of a piece of it

pub some_at : {A : Type 0} (xs : List A) (k : ℕ) → k < length xs → (x : A) × (slice_get xs k ≡ Some x)
some_at [] k h = absurd (omega (arith, h))
some_at (x ∷ xs) zero h = (x, refl)
some_at (x ∷ xs) (suc k) h = some_at xs k (omega (arith, h))

slice_drop : {A : Type 0} (xs : List A) (n k : ℕ) → slice_get (drop n xs) k ≡ slice_get xs (n + k)
slice_drop xs zero k = ap (slice_get xs) (let e : k ≡ 0 + k = omega arith in e)
slice_drop [] (suc n) k = refl
slice_drop (x ∷ xs) (suc n) k = slice_drop xs n k ∙ ap (slice_get (x ∷ xs)) (let e : suc (n + k) ≡ suc n + k = omega arith in e)

slice_take : {A : Type 0} (xs : List A) (n k : ℕ) → k < n → slice_get (take n xs) k ≡ slice_get xs k
slice_take [] zero k h = refl
slice_take [] (suc n) k h = refl
slice_take (x ∷ xs) zero k h = absurd (omega (arith, h))
slice_take (x ∷ xs) (suc n) zero h = refl
slice_take (x ∷ xs) (suc n) (suc k) h = slice_take xs n k (omega (arith, h))

pub slice_piece : {A : Type 0} (xs : List A) (first count k : ℕ) → k < count → slice_get (take count (drop first xs)) k ≡ slice_get xs (first + k)
slice_piece xs first count k h = slice_take (drop first xs) count k h ∙ slice_drop xs first k

-- the piece's elements from one on are that one, and those behind it
pub piece_goes_on : {A : Type 0} (xs : List A) (first count i : ℕ) → first + count ≤ length xs → i < count
    → (e : A) × (slice_get xs (first + i) ≡ Some e) × (drop i (take count (drop first xs)) ≡ e ∷ drop (i + 1) (take count (drop first xs)))
piece_goes_on xs first count i there less =
    let found = some_at xs (first + i) (omega (arith, there, less)) in
    let piece = take count (drop first xs) in
    let inside : i < length piece = omega (arith, length-take count (drop first xs), length-drop first xs, there, less) in (
      found.0,
      found.1,
      drop_more piece i (found.0) inside
          ∙ ap (λ x. x ∷ drop (i + 1) piece) (get_or_from_slice_get piece i (found.0) (found.0) (slice_piece xs first count i less ∙ found.1)),
    )

-- ---- numbers, one more

pub one_number : (at : ℕ) (e : Logged) (i result : ℕ) (es rest into new : List ℕ) → es ≡ e.block ∷ rest → result ≡ e.block → new ≡ with_number w64 (at + 8 * i) result into
    → with_numbers (at + 8 * (i + 1)) rest new ≡ with_numbers (at + 8 * i) es into
one_number at e i result es rest into new is same put =
    (λ j. with_numbers (let further : at + 8 * (i + 1) ≡ (at + 8 * i) + 8 = omega arith in further j) rest ((put ∙ ap (λ n. with_number w64 (at + 8 * i) n into) same) j))
    ∙ sym (with_one_more (at + 8 * i) e.block rest into)
    ∙ ap (λ ns. with_numbers (at + 8 * i) ns into) (sym is)

abbrev pub escape_of : Logged → ℕ
escape_of e = if begins_with_magic e.bytes then 1 else 0

pub two_numbers : (e : Logged) (i block escape : ℕ) (es rest into middle new : List ℕ) → es ≡ e.block ∷ escape_of e ∷ rest → block ≡ e.block → escape ≡ escape_of e
    → middle ≡ with_number w64 (72 + 16 * i) block into → new ≡ with_number w64 (80 + 16 * i) escape middle
    → with_numbers (72 + 16 * (i + 1)) rest new ≡ with_numbers (72 + 16 * i) es into
two_numbers e i block escape es rest into middle new is same_block same_escape first second =
    (λ j. with_numbers (let further : 72 + 16 * (i + 1) ≡ (80 + 16 * i) + 8 = omega arith in further j) rest ((second ∙ ap (λ n. with_number w64 (80 + 16 * i) n middle) same_escape) j))
    ∙ sym (with_one_more (80 + 16 * i) (escape_of e) rest middle)
    ∙ (λ j. with_numbers (let further : 80 + 16 * i ≡ (72 + 16 * i) + 8 = omega arith in further j) (escape_of e ∷ rest) ((first ∙ ap (λ n. with_number w64 (72 + 16 * i) n into) same_block) j))
    ∙ sym (with_one_more (72 + 16 * i) e.block (escape_of e ∷ rest) into)
    ∙ ap (λ ns. with_numbers (72 + 16 * i) ns into) (sym is)

pub byte_of_test : (b : Bool) → bool_byte b ≡ (if b then 1 else 0)
byte_of_test true = refl
byte_of_test false = refl

-- ---- a chunk of a piece: what stands before its blocks, and these

module _ (head : ℕ → List Logged → List ℕ) (body : Logged → List ℕ) (all : List Logged) (room first : ℕ) where
  pub head_of_piece : (r count : ℕ) → r ≡ 0 → count ≡ min room (length all - first)
      → slice_get (head (length (take room (drop first all))) (take room (drop first all)) ∷ map body (take room (drop first all))) r ≡ Some (head count (take count (drop first all)))
  head_of_piece r count none is =
      let whole : take room (drop first all) ≡ take count (drop first all) =
      sym (take_min room (drop first all)) ∙ ap (λ n. take n (drop first all)) (ap (min room) (length-drop first all) ∙ sym is) in
      let long : length (take room (drop first all)) ≡ count = length-take room (drop first all) ∙ ap (min room) (length-drop first all) ∙ sym is in
      ap (slice_get (head (length (take room (drop first all))) (take room (drop first all)) ∷ map body (take room (drop first all)))) none
      ∙ (λ i. Some (head (long i) (whole i)))

  pub block_of_piece : (r : ℕ) (e : Logged) → 0 < r → r ≤ room → slice_get all (first + r - 1) ≡ Some e
      → slice_get (head (length (take room (drop first all))) (take room (drop first all)) ∷ map body (take room (drop first all))) r ≡ Some (body e)
  block_of_piece r e some within is =
      let one : r ≡ suc (r - 1) = omega (arith, some) in
      let same : first + (r - 1) ≡ first + r - 1 = omega (arith, some) in
      let less : r - 1 < room = omega (arith, some, within) in
      ap (slice_get (head (length (take room (drop first all))) (take room (drop first all)) ∷ map body (take room (drop first all)))) one
      ∙ slice_get-map body (take room (drop first all)) (r - 1)
      ∙ ap (option_map body) (slice_piece all first room (r - 1) less ∙ ap (slice_get all) same ∙ is)

-- ---- revokes

in_range : {B : Type 0} (f : ℕ → B) (a m k : ℕ) → k < m → slice_get (map f (range_with_len a m)) k ≡ Some (f (a + k))
in_range f a zero k h = absurd (omega (arith, h))
in_range f a (suc m) zero h = ap (λ n. Some (f n)) (let e : a ≡ a + 0 = omega arith in e)
in_range f a (suc m) (suc k) h = in_range f (a + 1) m k (omega (arith, h)) ∙ ap (λ n. Some (f n)) (let e : (a + 1) + k ≡ a + suc k = omega arith in e)

piece_at : {A : Type 0} (n : ℕ) (xs : List A) (k : ℕ) → k < piece_count n (length xs) → slice_get (pieces n xs) k ≡ Some (take n (drop (k * n) xs))
piece_at n xs k h =
    in_range (λ i. take n (drop (n * i) xs)) 0 (piece_count n (length xs)) k h
    ∙ ap (λ m. Some (take n (drop m xs))) (ap (λ i. n * i) (let e : 0 + k ≡ k = omega arith in e) ∙ mul_comm n k)

pub further_at : (size jid : ℕ) (rs : List ℕ) (k : ℕ) → suc k < revoke_size size (length rs)
    → slice_get (revoke_chunks size jid rs) (suc k) ≡ Some (further_block size jid (take (further_room size) (drop (k * further_room size) (drop (numbers_room size) rs))))
further_at size jid [] k h = absurd (omega (arith, h))
further_at size jid (r ∷ rs) k h =
    let rest = drop (numbers_room size) (r ∷ rs) in
    let count : piece_count (further_room size) (length rest) ≡ further_count size (length (r ∷ rs)) = ap (piece_count (further_room size)) (length-drop (numbers_room size) (r ∷ rs)) in
    slice_get-map (further_block size jid) (pieces (further_room size) rest) k
    ∙ ap (λ o. option_map (further_block size jid) o) (piece_at (further_room size) rest k (omega (arith, h, count)))
