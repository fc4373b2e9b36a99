-- Numbers that were put one behind the other are read again.
use Rattle.std.proofs.Common.{◌≡◌, ◌+◌, ◌*◌, ◌<◌, ◌≤◌, ◌^◌, ℕ, List, [], ◌∷◌, length, map, refl, ap, ◌∙◌, inr, arith}
use Rattle.std.specs.Prelude.{if◌then◌else◌, Bool, true, false}
use Rattle.std.specs.List.{range_with_len}
use Rattle.std.specs.Int.{Width, byte_len, w64}
use Rattle.gfs2_layout.specs.Bytes.{number_at, u64_at, with_number}
use Rattle.gfs2_layout.proofs.InPlace.{is_width_64, length-with, number-with_other, number-with_same}
use Rattle.log_layout.specs.Chunks.{Logged, numbers_at}
use Rattle.node_journal.specs.Encoding.{begins_with_magic, content_numbers, with_numbers}
use Rattle.node_journal.proofs.NumbersPut.{with_none, with_one_more}
use Rattle.node_journal.proofs.Pieces.{shift}

-- each has the width
abbrev pub AreLow : List ℕ → Type 0
AreLow [] = Unit {0}
AreLow (n ∷ ns) = (n < 2 ^ 64) × AreLow ns

module _ (at n : ℕ) (bytes : List ℕ) (fits : at + 8 ≤ length bytes) where
  pub length-one : length (with_number w64 at n bytes) ≡ length bytes
  length-one = length-with w64 at n bytes is_width_64 fits

  pub one_back : n < 2 ^ 64 → u64_at at (with_number w64 at n bytes) ≡ n
  one_back low = number-with_same w64 at n bytes is_width_64 fits low

  pub one_below : (v : Width) (k : ℕ) → k + byte_len v ≤ at → number_at v k (with_number w64 at n bytes) ≡ number_at v k bytes
  one_below v k below = number-with_other w64 at n bytes is_width_64 fits v k (inr below)

pub length-numbers : (at : ℕ) (ns bytes : List ℕ) → at + 8 * length ns ≤ length bytes → length (with_numbers at ns bytes) ≡ length bytes
length-numbers at [] bytes fits = ap length (with_none at bytes)
length-numbers at (n ∷ ns) bytes fits =
    let room : at + 8 ≤ length bytes = omega (arith, fits) in
    let same = length-one at n bytes room in
    ap length (with_one_more at n ns bytes) ∙ length-numbers (at + 8) ns (with_number w64 at n bytes) (omega (arith, fits, same)) ∙ same

-- what is before them stays
pub numbers_below : (at : ℕ) (ns bytes : List ℕ) (v : Width) (k : ℕ) → at + 8 * length ns ≤ length bytes → k + byte_len v ≤ at → number_at v k (with_numbers at ns bytes) ≡ number_at v k bytes
numbers_below at [] bytes v k fits below = ap (number_at v k) (with_none at bytes)
numbers_below at (n ∷ ns) bytes v k fits below =
    let room : at + 8 ≤ length bytes = omega (arith, fits) in
    let same = length-one at n bytes room in
    ap (number_at v k) (with_one_more at n ns bytes) ∙ numbers_below (at + 8) ns (with_number w64 at n bytes) v k (omega (arith, fits, same)) (omega (arith, below)) ∙ one_below at n bytes room v k below

pub numbers_back : (at : ℕ) (ns bytes : List ℕ) → AreLow ns → at + 8 * length ns ≤ length bytes → numbers_at at 8 (length ns) (with_numbers at ns bytes) ≡ ns
numbers_back at [] bytes low fits = refl
numbers_back at (n ∷ ns) bytes low fits =
    let room : at + 8 ≤ length bytes = omega (arith, fits) in
    let more = with_number w64 at n bytes in
    let same = length-one at n bytes room in
    let behind : (at + 8) + 8 * length ns ≤ length more = omega (arith, fits, same) in
    let first : u64_at (at + 8 * 0) (with_numbers at (n ∷ ns) bytes) ≡ n =
    ap (λ k. u64_at k (with_numbers at (n ∷ ns) bytes)) (let e : at + 8 * 0 ≡ at = omega arith in e)
    ∙ ap (u64_at at) (with_one_more at n ns bytes) ∙ numbers_below (at + 8) ns more w64 at behind (let le : at + 8 ≤ at + 8 = omega arith in le) ∙ one_back at n bytes room low.0 in
    let rest =
    shift (λ i. u64_at (at + 8 * i) (with_numbers at (n ∷ ns) bytes)) (λ i. u64_at ((at + 8) + 8 * i) (with_numbers (at + 8) ns more))
    (λ i. ap (λ k. u64_at k (with_numbers at (n ∷ ns) bytes)) (let e : at + 8 * (i + 1) ≡ (at + 8) + 8 * i = omega arith in e) ∙ ap (u64_at ((at + 8) + 8 * i)) (with_one_more at n ns bytes)) 0 (length ns)
    ∙ numbers_back (at + 8) ns more low.1 behind in
    λ j. first j ∷ rest j

-- ---- numbers of blocks with their escapes

abbrev pub escape_of : Logged → ℕ
escape_of e = if begins_with_magic e.bytes then 1 else 0

abbrev pub HaveLowBlocks : List Logged → Type 0
HaveLowBlocks [] = Unit {0}
HaveLowBlocks (e ∷ es) = (e.block < 2 ^ 64) × HaveLowBlocks es

escape_low : (b : Bool) → (if b then 1 else 0) < 2 ^ 64
escape_low true = omega arith
escape_low false = omega arith

-- two numbers are put, and then those of the others
two_more : (at m n : ℕ) (ns bytes : List ℕ) → with_numbers at (m ∷ n ∷ ns) bytes ≡ with_numbers (at + 16) ns (with_number w64 (at + 8) n (with_number w64 at m bytes))
two_more at m n ns bytes =
    with_one_more at m (n ∷ ns) bytes ∙ with_one_more (at + 8) n ns (with_number w64 at m bytes)
    ∙ ap (λ k. with_numbers k ns (with_number w64 (at + 8) n (with_number w64 at m bytes))) (let e : (at + 8) + 8 ≡ at + 16 = omega arith in e)

pub count_of_pairs : (es : List Logged) → length (content_numbers es) ≡ 2 * length es
count_of_pairs [] = refl
count_of_pairs (e ∷ es) = omega (arith, count_of_pairs es)

-- of each block both are read
pub pairs_back : {T : Type 0} (of : ℕ → ℕ → T) (at : ℕ) (es : List Logged) (bytes : List ℕ) → HaveLowBlocks es → at + 16 * length es ≤ length bytes
    → map (λ i. of (u64_at (at + 16 * i) (with_numbers at (content_numbers es) bytes)) (u64_at ((at + 8) + 16 * i) (with_numbers at (content_numbers es) bytes))) (range_with_len 0 (length es))
    ≡ map (λ (e : Logged). of e.block (escape_of e)) es
pairs_back of at [] bytes low fits = refl
pairs_back of at (e ∷ es) bytes low fits =
    let x = escape_of e in
    let ns = content_numbers es in
    let all = with_numbers at (content_numbers (e ∷ es)) bytes in
    let one = with_number w64 at e.block bytes in
    let two = with_number w64 (at + 8) x one in
    let room : at + 8 ≤ length bytes = omega (arith, fits) in
    let one_long = length-one at e.block bytes room in
    let room_2 : (at + 8) + 8 ≤ length one = omega (arith, fits, one_long) in
    let two_long = length-one (at + 8) x one room_2 in
    let behind : (at + 16) + 8 * length ns ≤ length two = omega (arith, fits, one_long, two_long, count_of_pairs es) in
    let is : all ≡ with_numbers (at + 16) ns two = two_more at e.block x ns bytes in
    let block : u64_at at all ≡ e.block =
    ap (u64_at at) is ∙ numbers_below (at + 16) ns two w64 at behind (let le : at + 8 ≤ at + 16 = omega arith in le)
    ∙ one_below (at + 8) x one room_2 w64 at (let le : at + 8 ≤ at + 8 = omega arith in le) ∙ one_back at e.block bytes room low.0 in
    let escape : u64_at (at + 8) all ≡ x =
    ap (u64_at (at + 8)) is ∙ numbers_below (at + 16) ns two w64 (at + 8) behind (let le : (at + 8) + 8 ≤ at + 16 = omega arith in le)
    ∙ one_back (at + 8) x one room_2 (escape_low (begins_with_magic e.bytes)) in
    let first : of (u64_at (at + 16 * 0) all) (u64_at ((at + 8) + 16 * 0) all) ≡ of e.block x =
    (λ j. of (u64_at ((let k : at + 16 * 0 ≡ at = omega arith in k) j) all) (u64_at ((let k : (at + 8) + 16 * 0 ≡ at + 8 = omega arith in k) j) all)) ∙ (λ j. of (block j) (escape j)) in
    let later = with_numbers (at + 16) ns two in
    let rest =
    shift (λ i. of (u64_at (at + 16 * i) all) (u64_at ((at + 8) + 16 * i) all)) (λ i. of (u64_at ((at + 16) + 16 * i) later) (u64_at (((at + 16) + 8) + 16 * i) later))
    (λ i. λ j. of (u64_at ((let k : at + 16 * (i + 1) ≡ (at + 16) + 16 * i = omega arith in k) j) (is j)) (u64_at ((let k : (at + 8) + 16 * (i + 1) ≡ ((at + 16) + 8) + 16 * i = omega arith in k) j) (is j))) 0 (length es)
    ∙ pairs_back of (at + 16) es two low.1 (omega (arith, fits, one_long, two_long)) in
    λ j. first j ∷ rest j
