-- The bytes of table blocks: their headers, their pointers, and what stands behind these.
use Rattle.std.proofs.Common.{◌≡◌, ℕ, ◌+◌, ◌-◌, ◌*◌, ◌%◌, ◌<◌, ◌≤◌, inl, inr, List, ◌++◌, length, take, drop, get_or, refl, sym, ap, ap₂, ◌∙◌, arith}
use Rattle.std.specs.Prelude.{replicate, flat_map, nat_lt}
use Rattle.std.specs.Int.{Width, w32, byte_len, from_be_bytes}
use Rattle.std.specs.List.{range_with_len}
use Rattle.std.proofs.lemmas.Bool.{cases_lt, cond-true, cond-false, lt-ltb, le-ltb}
use Rattle.std.proofs.lemmas.List.{append_assoc, drop-append-le, take-append-le, drop_at, get_or-take, get_or-drop, get_or_past, length-append, length-drop, length-take, length-replicate, take_all}
use Rattle.gfs2_layout.specs.Bytes.{number_at, slice, u32_at, u64_at, with_number}
use Rattle.gfs2_layout.specs.Fields.{with_fields}
use Rattle.gfs2_layout.specs.Headers.{HasHeader}
use Rattle.gfs2_layout.specs.Inode.{header_length, pieces}
use Rattle.dinode_tree.proofs.Ranges.{range_of_piece}
use Rattle.file_tree.specs.Apply.{overwritten}
use Rattle.growth_laws.proofs.Bytes.{byte, over_in, over_length, pieces_length, same_bytes, zero_byte}
use Rattle.growth_laws.proofs.Numbers.{numbers_at_the_back, numbers_in_front, number_behind}
use Rattle.table_growth.specs.Tables.{table_header}
use Rattle.table_files.specs.Files.{header_at, table_block, table_bytes}
use Rattle.tree_tables.proofs.Entries.{in_front, u64_same}

-- ---- numbers at the front

pub front_number : (w : Width) (a b : List ℕ) (i : ℕ) → i + byte_len w ≤ length a → number_at w i (a ++ b) ≡ number_at w i a
unfolding number_at
front_number w a b i fits =
    ap (λ xs. from_be_bytes w (take (byte_len w) xs)) (drop-append-le i a b (omega (arith, fits)))
    ∙ ap (from_be_bytes w) (take-append-le (byte_len w) (drop i a) b (omega (arith, fits, length-drop i a)))

pub front_header : (kind format : ℕ) (a b : List ℕ) → 24 ≤ length a → HasHeader kind format (a ++ b) → HasHeader kind format a
front_header kind format a b long has = record {
  magic_is = sym (front_number w32 a b 0 (omega (arith, long))) ∙ has.magic_is;
  kind_is = sym (front_number w32 a b 4 (omega (arith, long))) ∙ has.kind_is;
  format_is = sym (front_number w32 a b 16 (omega (arith, long))) ∙ has.format_is;
}

pub header_front : (kind format : ℕ) (a b : List ℕ) → 24 ≤ length a → HasHeader kind format a → HasHeader kind format (a ++ b)
header_front kind format a b long has = record {
  magic_is = front_number w32 a b 0 (omega (arith, long)) ∙ has.magic_is;
  kind_is = front_number w32 a b 4 (omega (arith, long)) ∙ has.kind_is;
  format_is = front_number w32 a b 16 (omega (arith, long)) ∙ has.format_is;
}

-- zeros are no block of metadata
pub zeros_no_header : (kind format n : ℕ) → HasHeader kind format (replicate n 0) → ⊥
unfolding number_at
zeros_no_header kind format n has = absurd (omega (arith, zero_is n, has.magic_is))
  where
    zero_number : (xs : List ℕ) → ((i : ℕ) → get_or xs i 0 ≡ 0) → from_be_bytes w32 xs ≡ 0
    zero_number xs none = rw (none 0, none 1, none 2, none 3) refl

    each : (n m : ℕ) → byte (take 4 (drop 0 (replicate n 0))) m ≡ 0
    each n m = elim (cases_lt m 4) [
      | inl low ↦ get_or-take 4 (drop 0 (replicate n 0)) m 0 low ∙ get_or-drop 0 (replicate n 0) m 0 ∙ zero_byte n (0 + m)
      | inr far ↦ get_or_past (take 4 (drop 0 (replicate n 0))) m 0 (omega (arith, far, length-take 4 (drop 0 (replicate {A = ℕ} n 0))))
    ]

    zero_is : (n : ℕ) → u32_at 0 (replicate n 0) ≡ 0
    zero_is n = zero_number (take 4 (drop 0 (replicate n 0))) (each n)

-- ---- the header of a new table block

pub new_header : HasHeader 7 700 table_header
unfolding with_fields with_number number_at
new_header = record { magic_is = refl; kind_is = refl; format_is = refl }

pub new_header_long : length table_header ≡ 24
unfolding with_fields with_number
new_header_long = refl

-- ---- a table block

module _ (size : ℕ) (large : 512 ≤ size) (headers pointers : List ℕ) where
  abbrev u : ℕ
  u = size - 24

  part : ℕ → List ℕ
  part j = slice (j * (size - header_length)) (size - header_length) pointers

  pub header_long : (j : ℕ) → length headers % 24 ≡ 0 → length (header_at headers j) ≡ 24
  header_long j whole = elim (cases_lt (j * 24) (length headers)) [
    | inl less ↦ ap length (cond-true (nat_lt (j * 24) (length headers)) (slice (j * 24) 24 headers) table_header (lt-ltb (j * 24) (length headers) less))
        ∙ length-take 24 (drop (j * 24) headers) ∙ omega (arith, length-drop (j * 24) headers, less, whole)
    | inr more ↦ ap length (cond-false (nat_lt (j * 24) (length headers)) (slice (j * 24) 24 headers) table_header (le-ltb (j * 24) (length headers) more)) ∙ new_header_long
  ]

  part_short : (j : ℕ) → length (slice (j * (size - 24)) (size - 24) pointers) ≤ size - 24
  part_short j = omega (arith, length-take (size - 24) (drop (j * (size - 24)) pointers))

  pub block_long : (j : ℕ) → length headers % 24 ≡ 0 → length (table_block size headers pointers j) ≡ size
  block_long j whole =
      let p = slice (j * (size - 24)) (size - 24) pointers in
      length-append (header_at headers j) (p ++ replicate (size - 24 - length p) 0) ∙ ap₂ (λ a b. a + b) (header_long j whole) (length-append p (replicate (size - 24 - length p) 0) ∙ ap (λ n. length p + n) (length-replicate (size - 24 - length p) 0))
      ∙ omega (arith, part_short j, large)

  -- all of them
  pub table_long : length headers % 24 ≡ 0 → length (table_bytes size headers pointers) ≡ pieces (length pointers) (size - 24) * size
  table_long whole = pieces_length (table_block size headers pointers) size 0 (pieces (length pointers) (size - 24)) (λ x low. block_long x whole)

  -- its header
  pub block_header : (j : ℕ) → length headers % 24 ≡ 0 → take 24 (table_block size headers pointers j) ≡ header_at headers j
  block_header j whole =
      let long = header_long j whole in
      take-append-le 24 (header_at headers j) _ (omega (arith, long)) ∙ take_all 24 (header_at headers j) (omega (arith, long))

  pub block_has_header : (j : ℕ) → length headers % 24 ≡ 0 → HasHeader 7 700 (header_at headers j) → HasHeader 7 700 (table_block size headers pointers j)
  block_has_header j whole has = header_front 7 700 (header_at headers j) _ (omega (arith, header_long j whole)) has

  -- its pointers
  pub block_pointer : (j r : ℕ) → length headers % 24 ≡ 0 → r + 8 ≤ size - 24 → j * (size - 24) + r + 8 ≤ length pointers → u64_at (24 + r) (table_block size headers pointers j) ≡ u64_at (j * (size - 24) + r) pointers
  block_pointer j r whole fits inside =
      let p = slice (j * (size - 24)) (size - 24) pointers in
      let long : length (header_at headers j) ≡ 24 = header_long j whole in
      let room : r + 8 ≤ length p = omega (arith, length-take (size - 24) (drop (j * (size - 24)) pointers), length-drop (j * (size - 24)) pointers, fits, inside) in
      ap (λ n. u64_at (n + r) (table_block size headers pointers j)) (sym long) ∙ numbers_at_the_back (header_at headers j) (p ++ replicate (size - 24 - length p) 0) r
      ∙ numbers_in_front p (replicate (size - 24 - length p) 0) r room
      ∙ in_part r fits inside
    where
      in_part : (r : ℕ) → r + 8 ≤ size - 24 → j * (size - 24) + r + 8 ≤ length pointers → u64_at r (slice (j * (size - 24)) (size - 24) pointers) ≡ u64_at (j * (size - 24) + r) pointers
      in_part r fits inside =
          let rest = drop (j * (size - 24)) pointers in
          u64_same r r (take (size - 24) rest) rest (in_front (size - 24) r rest fits) ∙ sym (number_behind pointers (j * (size - 24)) r)

  -- and zeros behind the last of them
  pub block_clear : (j : ℕ) → length headers % 24 ≡ 0 → length pointers < (j + 1) * (size - 24) → drop (24 + (length pointers - j * (size - 24))) (table_block size headers pointers j) ≡ replicate (size - 24 - (length pointers - j * (size - 24))) 0
  block_clear j whole last =
      let p = slice (j * (size - 24)) (size - 24) pointers in
      let long : length (header_at headers j) ≡ 24 = header_long j whole in
      let rest : length p ≡ length pointers - j * (size - 24) = omega (arith, length-take (size - 24) (drop (j * (size - 24)) pointers), length-drop (j * (size - 24)) pointers, last) in
      let front : length (header_at headers j ++ p) ≡ 24 + (length pointers - j * (size - 24)) = length-append (header_at headers j) p ∙ ap₂ (λ a b. a + b) long rest in
      ap (drop (24 + (length pointers - j * (size - 24)))) (sym (append_assoc (header_at headers j) p (replicate (size - 24 - length p) 0)))
      ∙ drop_at (header_at headers j ++ p) (replicate (size - 24 - length p) 0) (24 + (length pointers - j * (size - 24))) front
      ∙ ap (λ n. replicate (size - 24 - n) 0) rest

-- ---- content that is written whole

pub all_over : (new old : List ℕ) → length old ≤ length new → overwritten 0 new old ≡ new
all_over new old short = same_bytes (overwritten 0 new old) new (over_length 0 new old ∙ omega (arith, short)) each
  where
    each : (n : ℕ) → n < length (overwritten 0 new old) → byte (overwritten 0 new old) n ≡ byte new n
    each n low =
        let none : n - 0 ≡ n = omega arith in
        over_in 0 new old n (omega arith) (omega (arith, low, over_length 0 new old, short)) ∙ ap (byte new) none

-- equal rows of pieces have equal pieces
pub same_piece : (P Q : ℕ → List ℕ) (u n j : ℕ) → ((i : ℕ) → i < n → length (P i) ≡ u) → ((i : ℕ) → i < n → length (Q i) ≡ u) → j < n → flat_map P (range_with_len 0 n) ≡ flat_map Q (range_with_len 0 n) → P j ≡ Q j
same_piece P Q u n j long long' low same =
    sym (whole P long) ∙ ap (λ xs. take u (drop (j * u + 0) xs)) same ∙ whole Q long'
  where
    whole : (R : ℕ → List ℕ) → ((i : ℕ) → i < n → length (R i) ≡ u) → take u (drop (j * u + 0) (flat_map R (range_with_len 0 n))) ≡ R j
    whole R each = range_of_piece R u n j 0 u (λ i less. each i (omega (arith, less, low))) (each j low) low (omega arith) ∙ take_all u (R j) (omega (arith, each j low))
