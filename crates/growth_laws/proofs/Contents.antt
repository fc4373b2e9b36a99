-- What a file reads as, from the blocks at its places.
use Rattle.std.proofs.Common.{◌≡◌, ◌≢◌, ℕ, suc, ◌+◌, ◌-◌, ◌*◌, ◌/◌, ◌%◌, ◌<◌, ◌≤◌, inl, inr, true, false, List, length, take, drop, sym, ap, ap₂, subst, ◌∙◌, arith}
use Rattle.std.proofs.lemmas.Bool.{cases_eq, cond-false, ne_eqb}
use Rattle.std.proofs.lemmas.List.{length-take, length-replicate, get_or-take}
use Rattle.std.proofs.lemmas.Nat.{div-add-mod', mod_below}
use Rattle.std.proofs.Math.Nat.{lt-div-mul-add}
use Rattle.std.specs.Prelude.{◌==◌, replicate, flat_map}
use Rattle.std.specs.List.{range_with_len}
use Rattle.gfs2_layout.specs.Holding.{Holding, bytes_at}
use Rattle.gfs2_layout.specs.Inode.{dinode_in, height_in, is_directory_in, fan, span, unit, carried, content_block, pieces, content_count, content_of}
use Rattle.gfs2_layout.specs.Structures.{dinode_length, is_regular, file_type}
use Rattle.growth_laws.specs.Files.{IsFile, places_on, block_on, IsPlaced}
use Rattle.dinode_tree.proofs.Ranges.{piece_within}
use Rattle.growth_laws.proofs.Bytes.{byte, pieces_length, piece_byte}
use Rattle.growth_laws.proofs.Counting.{joined_same}
use Rattle.growth_laws.proofs.Places.{size_large, part_of_place, part_there, content_is_level_zero}

-- a regular file is no directory
pub no_directory : (h : Holding) → is_regular (dinode_in h) ≡ true → is_directory_in h ≡ false
no_directory h regular = ne_eqb (file_type (dinode_in h).mode) 4 (λ four. omega (arith, four, eight))
  where
    use_eq : (n : ℕ) → (n == 8) ≡ true → n ≡ 8
    use_eq n e = elim (cases_eq n 8) [ inl is ↦ is | inr apart ↦ let both : true ≡ false = sym e ∙ ne_eqb n 8 apart in absurd (cc) ]

    eight : file_type (dinode_in h).mode ≡ 8
    eight = use_eq (file_type (dinode_in h).mode) regular

-- so its blocks of content carry whole blocks
pub whole_unit : (h : Holding) → is_regular (dinode_in h) ≡ true → unit h ≡ h.size
whole_unit h regular = cond-false _ _ _ (no_directory h regular)

-- ---- places of two files

-- the same blocks stand there by their parts
pub same_place : (h h' : Holding) (level j : ℕ) → IsFile h → IsFile h' → level < height_in h → level < height_in h' → j < places_on h level → j < places_on h' level
    → ((c : ℕ) → IsPlaced h c level (j * span h.size level) → IsPlaced h' c level (j * span h'.size level))
    → ((c : ℕ) → IsPlaced h' c level (j * span h'.size level) → IsPlaced h c level (j * span h.size level)) → block_on h' level j ≡ block_on h level j
same_place h h' level j file file' less less' low low' there back = elim (cases_eq (block_on h level j) 0) [
  | inl hole ↦ elim (cases_eq (block_on h' level j) 0) [
    | inl hole' ↦ hole' ∙ sym hole
    | inr some' ↦ sym ((part_there h file level j (block_on h' level j) less low some').1 (back (block_on h' level j) (part_of_place h' file' level j less' low' some')))
  ]
  | inr some ↦ (part_there h' file' level j (block_on h level j) less' low' some).1 (there (block_on h level j) (part_of_place h file level j less low some))
]

-- ---- content

-- a block of content before the end has a place
pub content_place : (h : Holding) (i : ℕ) → IsFile h → height_in h ≢ 0 → i < content_count h → (0 < height_in h) × (i < places_on h 0)
content_place h i file high low =
    let up : height_in h ≡ suc (height_in h - 1) = omega (arith, high) in
    let same : height_in h - 1 ≡ height_in h - 1 - 0 = omega arith in
    let under : content_count h ≤ fan h.size dinode_length * span h.size (height_in h - 1) = file.fits.under (height_in h - 1) up in
    (omega (arith, high), subst (λ n. i < fan h.size dinode_length * span h.size n) same (omega (arith, under, low)))

-- the content of a file in blocks
pub content_in_blocks : (h : Holding) → height_in h ≢ 0 → content_of h ≡ take (dinode_in h).size (flat_map (λ i. carried h (content_block h i)) (range_with_len 0 (content_count h)))
unfolding content_of
content_in_blocks h high = ap (take (dinode_in h).size) (cond-false _ _ _ (ne_eqb (height_in h) 0 high))

-- of two files with one size, in blocks that carry the same
pub same_content : (h h' : Holding) → height_in h ≢ 0 → height_in h' ≢ 0 → (dinode_in h').size ≡ (dinode_in h).size → content_count h' ≡ content_count h
    → ((i : ℕ) → i < content_count h → carried h' (content_block h' i) ≡ carried h (content_block h i)) → content_of h' ≡ content_of h
same_content h h' high high' sizes counts each =
    content_in_blocks h' high'
    ∙ ap₂ take sizes (ap (λ n. flat_map (λ i. carried h' (content_block h' i)) (range_with_len 0 n)) counts
    ∙ joined_same (λ i. carried h' (content_block h' i)) (λ i. carried h (content_block h i)) 0 (content_count h) (λ i low less. each i (omega (arith, less))))
    ∙ sym (content_in_blocks h high)

-- ---- content by its bytes

-- what a block of content carries: zeros of a hole, and else its bytes
pub carried_hole : (h : Holding) → is_regular (dinode_in h) ≡ true → carried h 0 ≡ replicate h.size 0
carried_hole h regular = ap (λ n. replicate n 0) (whole_unit h regular)

pub carried_block : (h : Holding) (c : ℕ) → is_regular (dinode_in h) ≡ true → c ≢ 0 → carried h c ≡ bytes_at h c
carried_block h c regular some =
    let none : h.size - unit h ≡ 0 = omega (arith, whole_unit h regular) in
    cond-false _ _ _ (ne_eqb c 0 some) ∙ ap (λ n. drop n (bytes_at h c)) none

enough : (n u : ℕ) → 0 < u → n ≤ (n + u - 1) / u * u
enough n u some = let next : n + u - 1 < (n + u - 1) / u * u + u = lt-div-mul-add some in omega (arith, next)

module _ (h : Holding) (file : IsFile h) (high : height_in h ≢ 0) where
  unit_is : unit h ≡ h.size
  unit_is = whole_unit h file.regular

  pub size_some : 0 < h.size
  size_some = omega (arith, size_large h.size file.block_size)

  -- a block of content is one of the file
  pub content_part : (i : ℕ) → i < content_count h → content_block h i ≢ 0 → IsPlaced h (content_block h i) 0 i
  content_part i low some =
      let at = content_place h i file high low in
      let same = content_is_level_zero h i in
      let index : i * 1 ≡ i = omega arith in
      subst (IsPlaced h (content_block h i) 0) index (subst (λ c. IsPlaced h c 0 (i * 1)) (sym same) (part_of_place h file 0 i at.0 at.1 (λ none. some (same ∙ none))))

  pub carried_length : (i : ℕ) → i < content_count h → length (carried h (content_block h i)) ≡ h.size
  carried_length i low = elim (cases_eq (content_block h i) 0) [
    | inl none ↦ ap (λ c. length (carried h c)) none ∙ ap length (carried_hole h file.regular) ∙ length-replicate h.size 0
    | inr some ↦ let placed = content_part i low some in ap length (carried_block h (content_block h i) file.regular some) ∙ file.whole (content_block h i) _ placed.2
  ]

  all_bytes : List ℕ
  all_bytes = flat_map (λ i. carried h (content_block h i)) (range_with_len 0 (content_count h))

  pub content_length : length (content_of h) ≡ (dinode_in h).size
  unfolding all_bytes
  content_length =
      let all : length all_bytes ≡ content_count h * h.size = pieces_length (λ i. carried h (content_block h i)) h.size 0 (content_count h) (λ i low. carried_length i (omega (arith, low))) in
      let up : (dinode_in h).size ≤ content_count h * h.size = subst (λ u. (dinode_in h).size ≤ pieces (dinode_in h).size (unit h) * u) unit_is (enough (dinode_in h).size (unit h) (omega (arith, unit_is, size_some))) in
      ap length (content_in_blocks h high) ∙ length-take (dinode_in h).size all_bytes ∙ omega (arith, all, up)

  pub content_byte : (n : ℕ) → n < (dinode_in h).size → (n / h.size < content_count h) × (byte (content_of h) n ≡ byte (carried h (content_block h (n / h.size))) (n % h.size))
  unfolding all_bytes
  content_byte n low =
      let within : n / h.size < content_count h = subst (λ u. n / u < content_count h) unit_is (piece_within n (dinode_in h).size (unit h) (omega (arith, unit_is, size_some)) low) in
      let none : 0 + n / h.size ≡ n / h.size = omega arith in (
        within,
        ap (λ xs. byte xs n) (content_in_blocks h high) ∙ get_or-take (dinode_in h).size all_bytes n 0 low ∙ ap (byte all_bytes) (sym (div-add-mod' n h.size))
            ∙ piece_byte (λ i. carried h (content_block h i)) h.size 0 (content_count h) (n / h.size) (n % h.size) (λ i less. carried_length i (omega (arith, less))) within (mod_below n h.size size_some)
            ∙ ap (λ i. byte (carried h (content_block h i)) (n % h.size)) none,
      )
