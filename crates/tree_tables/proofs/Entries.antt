-- The pointers of a table in the content of its directory, as the blocks have them.
use Rattle.std.proofs.Common.{◌≡◌, ◌≢◌, ℕ, suc, ◌+◌, ◌-◌, ◌*◌, ◌/◌, ◌%◌, ◌<◌, ◌≤◌, inl, inr, true, List, length, take, drop, replicate, refl, sym, ap, ◌∙◌, subst, arith, drop-drop, length-drop}
use Rattle.std.specs.Prelude.{flat_map, ◌==◌}
use Rattle.std.specs.Int.{w64, from_be_bytes}
use Rattle.std.specs.List.{range_with_len}
use Rattle.std.proofs.lemmas.Bool.{cases_eq, cond-true, cond-false, eq-eqb, ne_eqb}
use Rattle.std.proofs.lemmas.Nat.{div-add-mod'}
use Rattle.std.proofs.lemmas.List.{drop-take, length-replicate, take-take}
use Rattle.std.proofs.Math.Nat.{mul-div_cancel}
use Rattle.hash_dirs.proofs.Numbers.{zeros_are_no_number}
use Rattle.gfs2_layout.specs.Inode.{Fits}
use Rattle.dinode_tree.specs.Reading.{AreWholeBefore, reach}
use Rattle.dinode_tree.proofs.Pointers.{some_within}
use Rattle.dinode_tree.proofs.Ranges.{piece_within}
use Rattle.gfs2_layout.specs.Bytes.{number_at, u64_at}
use Rattle.gfs2_layout.specs.Device.{IsBlockSize}
use Rattle.gfs2_layout.specs.Holding.{Holding, bytes_at}
use Rattle.gfs2_layout.specs.Inode.{carried, content_block, content_count, content_of, dinode_in, entry, header_length, height_in, is_directory_in, unit}
use Rattle.gfs2_layout.specs.Structures.{dinode_length}
use Rattle.dinode_tree.proofs.Ranges.{range_of_piece}

u64_behind : (start at : ℕ) (bytes : List ℕ) → u64_at (start + at) bytes ≡ u64_at at (drop start bytes)
unfolding number_at
u64_behind start at bytes = ap (λ (b : List ℕ). from_be_bytes w64 (take 8 b)) (sym (drop-drop at start bytes))

-- numbers are read alike where the eight bytes are the same
pub u64_same : (a b : ℕ) (xs ys : List ℕ) → take 8 (drop a xs) ≡ take 8 (drop b ys) → u64_at a xs ≡ u64_at b ys
unfolding number_at
u64_same a b xs ys same = ap (from_be_bytes w64) same

pub in_front : (size at : ℕ) (xs : List ℕ) → at + 8 ≤ size → take 8 (drop at (take size xs)) ≡ take 8 (drop at xs)
in_front size at xs low =
    ap (λ n. take 8 (drop at (take n xs))) (whole low) ∙ ap (take 8) (drop-take at (size - at) xs) ∙ take-take 8 (size - at) (drop at xs) (room low)
  where
    whole : at + 8 ≤ size → size ≡ at + (size - at)
    whole low = omega arith

    room : at + 8 ≤ size → 8 ≤ size - at
    room low = omega arith

module _ (h : Holding) (i : ℕ) (low : 8 * i + 8 ≤ (dinode_in h).size) where
  pub entry_stuffed : height_in h ≡ 0 → entry h i ≡ u64_at (dinode_length + 8 * i) (bytes_at h h.own)
  unfolding content_of
  entry_stuffed none =
      let here : content_of h ≡ take (dinode_in h).size (drop dinode_length (bytes_at h h.own)) = ap (take (dinode_in h).size) (cond-true (height_in h == 0) _ _ (eq-eqb (height_in h) 0 none)) in
      ap (u64_at (8 * i)) here ∙ u64_same (8 * i) (8 * i) _ _ (in_front (dinode_in h).size (8 * i) (drop dinode_length (bytes_at h h.own)) low) ∙ sym (u64_behind dinode_length (8 * i) (bytes_at h h.own))

-- pointers don't lie across the blocks of a table
pub fits_block : (size n : ℕ) → IsBlockSize size → 8 * n % (size - header_length) + 8 ≤ size - header_length
fits_block size n (inl e) = subst (λ s. 8 * n % (s - 24) + 8 ≤ s - 24) (sym e) (omega arith)
fits_block size n (inr (inl e)) = subst (λ s. 8 * n % (s - 24) + 8 ≤ s - 24) (sym e) (omega arith)
fits_block size n (inr (inr (inl e))) = subst (λ s. 8 * n % (s - 24) + 8 ≤ s - 24) (sym e) (omega arith)
fits_block size n (inr (inr (inr e))) = subst (λ s. 8 * n % (s - 24) + 8 ≤ s - 24) (sym e) (omega arith)

module _ (h : Holding) (level : ℕ) (block_size : IsBlockSize h.size) (directory : is_directory_in h ≡ true) (high : height_in h ≡ suc level) (fits : Fits h) (whole : (at : ℕ) → AreWholeBefore h at) where
  pub unit_is : unit h ≡ h.size - header_length
  unit_is = cond-true (is_directory_in h) (h.size - header_length) h.size directory

  size_some : 512 ≤ h.size
  size_some = by h.size block_size
    where
      by : (n : ℕ) → IsBlockSize n → 512 ≤ n
      by n is = omega arith

  unit_some : 0 < unit h
  unit_some = omega (arith, unit_is, size_some)

  -- each piece of the content is as long as a block carries
  piece_long : (j : ℕ) → j < content_count h → length (carried h (content_block h j)) ≡ unit h
  piece_long j low = elim (cases_eq (content_block h j) 0) [
    | inl none ↦ ap length (cond-true (content_block h j == 0) (replicate (unit h) 0) (drop (h.size - unit h) (bytes_at h (content_block h j))) (eq-eqb (content_block h j) 0 none)) ∙ length-replicate (unit h) 0
    | inr some ↦
        let reached : j < reach h.size (height_in h) = subst (λ n. j < reach h.size n) (sym high) (omega (arith, low, fits.under level high)) in
        let at : suc j * unit h / unit h ≡ suc j = mul-div_cancel (suc j) unit_some in
        let long : length (bytes_at h (content_block h j)) ≡ h.size = whole (suc j * unit h) j (content_block h j) (omega (arith, at)) low (some_within h j (content_block h j) reached refl some) in
        ap length (cond-false (content_block h j == 0) (replicate (unit h) 0) (drop (h.size - unit h) (bytes_at h (content_block h j))) (ne_eqb (content_block h j) 0 some))
        ∙ length-drop (h.size - unit h) (bytes_at h (content_block h j)) ∙ omega (arith, long, unit_is, size_some)
  ]

  module _ (i : ℕ) (low : 8 * i + 8 ≤ (dinode_in h).size) where
    pub q : ℕ
    q = 8 * i / unit h

    pub within : 8 * i / unit h < content_count h
    within = piece_within (8 * i) (dinode_in h).size (unit h) unit_some (omega (arith, low))

    fits_here : 8 * i % unit h + 8 ≤ unit h
    fits_here = subst (λ u. 8 * i % u + 8 ≤ u) (sym unit_is) (fits_block h.size i block_size)

    -- the pointer is in the piece of its block
    in_piece : entry h i ≡ u64_at (8 * i % unit h) (carried h (content_block h (8 * i / unit h)))
    unfolding content_of
    in_piece =
        let laid = flat_map (λ j. carried h (content_block h j)) (range_with_len 0 (content_count h)) in
        let here : content_of h ≡ take (dinode_in h).size laid = ap (take (dinode_in h).size) (cond-false (height_in h == 0) (drop dinode_length (bytes_at h h.own)) laid (ne_eqb (height_in h) 0 (λ e. absurd (omega (arith, e, high))))) in
        let place : 8 * i ≡ 8 * i / unit h * unit h + 8 * i % unit h = sym (div-add-mod' (8 * i) (unit h)) in
        ap (u64_at (8 * i)) here
        ∙ u64_same (8 * i) (8 * i % unit h) (take (dinode_in h).size laid) (carried h (content_block h (8 * i / unit h)))
        (in_front (dinode_in h).size (8 * i) laid low ∙ ap (λ n. take 8 (drop n laid)) place
        ∙ range_of_piece (λ j. carried h (content_block h j)) (unit h) (content_count h) (8 * i / unit h) (8 * i % unit h) 8
        (λ j less. piece_long j (omega (arith, less, within))) (piece_long (8 * i / unit h) within) within fits_here)

    pub entry_in_hole : content_block h (8 * i / unit h) ≡ 0 → entry h i ≡ 0
    entry_in_hole none =
        let zeros : carried h (content_block h (8 * i / unit h)) ≡ replicate (unit h) 0 = cond-true (content_block h (8 * i / unit h) == 0) _ _ (eq-eqb (content_block h (8 * i / unit h)) 0 none) in
        in_piece ∙ ap (λ n. u64_at n (carried h (content_block h (8 * i / unit h)))) (let e : 8 * i % unit h ≡ 0 + 8 * i % unit h = omega arith in e) ∙ zeros_are_no_number (carried h (content_block h (8 * i / unit h))) 0 (8 * i % unit h) (unit h) zeros

    pub entry_in_block : content_block h (8 * i / unit h) ≢ 0 → entry h i ≡ u64_at (header_length + 8 * i % unit h) (bytes_at h (content_block h (8 * i / unit h)))
    entry_in_block some =
        let b = content_block h (8 * i / unit h) in
        let piece : carried h b ≡ drop (h.size - unit h) (bytes_at h b) = cond-false (b == 0) _ _ (ne_eqb b 0 some) in
        let head : h.size - unit h ≡ header_length = omega (arith, unit_is, size_some) in
        in_piece ∙ ap (u64_at (8 * i % unit h)) (piece ∙ ap (λ n. drop n (bytes_at h b)) head) ∙ sym (u64_behind header_length (8 * i % unit h) (bytes_at h b))
