-- The rules of a regular file don't look at what its blocks of content have.
use Rattle.std.proofs.Common.{◌≡◌, ◌≢◌, ℕ, zero, suc, ◌+◌, ◌*◌, ◌/◌, ◌%◌, ◌<◌, ◌≤◌, ◌⊎◌, inl, inr, true, false, Option, None, Some, refl, sym, ap, ◌∙◌, subst, arith}
use Rattle.std.specs.Prelude.{◌-◌, ◌&&◌, if◌then◌else◌, is_some, count_by}
use Rattle.std.specs.List.{range_with_len}
use Rattle.std.proofs.lemmas.Bool.{cases_eq, cond-true, cond-false, eq-eqb, ne_eqb, true≢false}
use Rattle.std.proofs.lemmas.Nat.{div_below}
use Rattle.image_model.proofs.Same.{positive}
use Rattle.gfs2_layout.specs.Bytes.{u64_at}
use Rattle.gfs2_layout.specs.Headers.{HasHeader}
use Rattle.gfs2_layout.specs.Structures.{dinode_of, dinode_length, is_directory, is_regular}
use Rattle.gfs2_layout.specs.declared.dinode.Dinode.{Dinode}
use Rattle.gfs2_layout.specs.Holding.{Part, Pointed, Cell, Holding, cell_part, part_at, bytes_at, Itself}
use Rattle.gfs2_layout.specs.Inode.{dinode_in, height_in, has_hash_flag, is_directory_in, is_hashed_in, header_length, fan, span, pointer, descend, content_block, pieces, content_count, IsChild, IsPointed, by_dinode, by_block, HasTree, block_count, IsInode}
use Rattle.image_model.proofs.Held.{some_same}
use Rattle.image_changes.specs.Contents.{SameButContent, ContentDoesNotMatter}
use Rattle.image_changes.proofs.Laid.{plain_file}

hashed_no : (h : Holding) → is_directory_in h ≡ false → is_hashed_in h ≡ false
hashed_no h plain = ap (λ b. b && has_hash_flag (dinode_in h)) plain

module _ (h h' : Holding) (regular : is_regular (dinode_in h) ≡ true) (own : part_at h h.own ≡ Some Itself) (same : SameButContent h h') (is : IsInode h) where
  own_bytes : bytes_at h' h'.own ≡ bytes_at h h.own
  own_bytes = ap (bytes_at h') same.own ∙ same.bytes h.own (λ above k first e. no above k first (sym own ∙ e))
    where
      no : (above k first : ℕ) → Some Itself ≡ Some (Pointed above k 0 first) → ⊥
      no above k first e = cc

  pub dinode_same : dinode_in h' ≡ dinode_in h
  unfolding dinode_in
  dinode_same = ap dinode_of own_bytes

  plain : is_directory_in h ≡ false
  plain = plain_file h regular

  plain' : is_directory_in h' ≡ false
  plain' = ap is_directory dinode_same ∙ plain

  height_same : height_in h' ≡ height_in h
  height_same = ap (λ (d : Dinode). d.height) dinode_same

  -- a block above content has the bytes that it had
  indirect_bytes : (x b k level first : ℕ) → part_at h x ≡ Some (Pointed b k (suc level) first) → bytes_at h' x ≡ bytes_at h x
  indirect_bytes x b k level first part = same.bytes x (λ above j start e. level_no above j start (sym part ∙ e))
    where
      level_no : (above j start : ℕ) → Some (Pointed b k (suc level) first) ≡ Some (Pointed above j 0 start) → ⊥
      level_no above j start e = absurd (omega (arith, ap level_of (some_same e)))
        where
          level_of : Part → ℕ
          level_of (Pointed b k level first) = level
          level_of _ = 0

  own_pointer : (k : ℕ) → pointer h' dinode_length h'.own k ≡ pointer h dinode_length h.own k
  own_pointer k = ap (u64_at (dinode_length + 8 * k)) own_bytes

  block_pointer : (x b k level first : ℕ) → part_at h x ≡ Some (Pointed b k (suc level) first) → (j : ℕ) → pointer h' header_length x j ≡ pointer h header_length x j
  block_pointer x b k level first part j = ap (u64_at (header_length + 8 * j)) (indirect_bytes x b k level first part)

  count_same : content_count h' ≡ content_count h
  count_same = λ i. pieces (dinode_same i).size (if is_directory (dinode_same i) then same.size i - header_length else same.size i)

  child_after : (b k level first c : ℕ) → IsChild h b k level first c → IsChild h' b k level first c
  child_after b k level first c child = record { part = same.parts c ∙ child.part; within = subst (λ n. first < n) (sym count_same) child.within }

  tree_after : HasTree h'
  tree_after = record {
    top = λ level high k low some. top level (sym height_same ∙ high) k (subst (λ n. k < fan n dinode_length) same.size low) some;
    inner = λ x b k level first part j low some. inner x b k level first (sym (same.parts x) ∙ part) j (subst (λ n. j < fan n header_length) same.size low) some;
    pointed = λ x b k level first part. pointed x b k level first (is.tree.pointed x b k level first (sym (same.parts x) ∙ part));
    below = λ x b k level first part. subst (λ n. level < n) (sym height_same) (is.tree.below x b k level first (sym (same.parts x) ∙ part));
    indirect = λ x b k level first part. subst (HasHeader 5 500) (sym (indirect_bytes x b k level first (sym (same.parts x) ∙ part))) (is.tree.indirect x b k level first (sym (same.parts x) ∙ part));
    table = λ x b k first dir part. absurd (true≢false (sym dir ∙ plain'));
  }
    where
      top : (level : ℕ) → height_in h ≡ suc level → (k : ℕ) → k < fan h.size dinode_length → pointer h' dinode_length h'.own k ≢ 0
          → IsChild h' h'.own k level (k * span h'.size level) (pointer h' dinode_length h'.own k)
      top level high k low some =
          let child = is.tree.top level high k low (λ e. some (own_pointer k ∙ e)) in
          subst (λ c. IsChild h' h'.own k level (k * span h'.size level) c) (sym (own_pointer k))
          (subst (λ x. IsChild h' x k level (k * span h'.size level) (pointer h dinode_length h.own k)) (sym same.own)
          (subst (λ n. IsChild h' h.own k level (k * span n level) (pointer h dinode_length h.own k)) (sym same.size) (child_after h.own k level (k * span h.size level) (pointer h dinode_length h.own k) child)))

      inner : (x b k level first : ℕ) → part_at h x ≡ Some (Pointed b k (suc level) first) → (j : ℕ) → j < fan h.size header_length → pointer h' header_length x j ≢ 0
          → IsChild h' x j level (first + j * span h'.size level) (pointer h' header_length x j)
      inner x b k level first part j low some =
          let to = block_pointer x b k level first part j in
          let child = is.tree.inner x b k level first part j low (λ e. some (to ∙ e)) in
          subst (IsChild h' x j level (first + j * span h'.size level)) (sym to)
          (subst (λ n. IsChild h' x j level (first + j * span n level) (pointer h header_length x j)) (sym same.size) (child_after x j level (first + j * span h.size level) (pointer h header_length x j) child))

      pointed : (x b k level first : ℕ) → IsPointed h x b k level first → IsPointed h' x b k level first
      pointed x b k level first (by_dinode at high low to begins) =
          by_dinode (at ∙ sym same.own) (height_same ∙ high) (subst (λ n. k < fan n dinode_length) (sym same.size) low)
          (ap (λ z. pointer h' dinode_length z k) (at ∙ sym same.own) ∙ own_pointer k ∙ ap (λ z. pointer h dinode_length z k) (sym at) ∙ to)
          (begins ∙ ap (λ n. k * span n level) (sym same.size))
      pointed x b k level first (by_block above j start part low to begins) =
          by_block above j start (same.parts b ∙ part) (subst (λ n. k < fan n header_length) (sym same.size) low) (block_pointer b above j level start part k ∙ to)
          (begins ∙ ap (λ n. start + k * span n level) (sym same.size))

  -- nothing, or a block of the inode that stands so many levels above content
  descend_after : (level c i : ℕ) → i < span h.size level → (c ≡ 0) ⊎ ((b k first : ℕ) × (part_at h c ≡ Some (Pointed b k level first))) → descend h' level c i ≡ descend h level c i
  descend_after zero c i low way = refl
  descend_after (suc level) c i low (inl e) = cond-true _ 0 _ (eq-eqb c 0 e) ∙ sym (cond-true _ 0 _ (eq-eqb c 0 e))
  descend_after (suc level) c i low (inr g) =
      let pos : 0 < span h.size level = positive i (fan h.size header_length) (span h.size level) low in
      let at : i / span h'.size level ≡ i / span h.size level = ap (λ n. i / span n level) same.size in
      let rest : i % span h'.size level ≡ i % span h.size level = ap (λ n. i % span n level) same.size in
      let to : pointer h' header_length c (i / span h'.size level) ≡ pointer h header_length c (i / span h.size level) = ap (pointer h' header_length c) at ∙ block_pointer c g.0 g.1 level g.2 g.3 (i / span h.size level) in
      let child = is.tree.inner c g.0 g.1 level g.2 g.3 (i / span h.size level) (div_below i (span h.size level) (fan h.size header_length) pos low) in
      let next = descend_after level (pointer h header_length c (i / span h.size level)) (i % span h.size level) (omega (arith, pos))
      (reached (pointer h header_length c (i / span h.size level)) (λ some. (c, i / span h.size level, g.2 + (i / span h.size level) * span h.size level, (child some).part))) in
      elim (cases_eq c 0) [
        | inl e ↦ cond-true _ 0 _ (eq-eqb c 0 e) ∙ sym (cond-true _ 0 _ (eq-eqb c 0 e))
        | inr d ↦ cond-false _ 0 _ (ne_eqb c 0 d) ∙ (λ j. descend h' level (to j) (rest j)) ∙ next ∙ sym (cond-false _ 0 _ (ne_eqb c 0 d))
      ]
    where
      reached : (x : ℕ) → (x ≢ 0 → (b k first : ℕ) × (part_at h x ≡ Some (Pointed b k level first))) → (x ≡ 0) ⊎ ((b k first : ℕ) × (part_at h x ≡ Some (Pointed b k level first)))
      reached x child = elim (cases_eq x 0) [ inl e ↦ inl e | inr d ↦ inr (child d) ]

  -- the blocks of content stand where they stood
  pub content_block_after : (level : ℕ) → height_in h ≡ suc level → (i : ℕ) → i < fan h.size dinode_length * span h.size level → content_block h' i ≡ content_block h i
  unfolding content_block
  content_block_after level high i low =
      let pos : 0 < span h.size level = positive i (fan h.size dinode_length) (span h.size level) low in
      let less : height_in h - 1 ≡ level = omega (arith, high) in
      let less' : height_in h' - 1 ≡ level = omega (arith, high, height_same) in
      let at : i / span h'.size level ≡ i / span h.size level = ap (λ n. i / span n level) same.size in
      let rest : i % span h'.size level ≡ i % span h.size level = ap (λ n. i % span n level) same.size in
      let to : pointer h' dinode_length h'.own (i / span h'.size level) ≡ pointer h dinode_length h.own (i / span h.size level) = ap (pointer h' dinode_length h'.own) at ∙ own_pointer (i / span h.size level) in
      let child = is.tree.top level high (i / span h.size level) (div_below i (span h.size level) (fan h.size dinode_length) pos low) in
      let next = descend_after level (pointer h dinode_length h.own (i / span h.size level)) (i % span h.size level) (omega (arith, pos))
      (reached (pointer h dinode_length h.own (i / span h.size level)) (λ some. (h.own, i / span h.size level, (i / span h.size level) * span h.size level, (child some).part))) in
      rw (less, less') ((λ j. descend h' level (to j) (rest j)) ∙ next)
    where
      reached : (x : ℕ) → (x ≢ 0 → (b k first : ℕ) × (part_at h x ≡ Some (Pointed b k level first))) → (x ≡ 0) ⊎ ((b k first : ℕ) × (part_at h x ≡ Some (Pointed b k level first)))
      reached x child = elim (cases_eq x 0) [ inl e ↦ inl e | inr d ↦ inr (child d) ]

  some_same_cell : (b : ℕ) → is_some (h'.cell b) ≡ is_some (h.cell b)
  some_same_cell b = by_part (h'.cell b) (h.cell b) (same.parts b)
    where
      by_part : (c d : Option Cell) → cell_part c ≡ cell_part d → is_some c ≡ is_some d
      by_part None None e = refl
      by_part (Some c) (Some d) e = refl
      by_part None (Some d) e = cc
      by_part (Some c) None e = cc

  blocks_same : block_count h' ≡ block_count h
  unfolding block_count
  blocks_same = λ i. count_by (λ b. some_same_cell b i) (range_with_len 0 (same.count i))

  pub file_after : IsInode h'
  file_after = record {
    whole = λ b p part. same.lengths b ∙ is.whole b p (sym (same.parts b) ∙ part) ∙ sym same.size;
    header = subst (HasHeader 4 400) (sym own_bytes) is.header;
    address = ap (λ (d : Dinode). d.num.address) dinode_same ∙ is.address ∙ sym same.own;
    number = λ e. is.number (ap (λ (d : Dinode). d.num.number) (sym dinode_same) ∙ e);
    mode = inr (ap is_regular dinode_same ∙ regular);
    links = λ e. ap (λ (d : Dinode). d.nlink) dinode_same ∙ is.links plain;
    fits = record {
      low = subst (λ n. n ≤ 10) (sym height_same) is.fits.low;
      stuffed = λ e. omega (arith, is.fits.stuffed (sym height_same ∙ e), ap (λ (d : Dinode). d.size) dinode_same, same.size);
      under = λ level e. subst (λ n. n ≤ fan h'.size dinode_length * span h'.size level) (sym count_same)
          (subst (λ n. content_count h ≤ fan n dinode_length * span n level) (sym same.size) (is.fits.under level (sym height_same ∙ e)));
    };
    tree = tree_after;
    linear = λ dir hashed. absurd (true≢false (sym dir ∙ plain'));
    hashed = λ hashed. absurd (true≢false (sym hashed ∙ hashed_no h' plain'));
    leafless = λ not x hash place part. is.leafless (hashed_no h plain) x hash place (sym (same.parts x) ∙ part);
    blocks = ap (λ (d : Dinode). d.blocks) dinode_same ∙ is.blocks ∙ sym blocks_same;
  }

pub content_does_not_matter : ContentDoesNotMatter
content_does_not_matter = file_after
