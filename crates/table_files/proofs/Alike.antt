-- Inodes whose pointers lead alike, whatever else their blocks say.
use Rattle.std.proofs.Common.{◌≡◌, ◌≢◌, ◌⊎◌, ℕ, zero, suc, ◌+◌, ◌-◌, ◌*◌, ◌/◌, ◌%◌, ◌<◌, ◌≤◌, inl, inr, true, Option, Some, refl, sym, ap, ◌∙◌, subst, arith}
use Rattle.std.specs.Prelude.{◌==◌}
use Rattle.std.proofs.lemmas.Bool.{cases_eq, cond-true, cond-false, eq-eqb, ne_eqb}
use Rattle.std.proofs.lemmas.Nat.{div_below}
use Rattle.std.proofs.Math.Nat.{mod-lt}
use Rattle.dinode_tree.proofs.Spans.{span_some}
use Rattle.gfs2_layout.specs.Bytes.{u64_at}
use Rattle.gfs2_layout.specs.Headers.{HasHeader}
use Rattle.gfs2_layout.specs.Holding.{Holding, Cell, Pointed, part_at, bytes_at}
use Rattle.gfs2_layout.specs.Inode.{HasTree, IsChild, IsPointed, by_dinode, by_block, height_in, is_directory_in, header_length, fan, span, pointer, descend, content_block, content_count}
use Rattle.gfs2_layout.specs.Structures.{dinode_length}
use Rattle.growth_laws.specs.Files.{with_cells}

-- The dinode's pointers are the same and lead as high, to content as far as before; the blocks below have their parts, and those with pointers their bytes.
pub record LeadAlike (h : Holding) (cell : ℕ → Option Cell) : Type 0 where
  pub height : height_in (with_cells h cell) ≡ height_in h
  pub count : (level : ℕ) → height_in h ≡ suc level → content_count (with_cells h cell) ≡ content_count h
  pub own : (level k : ℕ) → height_in h ≡ suc level → pointer (with_cells h cell) dinode_length h.own k ≡ pointer h dinode_length h.own k
  pub parts : (x b k level first : ℕ) → part_at h x ≡ Some (Pointed b k level first) → part_at (with_cells h cell) x ≡ Some (Pointed b k level first)
  pub only : (x b k level first : ℕ) → part_at (with_cells h cell) x ≡ Some (Pointed b k level first) → part_at h x ≡ Some (Pointed b k level first)
  pub indirect : (x b k level first : ℕ) → part_at h x ≡ Some (Pointed b k (suc level) first) → bytes_at (with_cells h cell) x ≡ bytes_at h x

module _ (h : Holding) (cell : ℕ → Option Cell) (alike : LeadAlike h cell) where
  abbrev g : Holding
  g = with_cells h cell

  block_pointer : (x b k level first : ℕ) → part_at h x ≡ Some (Pointed b k (suc level) first) → (j : ℕ) → pointer g header_length x j ≡ pointer h header_length x j
  block_pointer x b k level first at j = ap (u64_at (header_length + 8 * j)) (alike.indirect x b k level first at)

  child_alike : (n b k level first c : ℕ) → height_in h ≡ suc n → IsChild h b k level first c → IsChild g b k level first c
  child_alike n b k level first c high child = record { part = alike.parts c b k level first child.part; within = subst (λ m. first < m) (sym (alike.count n high)) child.within }

  pointed_alike : (x b k level first : ℕ) → IsPointed h x b k level first → IsPointed g x b k level first
  pointed_alike x b k level first (by_dinode at high low to begins) =
      by_dinode at (alike.height ∙ high) low (ap (λ z. pointer g dinode_length z k) at ∙ alike.own level k high ∙ ap (λ z. pointer h dinode_length z k) (sym at) ∙ to) begins
  pointed_alike x b k level first (by_block above j start part low to begins) =
      by_block above j start (alike.parts b above j (suc level) start part) low (block_pointer b above j level start part k ∙ to) begins

  high_by : HasTree h → (x b k level first : ℕ) → part_at h x ≡ Some (Pointed b k level first) → height_in h ≡ suc (height_in h - 1)
  high_by tree x b k level first part = omega (arith, tree.below x b k level first part)

  pub tree_alike : HasTree h → ((x b k first : ℕ) → is_directory_in g ≡ true → part_at h x ≡ Some (Pointed b k 0 first) → HasHeader 7 700 (bytes_at g x)) → HasTree g
  tree_alike tree headed = record {
    top = λ level high k low some.
        let high' : height_in h ≡ suc level = sym alike.height ∙ high in
        let same = alike.own level k high' in
        subst (IsChild g h.own k level (k * span h.size level)) (sym same) (child_alike level h.own k level (k * span h.size level) _ high' (tree.top level high' k low (λ none. some (same ∙ none))));
    inner = λ x b k level first part j low some.
        let part' = alike.only x b k (suc level) first part in
        let same = block_pointer x b k level first part' j in
        subst (IsChild g x j level (first + j * span h.size level)) (sym same)
        (child_alike (height_in h - 1) x j level (first + j * span h.size level) _ (high_by tree x b k (suc level) first part') (tree.inner x b k level first part' j low (λ none. some (same ∙ none))));
    pointed = λ x b k level first part. pointed_alike x b k level first (tree.pointed x b k level first (alike.only x b k level first part));
    below = λ x b k level first part. subst (λ n. level < n) (sym alike.height) (tree.below x b k level first (alike.only x b k level first part));
    indirect = λ x b k level first part. let part' = alike.only x b k (suc level) first part in subst (HasHeader 5 500) (sym (alike.indirect x b k level first part')) (tree.indirect x b k level first part');
    table = λ x b k first directory part. headed x b k first directory (alike.only x b k 0 first part);
  }

  -- ---- the blocks of content

  -- nothing, or a block of the inode that stands so many levels above content
  abbrev IsAbove : ℕ → ℕ → Type 0
  IsAbove level c = (c ≡ 0) ⊎ ((b k first : ℕ) × (part_at h c ≡ Some (Pointed b k level first)))

  -- the block of content below a block is the same
  abbrev LeadsAlike : ℕ → ℕ → ℕ → Type 0
  LeadsAlike level c i = descend g level c i ≡ descend h level c i

  above_by : (level x : ℕ) → (x ≢ 0 → (b k first : ℕ) × (part_at h x ≡ Some (Pointed b k level first))) → IsAbove level x
  above_by level x child = elim (cases_eq x 0) [ inl e ↦ inl e | inr d ↦ inr (child d) ]

  nowhere : (level c i : ℕ) → c ≡ 0 → LeadsAlike (suc level) c i
  nowhere level c i none =
      let here : descend h (suc level) c i ≡ 0 = cond-true (c == 0) 0 _ (eq-eqb c 0 none) in
      let there : descend g (suc level) c i ≡ 0 = cond-true (c == 0) 0 _ (eq-eqb c 0 none) in
      there ∙ sym here

  descend_alike : HasTree h → 512 ≤ h.size → (level c i : ℕ) → i < span h.size level → IsAbove level c → LeadsAlike level c i
  descend_alike tree large zero c i low way = refl
  descend_alike tree large (suc level) c i low (inl none) = nowhere level c i none
  descend_alike tree large (suc level) c i low (inr at) = elim (cases_eq c 0) [
    | inl none ↦ nowhere level c i none
    | inr some ↦
        let pos : 0 < span h.size level = span_some h.size level large in
        let q : ℕ = i / span h.size level in
        let r : ℕ = i % span h.size level in
        let to : pointer g header_length c q ≡ pointer h header_length c q = block_pointer c at.0 at.1 level at.2 at.3 q in
        let child = tree.inner c at.0 at.1 level at.2 at.3 q (div_below i (span h.size level) (fan h.size header_length) pos low) in
        let next = descend_alike tree large level (pointer h header_length c q) r (mod-lt i pos)
        (above_by level (pointer h header_length c q) (λ led. (c, q, at.2 + q * span h.size level, (child led).part))) in
        let here : descend h (suc level) c i ≡ descend h level (pointer h header_length c q) r = cond-false (c == 0) 0 _ (ne_eqb c 0 some) in
        let there : descend g (suc level) c i ≡ descend g level (pointer g header_length c q) r = cond-false (c == 0) 0 _ (ne_eqb c 0 some) in
        there ∙ ap (λ p. descend g level p r) to ∙ next ∙ sym here
  ]

  pub content_block_alike : HasTree h → 512 ≤ h.size → (level : ℕ) → height_in h ≡ suc level → (i : ℕ) → i < fan h.size dinode_length * span h.size level
      → content_block g i ≡ content_block h i
  unfolding content_block
  content_block_alike tree large level high i low =
      let pos : 0 < span h.size level = span_some h.size level large in
      let q : ℕ = i / span h.size level in
      let r : ℕ = i % span h.size level in
      let less : height_in h - 1 ≡ level = omega (arith, high) in
      let less' : height_in g - 1 ≡ level = omega (arith, high, alike.height) in
      let child = tree.top level high q (div_below i (span h.size level) (fan h.size dinode_length) pos low) in
      let next = descend_alike tree large level (pointer h dinode_length h.own q) r (mod-lt i pos)
      (above_by level (pointer h dinode_length h.own q) (λ led. (h.own, q, q * span h.size level, (child led).part))) in
      let here : content_block h i ≡ descend h level (pointer h dinode_length h.own q) r = ap (λ l. descend h l (pointer h dinode_length h.own (i / span h.size l)) (i % span h.size l)) less in
      let there : content_block g i ≡ descend g level (pointer g dinode_length h.own q) r = ap (λ l. descend g l (pointer g dinode_length h.own (i / span h.size l)) (i % span h.size l)) less' in
      there ∙ ap (λ p. descend g level p r) (alike.own level q high) ∙ next ∙ sym here
