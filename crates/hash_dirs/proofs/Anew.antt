-- An inode with other bytes in its blocks that lead where they led: its tree and its content are what they were.
use Rattle.std.proofs.Common.{◌≡◌, ◌≢◌, ◌⊎◌, ℕ, zero, suc, ◌+◌, ◌-◌, ◌*◌, ◌/◌, ◌%◌, ◌<◌, ◌≤◌, inl, inr, List, ◌++◌, Option, take, drop, replicate, Some, refl, sym, ap, ap₂, ◌∙◌, subst, arith, drop-drop}
use Rattle.std.specs.Prelude.{◌==◌, flat_map, if◌then◌else◌}
use Rattle.std.specs.Int.{w64, from_be_bytes}
use Rattle.std.specs.List.{range_with_len}
use Rattle.std.proofs.lemmas.Bool.{cases_eq, cond-true, cond-false, eq-eqb, ne_eqb}
use Rattle.std.proofs.lemmas.Nat.{div_below}
use Rattle.std.proofs.Math.Nat.{mod-lt}
use Rattle.dinode_tree.proofs.Spans.{span_some}
use Rattle.gfs2_layout.specs.Bytes.{u64_at, number_at}
use Rattle.gfs2_layout.specs.Headers.{HasHeader}
use Rattle.gfs2_layout.specs.Holding.{Holding, Cell, Pointed, part_at, bytes_at}
use Rattle.gfs2_layout.specs.Inode.{HasTree, IsChild, IsPointed, by_dinode, by_block, Fits, dinode_in, height_in, is_directory_in, header_length, fan, span, pointer, descend, content_block, unit, carried, pieces, content_count, content_of}
use Rattle.gfs2_layout.specs.Structures.{dinode_length, is_directory}
use Rattle.gfs2_layout.specs.declared.dinode.Dinode.{Dinode}
use Rattle.growth_drafts.specs.Files.{with_cells}

-- what a dinode says but for its counts and its times
abbrev pub alike : Dinode → Dinode
alike d = record d { entries = 0; nlink = 0; atime = 0; mtime = 0; ctime = 0 }

-- The inode with these cells has its blocks in their parts; its dinode says the same but for counts and times; and what stands behind that, and
-- each block to which a pointer leads, stays.
pub record KeepsTree (h : Holding) (cell : ℕ → Option Cell) : Type 0 where
  pub parts : (x : ℕ) → part_at (with_cells h cell) x ≡ part_at h x
  pub dinode : alike (dinode_in (with_cells h cell)) ≡ alike (dinode_in h)
  pub behind : drop dinode_length (bytes_at (with_cells h cell) h.own) ≡ drop dinode_length (bytes_at h h.own)
  pub pointed : (x b k level first : ℕ) → part_at h x ≡ Some (Pointed b k level first) → bytes_at (with_cells h cell) x ≡ bytes_at h x

u64_behind : (start at : ℕ) (bytes : List ℕ) → u64_at (start + at) bytes ≡ u64_at at (drop start bytes)
unfolding number_at
u64_behind start at bytes = ap (λ (b : List ℕ). from_be_bytes w64 (take 8 b)) (sym (drop-drop at start bytes))

-- what each of a range gives is the same, and so is all
pub flat_same : (f g : ℕ → List ℕ) (a n : ℕ) → ((i : ℕ) → i < a + n → f i ≡ g i) → flat_map f (range_with_len a n) ≡ flat_map g (range_with_len a n)
flat_same f g a zero same = refl
flat_same f g a (suc n) same = ap₂ (λ x y. x ++ y) (same a (omega arith)) (flat_same f g (a + 1) n (λ i low. same i (omega (arith, low))))

module _ (h : Holding) (cell : ℕ → Option Cell) (keeps : KeepsTree h cell) where
  abbrev h' : Holding
  h' = with_cells h cell

  pub height_after : height_in h' ≡ height_in h
  height_after = ap (λ (d : Dinode). d.height) keeps.dinode

  pub directory_after : is_directory_in h' ≡ is_directory_in h
  directory_after = ap is_directory keeps.dinode

  pub size_after : (dinode_in h').size ≡ (dinode_in h).size
  size_after = ap (λ (d : Dinode). d.size) keeps.dinode

  pub unit_after : unit h' ≡ unit h
  unit_after = ap (λ b. if b then h.size - header_length else h.size) directory_after

  pub count_after : content_count h' ≡ content_count h
  count_after = ap₂ pieces size_after unit_after

  own_pointer : (k : ℕ) → pointer h' dinode_length h.own k ≡ pointer h dinode_length h.own k
  own_pointer k = u64_behind dinode_length (8 * k) (bytes_at h' h.own) ∙ ap (u64_at (8 * k)) keeps.behind ∙ sym (u64_behind dinode_length (8 * k) (bytes_at h h.own))

  block_pointer : (x b k level first : ℕ) → part_at h x ≡ Some (Pointed b k level first) → (j : ℕ) → pointer h' header_length x j ≡ pointer h header_length x j
  block_pointer x b k level first at j = ap (u64_at (header_length + 8 * j)) (keeps.pointed x b k level first at)

  child_after : (b k level first c : ℕ) → IsChild h b k level first c → IsChild h' b k level first c
  child_after b k level first c child = record { part = keeps.parts c ∙ child.part; within = subst (λ n. first < n) (sym count_after) child.within }

  pointed_after : (x b k level first : ℕ) → IsPointed h x b k level first → IsPointed h' x b k level first
  pointed_after x b k level first (by_dinode at high low to begins) =
      by_dinode at (height_after ∙ high) low (ap (λ z. pointer h' dinode_length z k) at ∙ own_pointer k ∙ ap (λ z. pointer h dinode_length z k) (sym at) ∙ to) begins
  pointed_after x b k level first (by_block above j start part low to begins) =
      by_block above j start (keeps.parts b ∙ part) low (block_pointer b above j (suc level) start part k ∙ to) begins

  pub tree_after : HasTree h → HasTree h'
  tree_after tree = record {
    top = λ level high k low some.
        let to = own_pointer k in
        subst (IsChild h' h.own k level (k * span h.size level)) (sym to) (child_after h.own k level (k * span h.size level) (pointer h dinode_length h.own k) (tree.top level (sym height_after ∙ high) k low (λ e. some (to ∙ e))));
    inner = λ x b k level first at j low some.
        let part = sym (keeps.parts x) ∙ at in
        let to = block_pointer x b k (suc level) first part j in
        subst (IsChild h' x j level (first + j * span h.size level)) (sym to) (child_after x j level (first + j * span h.size level) (pointer h header_length x j) (tree.inner x b k level first part j low (λ e. some (to ∙ e))));
    pointed = λ x b k level first at. pointed_after x b k level first (tree.pointed x b k level first (sym (keeps.parts x) ∙ at));
    below = λ x b k level first at. subst (λ n. level < n) (sym height_after) (tree.below x b k level first (sym (keeps.parts x) ∙ at));
    indirect = λ x b k level first at.
        let part = sym (keeps.parts x) ∙ at in
        subst (HasHeader 5 500) (sym (keeps.pointed x b k (suc level) first part)) (tree.indirect x b k level first part);
    table = λ x b k first directory at.
        let part = sym (keeps.parts x) ∙ at in
        subst (HasHeader 7 700) (sym (keeps.pointed x b k 0 first part)) (tree.table x b k first (sym directory_after ∙ directory) part);
  }

  -- nothing, or a block of the inode that stands so many levels above content
  abbrev IsAbove : ℕ → ℕ → Type 0
  IsAbove level c = (c ≡ 0) ⊎ ((b k first : ℕ) × (part_at h c ≡ Some (Pointed b k level first)))

  -- the block of content below a block is the same, and stands above no other
  abbrev LeadsAlike : ℕ → ℕ → ℕ → Type 0
  LeadsAlike level c i = (descend h' level c i ≡ descend h level c i) × IsAbove 0 (descend h level c i)

  above_by : (level x : ℕ) → (x ≢ 0 → (b k first : ℕ) × (part_at h x ≡ Some (Pointed b k level first))) → IsAbove level x
  above_by level x child = elim (cases_eq x 0) [ inl e ↦ inl e | inr d ↦ inr (child d) ]

  nowhere : (level c i : ℕ) → c ≡ 0 → LeadsAlike (suc level) c i
  nowhere level c i none =
      let here : descend h (suc level) c i ≡ 0 = cond-true (c == 0) 0 _ (eq-eqb c 0 none) in
      let there : descend h' (suc level) c i ≡ 0 = cond-true (c == 0) 0 _ (eq-eqb c 0 none) in
      (there ∙ sym here, inl here)

  descend_after : HasTree h → 512 ≤ h.size → (level c i : ℕ) → i < span h.size level → IsAbove level c → LeadsAlike level c i
  descend_after tree large zero c i low way = (refl, way)
  descend_after tree large (suc level) c i low (inl none) = nowhere level c i none
  descend_after tree large (suc level) c i low (inr at) = elim (cases_eq c 0) [
    | inl none ↦ nowhere level c i none
    | inr some ↦
        let pos : 0 < span h.size level = span_some h.size level large in
        let q : ℕ = i / span h.size level in
        let r : ℕ = i % span h.size level in
        let to : pointer h' header_length c q ≡ pointer h header_length c q = block_pointer c at.0 at.1 (suc level) at.2 at.3 q in
        let child = tree.inner c at.0 at.1 level at.2 at.3 q (div_below i (span h.size level) (fan h.size header_length) pos low) in
        let next = descend_after tree large level (pointer h header_length c q) r (mod-lt i pos)
        (above_by level (pointer h header_length c q) (λ led. (c, q, at.2 + q * span h.size level, (child led).part))) in
        let here : descend h (suc level) c i ≡ descend h level (pointer h header_length c q) r = cond-false (c == 0) 0 _ (ne_eqb c 0 some) in
        let there : descend h' (suc level) c i ≡ descend h' level (pointer h' header_length c q) r = cond-false (c == 0) 0 _ (ne_eqb c 0 some) in
        (there ∙ ap (λ p. descend h' level p r) to ∙ next.0 ∙ sym here, subst (IsAbove 0) (sym here) next.1)
  ]

  content_block_after : HasTree h → 512 ≤ h.size → (level : ℕ) → height_in h ≡ suc level → (i : ℕ) → i < fan h.size dinode_length * span h.size level
      → (content_block h' i ≡ content_block h i) × IsAbove 0 (content_block h i)
  unfolding content_block
  content_block_after tree large level high i low =
      let pos : 0 < span h.size level = span_some h.size level large in
      let q : ℕ = i / span h.size level in
      let r : ℕ = i % span h.size level in
      let less : height_in h - 1 ≡ level = omega (arith, high) in
      let less' : height_in h' - 1 ≡ level = omega (arith, high, height_after) in
      let child = tree.top level high q (div_below i (span h.size level) (fan h.size dinode_length) pos low) in
      let next = descend_after tree large level (pointer h dinode_length h.own q) r (mod-lt i pos)
      (above_by level (pointer h dinode_length h.own q) (λ led. (h.own, q, q * span h.size level, (child led).part))) in
      let here : content_block h i ≡ descend h level (pointer h dinode_length h.own q) r = ap (λ l. descend h l (pointer h dinode_length h.own (i / span h.size l)) (i % span h.size l)) less in
      let there : content_block h' i ≡ descend h' level (pointer h' dinode_length h.own q) r = ap (λ l. descend h' l (pointer h' dinode_length h.own (i / span h.size l)) (i % span h.size l)) less' in
      (there ∙ ap (λ p. descend h' level p r) (own_pointer q) ∙ next.0 ∙ sym here, subst (IsAbove 0) (sym here) next.1)

  carried_after : (b : ℕ) → IsAbove 0 b → carried h' b ≡ carried h b
  carried_after b (inl none) =
      let here : carried h b ≡ replicate (unit h) 0 = cond-true (b == 0) _ _ (eq-eqb b 0 none) in
      let there : carried h' b ≡ replicate (unit h') 0 = cond-true (b == 0) _ _ (eq-eqb b 0 none) in
      there ∙ ap (λ n. replicate n 0) unit_after ∙ sym here
  carried_after b (inr at) = λ t. if b == 0 then replicate (unit_after t) 0 else drop (h.size - unit_after t) (keeps.pointed b at.0 at.1 0 at.2 at.3 t)

  -- what the content is the front of
  abbrev laid : Holding → List ℕ
  laid x = if height_in x == 0 then drop dinode_length (bytes_at x x.own) else flat_map (λ i. carried x (content_block x i)) (range_with_len 0 (content_count x))

  laid_after : HasTree h → Fits h → 512 ≤ h.size → (n : ℕ) → height_in h ≡ n → laid h' ≡ laid h
  laid_after tree fits large zero none =
      let here : laid h ≡ drop dinode_length (bytes_at h h.own) = cond-true (height_in h == 0) _ _ (eq-eqb (height_in h) 0 none) in
      let there : laid h' ≡ drop dinode_length (bytes_at h' h.own) = cond-true (height_in h' == 0) _ _ (eq-eqb (height_in h') 0 (height_after ∙ none)) in
      there ∙ keeps.behind ∙ sym here
  laid_after tree fits large (suc level) high =
      let here : laid h ≡ flat_map (λ i. carried h (content_block h i)) (range_with_len 0 (content_count h)) =
      cond-false (height_in h == 0) _ _ (ne_eqb (height_in h) 0 (λ e. absurd (omega (arith, e, high)))) in
      let there : laid h' ≡ flat_map (λ i. carried h' (content_block h' i)) (range_with_len 0 (content_count h')) =
      cond-false (height_in h' == 0) _ _ (ne_eqb (height_in h') 0 (λ e. absurd (omega (arith, e, high, height_after)))) in
      let each : (i : ℕ) → i < 0 + content_count h → carried h' (content_block h' i) ≡ carried h (content_block h i) = λ i low.
      let block = content_block_after tree large level high i (omega (arith, low, fits.under level high)) in
      ap (carried h') block.0 ∙ carried_after (content_block h i) block.1 in
      there ∙ ap (λ n. flat_map (λ i. carried h' (content_block h' i)) (range_with_len 0 n)) count_after
      ∙ flat_same (λ i. carried h' (content_block h' i)) (λ i. carried h (content_block h i)) 0 (content_count h) each ∙ sym here

  pub content_after : HasTree h → Fits h → 512 ≤ h.size → content_of h' ≡ content_of h
  unfolding content_of
  content_after tree fits large = ap₂ take size_after (laid_after tree fits large (height_in h) refl)
