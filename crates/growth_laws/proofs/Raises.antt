-- A file whose height rises by one.
use Rattle.std.proofs.Common.{◌≡◌, ◌≢◌, ◌⊎◌, ℕ, suc, ◌+◌, ◌*◌, ◌<◌, ◌≤◌, inl, inr, true, false, length, Option, Some, None, refl, sym, ap, ap₂, subst, ◌∙◌, arith}
use Rattle.std.proofs.lemmas.Bool.{cases_eq, cases_lt, cond-true, cond-false, eq-eqb, ne_eqb}
use Rattle.std.proofs.Math.Nat.{mul-le-mul_left}
use Rattle.std.specs.Prelude.{is_some}
use Rattle.gfs2_layout.specs.Bytes.{u64_at}
use Rattle.gfs2_layout.specs.Headers.{HasHeader}
use Rattle.gfs2_layout.specs.Holding.{Part, Itself, Pointed, InChain, Cell, Holding, cell_part, part_at, bytes_at}
use Rattle.gfs2_layout.specs.Inode.{dinode_in, height_in, header_length, fan, span, pointer, carried, content_block, pieces, content_count, content_of, IsChild, IsPointed, by_dinode, by_block, block_count}
use Rattle.gfs2_layout.specs.Structures.{dinode_length, is_regular}
use Rattle.gfs2_layout.specs.declared.dinode.Dinode.{Dinode}
use Rattle.dinode_tree.proofs.Spans.{span_rises}
use Rattle.growth_laws.specs.Files.{IsFile, with_cells, IsPlaced}
use Rattle.growth_laws.specs.Steps.{IsRaised, moved_from, moved}
use Rattle.growth_laws.specs.Laws.{RaisesKeepFiles}
use Rattle.growth_laws.proofs.Counting.{count_more}
use Rattle.growth_laws.proofs.Contents.{no_directory, whole_unit, same_place, content_place, content_part, carried_hole, carried_block, same_content}
use Rattle.growth_laws.proofs.Parts.{same_from, same_pointer, same_level, same_first, not_itself, pointed_at}
use Rattle.growth_laws.proofs.Places.{size_large, content_is_level_zero}

-- what a moved part was
pub unmoved : (own b : ℕ) (o : Option Part) (a j l s : ℕ) → moved own b o ≡ Some (Pointed a j l s) → (a0 : ℕ) × (o ≡ Some (Pointed a0 j l s)) × (a ≡ moved_from own b a0)
unmoved own b None a j l s e = absurd (cc)
unmoved own b (Some Itself) a j l s e = absurd (not_itself _ _ _ _ e)
unmoved own b (Some (Pointed a0 j0 l0 s0)) a j l s e = (a0, (λ i. Some (Pointed a0 (same_pointer e i) (same_level e i) (same_first e i))), sym (same_from e))
unmoved own b (Some (InChain hash place)) a j l s e = absurd (cc)

unmoved_chain : (own b : ℕ) (o : Option Part) (hash place : ℕ) → moved own b o ≡ Some (InChain hash place) → o ≡ Some (InChain hash place)
unmoved_chain own b None hash place e = cc
unmoved_chain own b (Some Itself) hash place e = e
unmoved_chain own b (Some (Pointed a0 j0 l0 s0)) hash place e = cc
unmoved_chain own b (Some (InChain hash' place')) hash place e = e

unmoved_itself : (own b : ℕ) (o : Option Part) → moved own b o ≡ Some Itself → o ≡ Some Itself
unmoved_itself own b None e = cc
unmoved_itself own b (Some Itself) e = e
unmoved_itself own b (Some (Pointed a0 j0 l0 s0)) e = cc
unmoved_itself own b (Some (InChain hash place)) e = cc

-- a part is moved, whatever it is
some_moved : (own b : ℕ) (o : Option Part) (p : Part) → moved own b o ≡ Some p → (q : Part) × (o ≡ Some q)
some_moved own b None p e = absurd (cc)
some_moved own b (Some q) p e = (q, refl)

pub some_same : (own b : ℕ) (o o' : Option Cell) → cell_part o' ≡ moved own b (cell_part o) → is_some o' ≡ is_some o
some_same own b None None e = refl
some_same own b None (Some d) e = absurd (cc)
some_same own b (Some c) (Some d) e = refl
some_same own b (Some c) None e = absurd (none_moved own b c.part e)
  where
    none_moved : (own b : ℕ) (p : Part) → ◌≡◌ {A = Option Part} None (moved own b (Some p)) → ⊥
    none_moved own b Itself e = cc
    none_moved own b (Pointed a j l s) e = cc
    none_moved own b (InChain hash place) e = cc

module _ (h : Holding) (cell : ℕ → Option Cell) (level b : ℕ) (file : IsFile h) (f : IsRaised h cell level b) where
  large : 512 ≤ h.size
  large = size_large h.size file.block_size

  pub height_is : height_in (with_cells h cell) ≡ suc (suc level)
  height_is = ap (λ (d : Dinode). d.height) f.dinode

  size_same : (dinode_in (with_cells h cell)).size ≡ (dinode_in h).size
  size_same = ap (λ (d : Dinode). d.size) f.dinode

  regular_same : is_regular (dinode_in (with_cells h cell)) ≡ true
  regular_same = ap is_regular f.dinode ∙ file.regular

  pub count_same : content_count (with_cells h cell) ≡ content_count h
  count_same = ap₂ pieces size_same (whole_unit (with_cells h cell) regular_same ∙ sym (whole_unit h file.regular))

  is_old : (x : ℕ) (p : Part) → part_at h x ≡ Some p → x ≢ b
  is_old x p part same = let both : Some p ≡ None = sym part ∙ ap (part_at h) same ∙ ap cell_part f.new in absurd (cc)

  own_old : h.own ≢ b
  own_old = is_old h.own Itself file.own

  some_content : 0 < content_count h
  some_content =
      let child = file.tree.top level f.high f.leads.0 f.leads.1 f.leads.2 in
      omega (arith, child.within)

  -- ---- parts

  moves : (x a j l s : ℕ) → part_at h x ≡ Some (Pointed a j l s) → part_at (with_cells h cell) x ≡ Some (Pointed (moved_from h.own b a) j l s)
  moves x a j l s part = f.parts x (is_old x _ part) ∙ ap (moved h.own b) part

  own_after : part_at (with_cells h cell) h.own ≡ Some Itself
  own_after = f.parts h.own own_old ∙ ap (moved h.own b) file.own

  own_moves : moved_from h.own b h.own ≡ b
  own_moves = cond-true _ _ _ (eq-eqb h.own h.own refl)

  other_stays : (a : ℕ) → a ≢ h.own → moved_from h.own b a ≡ a
  other_stays a other = cond-false _ _ _ (ne_eqb a h.own other)

  not_own : (x a j l s : ℕ) → part_at h x ≡ Some (Pointed a j l s) → x ≢ h.own
  not_own x a j l s part e = not_itself _ _ _ _ (sym file.own ∙ ap (part_at h) (sym e) ∙ part)

  pub bytes_stay : (x a j l s : ℕ) → part_at h x ≡ Some (Pointed a j l s) → bytes_at (with_cells h cell) x ≡ bytes_at h x
  bytes_stay x a j l s part = f.others x (is_old x _ part) (not_own x a j l s part)

  -- a part afterwards is the new block's, or one that was moved
  new_or_old : (x a j l s : ℕ) → part_at (with_cells h cell) x ≡ Some (Pointed a j l s)
      → ((x ≡ b) × (Some (Pointed a j l s) ≡ Some (Pointed h.own 0 (suc level) 0))) ⊎ ((a0 : ℕ) × (x ≢ b) × (part_at h x ≡ Some (Pointed a0 j l s)) × (a ≡ moved_from h.own b a0))
  new_or_old x a j l s part = elim (cases_eq x b) [
    | inl is ↦ inl (is, sym part ∙ ap (part_at (with_cells h cell)) is ∙ f.part)
    | inr apart ↦ let was = unmoved h.own b (part_at h x) a j l s (sym (f.parts x apart) ∙ part) in inr (was.0, apart, was.1, was.2)
  ]

  -- ---- the tree

  child_of_own : (j l s c : ℕ) → IsChild h h.own j l s c → IsChild (with_cells h cell) b j l s c
  child_of_own j l s c child = record {
    part = moves c h.own j l s child.part ∙ ap (λ n. Some (Pointed n j l s)) own_moves;
    within = subst (λ n. s < n) (sym count_same) child.within;
  }

  child_of_other : (x j l s c : ℕ) → x ≢ h.own → IsChild h x j l s c → IsChild (with_cells h cell) x j l s c
  child_of_other x j l s c other child = record {
    part = moves c x j l s child.part ∙ ap (λ n. Some (Pointed n j l s)) (other_stays x other);
    within = subst (λ n. s < n) (sym count_same) child.within;
  }

  top : (l : ℕ) → height_in (with_cells h cell) ≡ suc l → (j : ℕ) → j < fan h.size dinode_length → pointer (with_cells h cell) dinode_length h.own j ≢ 0
      → IsChild (with_cells h cell) h.own j l (j * span h.size l) (pointer (with_cells h cell) dinode_length h.own j)
  top l high j low some = elim (cases_eq j 0) [
    | inl none ↦
        let up : l ≡ suc level = omega (arith, height_is, high) in
        let begin : j * span h.size l ≡ 0 = ap (λ n. n * span h.size l) none ∙ nothing (span h.size l) in
        let led : pointer (with_cells h cell) dinode_length h.own j ≡ b = ap (pointer (with_cells h cell) dinode_length h.own) none ∙ f.first in
        record {
          part = ap (part_at (with_cells h cell)) led ∙ f.part ∙ sym (λ i. Some (Pointed h.own (none i) (up i) (begin i)));
          within = omega (arith, begin, some_content, count_same);
        }
    | inr later ↦ absurd (some (f.rest j later low))
  ]
    where
      nothing : (n : ℕ) → 0 * n ≡ 0
      nothing n = omega arith

  inner : (x a i l s : ℕ) → part_at (with_cells h cell) x ≡ Some (Pointed a i (suc l) s) → (j : ℕ) → j < fan h.size header_length → pointer (with_cells h cell) header_length x j ≢ 0
      → IsChild (with_cells h cell) x j l (s + j * span h.size l) (pointer (with_cells h cell) header_length x j)
  inner x a i l s part j low some = elim (new_or_old x a i (suc l) s part) [
    | inl new ↦ elim (cases_lt j (fan h.size dinode_length)) [
      | inl near ↦
          let led : pointer (with_cells h cell) header_length x j ≡ pointer h dinode_length h.own j = ap (λ y. pointer (with_cells h cell) header_length y j) new.0 ∙ f.moved_here j near in
          let same_l : level ≡ l = omega (arith, same_level new.1) in
          let begin : j * span h.size level ≡ s + j * span h.size l = ap (λ n. j * span h.size n) same_l ∙ omega (arith, same_first new.1) in
          let child = child_of_own j level (j * span h.size level) _ (file.tree.top level f.high j near (λ none. some (led ∙ none))) in
          subst (λ c. IsChild (with_cells h cell) x j l (s + j * span h.size l) c) (sym led)
          (subst (λ y. IsChild (with_cells h cell) y j l (s + j * span h.size l) (pointer h dinode_length h.own j)) (sym new.0)
          (subst (λ n. IsChild (with_cells h cell) b j n (s + j * span h.size l) (pointer h dinode_length h.own j)) same_l
          (subst (λ n. IsChild (with_cells h cell) b j level n (pointer h dinode_length h.own j)) begin child)))
      | inr far ↦ absurd (some (ap (λ y. pointer (with_cells h cell) header_length y j) new.0 ∙ f.none_behind j far low))
    ]
    | inr old ↦
        let same : pointer (with_cells h cell) header_length x j ≡ pointer h header_length x j = ap (u64_at (header_length + 8 * j)) (bytes_stay x old.0 i (suc l) s old.2) in
        subst (IsChild (with_cells h cell) x j l (s + j * span h.size l)) (sym same)
        (child_of_other x j l (s + j * span h.size l) _ (not_own x old.0 i (suc l) s old.2) (file.tree.inner x old.0 i l s old.2 j low (λ none. some (same ∙ none))))
  ]

  pointed : (x a j l s : ℕ) → part_at (with_cells h cell) x ≡ Some (Pointed a j l s) → IsPointed (with_cells h cell) x a j l s
  pointed x a j l s part = elim (new_or_old x a j l s part) [
    | inl new ↦
        pointed_at (with_cells h cell) new.0 (same_from new.1) (same_pointer new.1) (same_level new.1) (same_first new.1)
        (by_dinode refl height_is (omega (arith, f.leads.1)) f.first (nothing (span h.size (suc level))))
    | inr old ↦
        pointed_at (with_cells h cell) refl old.3 refl refl refl (stays old.0 (file.tree.pointed x old.0 j l s old.2))
  ]
    where
      nothing : (n : ℕ) → 0 ≡ 0 * n
      nothing n = omega arith

      stays : (a0 : ℕ) → IsPointed h x a0 j l s → IsPointed (with_cells h cell) x (moved_from h.own b a0) j l s
      stays a0 (by_dinode own high low at first_is) =
          let here : moved_from h.own b a0 ≡ b = ap (moved_from h.own b) own ∙ own_moves in
          let same : suc l ≡ suc level = omega (arith, high, f.high) in
          pointed_at (with_cells h cell) refl here refl refl refl
          (by_block h.own 0 0 (f.part ∙ ap (λ n. Some (Pointed h.own 0 n 0)) (sym same)) (omega (arith, low))
          (f.moved_here j low ∙ ap (λ y. pointer h dinode_length y j) (sym own) ∙ at) (omega (arith, first_is)))
      stays a0 (by_block above i start over low at first_is) =
          let other : a0 ≢ h.own = not_own a0 above i (suc l) start over in
          pointed_at (with_cells h cell) refl (other_stays a0 other) refl refl refl
          (by_block (moved_from h.own b above) i start (moves a0 above i (suc l) start over) low
          (ap (u64_at (header_length + 8 * j)) (bytes_stay a0 above i (suc l) start over) ∙ at) first_is)

  pub file_after : IsFile (with_cells h cell)
  file_after = record {
    block_size = file.block_size;
    own = own_after;
    only = λ x part. elim (cases_eq x b) [
      | inl is ↦ absurd (not_itself _ _ _ _ (sym part ∙ ap (part_at (with_cells h cell)) is ∙ f.part))
      | inr apart ↦ file.only x (unmoved_itself h.own b (part_at h x) (sym (f.parts x apart) ∙ part))
    ];
    nobody = f.parts 0 (λ e. f.some (sym e)) ∙ ap (moved h.own b) file.nobody;
    whole = λ x p part. elim (cases_eq x b) [
      | inl is ↦ ap (λ y. length (bytes_at (with_cells h cell) y)) is ∙ f.whole
      | inr apart ↦ elim (cases_eq x h.own) [
        | inl is ↦ ap (λ y. length (bytes_at (with_cells h cell) y)) is ∙ f.own_whole
        | inr other ↦ let was = some_moved h.own b (part_at h x) p (sym (f.parts x apart) ∙ part) in ap length (f.others x apart other) ∙ file.whole x was.0 was.1
      ]
    ];
    header = f.own_header;
    address = ap (λ (d : Dinode). d.num.address) f.dinode ∙ file.address;
    number = λ e. file.number (ap (λ (d : Dinode). d.num.number) (sym f.dinode) ∙ e);
    regular = regular_same;
    links = ap (λ (d : Dinode). d.nlink) f.dinode ∙ file.links;
    fits = record {
      low = omega (arith, height_is, f.low);
      stuffed = λ e. absurd (omega (arith, height_is, e));
      under = λ l e.
          let up : l ≡ suc level = omega (arith, height_is, e) in
          let more : fan h.size dinode_length * span h.size level ≤ fan h.size dinode_length * span h.size (suc level)
          = mul-le-mul_left (fan h.size dinode_length) (span_rises h.size level (suc level) large (omega arith)) in
          subst (λ n. content_count (with_cells h cell) ≤ fan h.size dinode_length * span h.size n) (sym up) (omega (arith, count_same, file.fits.under level f.high, more));
    };
    tree = record {
      top = top;
      inner = inner;
      pointed = pointed;
      below = λ x a j l s part. elim (new_or_old x a j l s part) [
        | inl new ↦ omega (arith, same_level new.1, height_is)
        | inr old ↦ omega (arith, height_is, f.high, file.tree.below x old.0 j l s old.2)
      ];
      indirect = λ x a j l s part. elim (new_or_old x a j (suc l) s part) [
        | inl new ↦ subst (λ y. HasHeader 5 500 (bytes_at (with_cells h cell) y)) (sym new.0) f.header
        | inr old ↦ subst (HasHeader 5 500) (sym (bytes_stay x old.0 j (suc l) s old.2)) (file.tree.indirect x old.0 j l s old.2)
      ];
      table = λ x a j s directory part. let both : true ≡ false = sym directory ∙ no_directory (with_cells h cell) regular_same in absurd (cc);
    };
    leafless = λ x hash place part. elim (cases_eq x b) [
      | inl is ↦ chained (sym part ∙ ap (part_at (with_cells h cell)) is ∙ f.part)
      | inr apart ↦ file.leafless x hash place (unmoved_chain h.own b (part_at h x) hash place (sym (f.parts x apart) ∙ part))
    ];
  }
    where
      chained : {hash place : ℕ} → Some (InChain hash place) ≡ Some (Pointed h.own 0 (suc level) 0) → ⊥
      chained e = cc

  pub placed_back : (c l s : ℕ) → l < suc level → IsPlaced (with_cells h cell) c l s → IsPlaced h c l s
  placed_back c l s low placed = elim (new_or_old c placed.0 placed.1 l s placed.2) [
    | inl new ↦ absurd (omega (arith, low, same_level new.1))
    | inr old ↦ (old.0, placed.1, old.2)
  ]

  pub placed_on : (c l s : ℕ) → IsPlaced h c l s → IsPlaced (with_cells h cell) c l s
  placed_on c l s placed = (moved_from h.own b placed.0, placed.1, moves c placed.0 placed.1 l s placed.2)

  -- what stands on the new level is the new block
  pub only_first : (c s : ℕ) → IsPlaced (with_cells h cell) c (suc level) s → s ≡ 0
  only_first c s placed = elim (new_or_old c placed.0 placed.1 (suc level) s placed.2) [
    | inl new ↦ same_first new.1
    | inr old ↦ absurd (omega (arith, f.high, file.tree.below c old.0 placed.1 (suc level) s old.2))
  ]

  -- ---- content

  high : height_in h ≢ 0
  high e = omega (arith, e, f.high)

  high' : height_in (with_cells h cell) ≢ 0
  high' e = omega (arith, e, height_is)

  carried_same : (i : ℕ) → i < content_count h → carried (with_cells h cell) (content_block (with_cells h cell) i) ≡ carried h (content_block h i)
  carried_same i low = ap (carried (with_cells h cell)) block_same ∙ elim (cases_eq (content_block h i) 0) [
    | inl none ↦ ap (carried (with_cells h cell)) none ∙ carried_hole (with_cells h cell) regular_same ∙ sym (carried_hole h file.regular) ∙ ap (carried h) (sym none)
    | inr some ↦
        let part = content_part h file high i low some in
        carried_block (with_cells h cell) (content_block h i) regular_same some ∙ bytes_stay (content_block h i) part.0 part.1 0 i part.2 ∙ sym (carried_block h (content_block h i) file.regular some)
  ]
    where
      back : (c s : ℕ) → IsPlaced (with_cells h cell) c 0 s → IsPlaced h c 0 s
      back c s placed = elim (new_or_old c placed.0 placed.1 0 s placed.2) [
        | inl new ↦ absurd (omega (arith, same_level new.1))
        | inr old ↦ (old.0, placed.1, old.2)
      ]

      block_same : content_block (with_cells h cell) i ≡ content_block h i
      block_same =
          let at = content_place h i file high low in
          let at' = content_place (with_cells h cell) i file_after high' (omega (arith, low, count_same)) in
          content_is_level_zero (with_cells h cell) i
          ∙ same_place h (with_cells h cell) 0 i file file_after at.0 at'.0 at.1 at'.1
          (λ c placed. (moved_from h.own b placed.0, placed.1, moves c placed.0 placed.1 0 (i * 1) placed.2)) (λ c. back c (i * 1))
          ∙ sym (content_is_level_zero h i)

  pub content_after : content_of (with_cells h cell) ≡ content_of h
  content_after = same_content h (with_cells h cell) high high' size_same count_same carried_same

  pub count_after : block_count (with_cells h cell) ≡ block_count h + 1
  unfolding block_count
  count_after =
      count_more (λ x. is_some (h.cell x)) (λ x. is_some (cell x)) b 0 h.count (omega arith) (omega (arith, f.inside)) (ap is_some f.new) (there (cell b) f.part)
      (λ x other. some_same h.own b (h.cell x) (cell x) (f.parts x other))
    where
      there : (o : Option Cell) → cell_part o ≡ Some (Pointed h.own 0 (suc level) 0) → is_some o ≡ true
      there None e = cc
      there (Some c) e = refl

pub raises_keep_files : RaisesKeepFiles
raises_keep_files h cell level b file f = (file_after h cell level b file f, content_after h cell level b file f, count_after h cell level b file f)
