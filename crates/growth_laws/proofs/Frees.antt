-- A file of which a block is freed.
use Rattle.std.proofs.Common.{◌≡◌, ◌≢◌, ℕ, suc, ◌+◌, ◌-◌, ◌*◌, ◌/◌, ◌%◌, ◌<◌, ◌≤◌, min, inl, inr, true, false, length, take, Option, Some, None, refl, sym, ap, ap₂, subst, ◌∙◌, arith}
use Rattle.std.proofs.lemmas.Bool.{cases_eq}
use Rattle.std.proofs.lemmas.List.{length-take, get_or-take}
use Rattle.std.proofs.lemmas.Nat.{div_below}
use Rattle.std.specs.Prelude.{is_some}
use Rattle.gfs2_layout.specs.Holding.{Part, Itself, Pointed, Cell, Holding, cell_part, part_at}
use Rattle.gfs2_layout.specs.Inode.{dinode_in, height_in, header_length, fan, span, pointer, unit, carried, content_block, pieces, content_count, content_of, IsChild, IsPointed, by_dinode, by_block, block_count}
use Rattle.gfs2_layout.specs.Structures.{dinode_length, is_regular}
use Rattle.gfs2_layout.specs.declared.dinode.Dinode.{Dinode}
use Rattle.growth_laws.specs.Files.{IsFile, with_cells, places_on, IsPlaced}
use Rattle.growth_laws.specs.Steps.{IsFreed}
use Rattle.growth_laws.specs.Laws.{FreesKeepFiles, FreesKeepTheFront, IndirectFreesKeepContent, FreesTakeOne}
use Rattle.growth_laws.proofs.Bytes.{byte, same_bytes}
use Rattle.growth_laws.proofs.Counting.{count_more}
use Rattle.growth_laws.proofs.Contents.{no_directory, whole_unit, same_place, content_place, content_part, content_length, content_byte, carried_hole, carried_block, same_content, size_some}
use Rattle.growth_laws.proofs.Fills.{some_by_part}
use Rattle.growth_laws.proofs.Parts.{same_from, same_pointer, same_level, same_first, not_itself, some_part}
use Rattle.growth_laws.proofs.Places.{content_is_level_zero}

module _ (h : Holding) (cell : ℕ → Option Cell) (from k level first b : ℕ) (file : IsFile h) (f : IsFreed h cell from k level first b) where
  height_same : height_in (with_cells h cell) ≡ height_in h
  height_same = ap (λ (d : Dinode). d.height) f.dinode

  size_same : (dinode_in (with_cells h cell)).size ≡ (dinode_in h).size
  size_same = ap (λ (d : Dinode). d.size) f.dinode

  regular_same : is_regular (dinode_in (with_cells h cell)) ≡ true
  regular_same = ap is_regular f.dinode ∙ file.regular

  units : unit (with_cells h cell) ≡ unit h
  units = whole_unit (with_cells h cell) regular_same ∙ sym (whole_unit h file.regular)

  count_same : content_count (with_cells h cell) ≡ content_count h
  count_same = ap₂ pieces size_same units

  own_other : h.own ≢ b
  own_other e = not_itself _ _ _ _ (sym file.own ∙ ap (part_at h) e ∙ f.part)

  was : (x : ℕ) (p : Part) → part_at (with_cells h cell) x ≡ Some p → (x ≢ b) × (part_at h x ≡ Some p)
  was x p part = (apart, sym (f.stays.parts x apart) ∙ part)
    where
      none : part_at (with_cells h cell) b ≡ None
      none = ap cell_part f.gone

      apart : x ≢ b
      apart e = let both : Some p ≡ None = sym part ∙ ap (part_at (with_cells h cell)) e ∙ none in absurd (cc)

  own_after : part_at (with_cells h cell) h.own ≡ Some Itself
  own_after = f.stays.parts h.own own_other ∙ file.own

  -- ---- children

  child_stays : (x j l s c : ℕ) → (x ≡ from → j ≢ k) → IsChild h x j l s c → IsChild (with_cells h cell) x j l s c
  child_stays x j l s c apart child = record {
    part = f.stays.parts c (λ e. let same = sym child.part ∙ ap (part_at h) e ∙ f.part in apart (same_from same) (same_pointer same)) ∙ child.part;
    within = subst (λ n. s < n) (sym count_same) child.within;
  }

  top : (l : ℕ) → height_in (with_cells h cell) ≡ suc l → (j : ℕ) → j < fan h.size dinode_length → pointer (with_cells h cell) dinode_length h.own j ≢ 0
      → IsChild (with_cells h cell) h.own j l (j * span h.size l) (pointer (with_cells h cell) dinode_length h.own j)
  top l high j low some = elim (cases_eq h.own from) [
    | inl same ↦ elim (cases_eq j k) [ inl is ↦ absurd (some (ap (pointer (with_cells h cell) dinode_length h.own) is ∙ hole same f.hole)) | inr apart ↦ old (λ e. apart) ]
    | inr other ↦ old (λ e. absurd (other e))
  ]
    where
      hole : h.own ≡ from → IsPointed (with_cells h cell) 0 from k level first → pointer (with_cells h cell) dinode_length h.own k ≡ 0
      hole same (by_dinode own high' low' is first_is) = ap (λ x. pointer (with_cells h cell) dinode_length x k) same ∙ is
      hole same (by_block above i start part low' is first_is) = absurd (not_itself _ _ _ _ (sym own_after ∙ ap (part_at (with_cells h cell)) same ∙ part))

      old : (h.own ≡ from → j ≢ k) → IsChild (with_cells h cell) h.own j l (j * span h.size l) (pointer (with_cells h cell) dinode_length h.own j)
      old apart =
          let e = f.pointers.of_dinode j apart in
          subst (IsChild (with_cells h cell) h.own j l (j * span h.size l)) (sym e)
          (child_stays h.own j l (j * span h.size l) _ apart (file.tree.top l (sym height_same ∙ high) j low (λ none. some (e ∙ none))))

  inner : (x a i l s : ℕ) → part_at (with_cells h cell) x ≡ Some (Pointed a i (suc l) s) → (j : ℕ) → j < fan h.size header_length → pointer (with_cells h cell) header_length x j ≢ 0
      → IsChild (with_cells h cell) x j l (s + j * span h.size l) (pointer (with_cells h cell) header_length x j)
  inner x a i l s part j low some = elim (cases_eq x from) [
    | inl same ↦ elim (cases_eq j k) [ inl is ↦ absurd (some (ap (pointer (with_cells h cell) header_length x) is ∙ hole same f.hole)) | inr apart ↦ old (λ e. apart) ]
    | inr other ↦ old (λ e. absurd (other e))
  ]
    where
      not_own : x ≢ h.own
      not_own e = not_itself _ _ _ _ (sym own_after ∙ ap (part_at (with_cells h cell)) (sym e) ∙ part)

      hole : x ≡ from → IsPointed (with_cells h cell) 0 from k level first → pointer (with_cells h cell) header_length x k ≡ 0
      hole same (by_dinode own high' low' is first_is) = absurd (not_own (same ∙ own))
      hole same (by_block above i' start part' low' is first_is) = ap (λ y. pointer (with_cells h cell) header_length y k) same ∙ is

      old : (x ≡ from → j ≢ k) → IsChild (with_cells h cell) x j l (s + j * span h.size l) (pointer (with_cells h cell) header_length x j)
      old apart =
          let e = f.pointers.of_blocks x j not_own (was x _ part).0 apart in
          subst (IsChild (with_cells h cell) x j l (s + j * span h.size l)) (sym e)
          (child_stays x j l (s + j * span h.size l) _ apart (file.tree.inner x a i l s (was x _ part).1 j low (λ none. some (e ∙ none))))

  -- ---- pointers

  -- another block's pointer isn't that of the freed one
  not_that : (x a j l s : ℕ) → x ≢ b → IsPointed h x a j l s → a ≡ from → j ≢ k
  not_that x a j l s other pointed same is = other (by pointed (file.tree.pointed b from k level first f.part))
    where
      by : IsPointed h x a j l s → IsPointed h b from k level first → x ≡ b
      by (by_dinode own high low at first_is) (by_dinode own' high' low' at' first_is') = sym at ∙ ap₂ (pointer h dinode_length) same is ∙ at'
      by (by_block above i start part' low at first_is) (by_block above' i' start' part'' low' at' first_is') = sym at ∙ ap₂ (pointer h header_length) same is ∙ at'
      by (by_dinode own high low at first_is) (by_block above' i' start' part'' low' at' first_is') = absurd (not_itself _ _ _ _ (sym file.own ∙ ap (part_at h) (sym own ∙ same) ∙ part''))
      by (by_block above i start part' low at first_is) (by_dinode own' high' low' at' first_is') = absurd (not_itself _ _ _ _ (sym file.own ∙ ap (part_at h) (sym own' ∙ sym same) ∙ part'))

  pointed : (x a j l s : ℕ) → part_at (with_cells h cell) x ≡ Some (Pointed a j l s) → IsPointed (with_cells h cell) x a j l s
  pointed x a j l s part =
      let before = was x _ part in
      let at = file.tree.pointed x a j l s before.1 in
      stays before.1 at (not_that x a j l s before.0 at)
    where
      stays : part_at h x ≡ Some (Pointed a j l s) → IsPointed h x a j l s → (a ≡ from → j ≢ k) → IsPointed (with_cells h cell) x a j l s
      stays there (by_dinode own high low at first_is) other =
          by_dinode own (height_same ∙ high) low
          (ap (λ y. pointer (with_cells h cell) dinode_length y j) own ∙ f.pointers.of_dinode j (λ e. other (own ∙ e)) ∙ ap (λ y. pointer h dinode_length y j) (sym own) ∙ at) first_is
      stays there (by_block above i start part' low at first_is) other =
          let apart : a ≢ b = λ e. some_part h x _ file.nobody there
          (sym at ∙ ap (λ y. pointer h header_length y j) e ∙ f.led_nowhere l j (sym (same_level (sym part' ∙ ap (part_at h) e ∙ f.part))) low) in
          by_block above i start (f.stays.parts a apart ∙ part') low
          (f.pointers.of_blocks a j (λ e. not_itself _ _ _ _ (sym file.own ∙ ap (part_at h) (sym e) ∙ part')) apart other ∙ at) first_is

  -- ---- the rules

  pub file_after : IsFile (with_cells h cell)
  file_after = record {
    block_size = file.block_size;
    own = own_after;
    only = λ x part. file.only x (was x _ part).1;
    nobody = f.stays.parts 0 (λ e. some_part h b _ file.nobody f.part (sym e)) ∙ file.nobody;
    whole = λ x p part. f.stays.lengths x (was x p part).0 ∙ file.whole x p (was x p part).1;
    header = f.stays.headers h.own 4 400 own_other file.header;
    address = ap (λ (d : Dinode). d.num.address) f.dinode ∙ file.address;
    number = λ e. file.number (ap (λ (d : Dinode). d.num.number) (sym f.dinode) ∙ e);
    regular = regular_same;
    links = ap (λ (d : Dinode). d.nlink) f.dinode ∙ file.links;
    fits = record {
      low = omega (arith, height_same, file.fits.low);
      stuffed = λ e. omega (arith, size_same, file.fits.stuffed (sym height_same ∙ e));
      under = λ l e. subst (λ n. n ≤ fan h.size dinode_length * span h.size l) (sym count_same) (file.fits.under l (sym height_same ∙ e));
    };
    tree = record {
      top = top;
      inner = inner;
      pointed = pointed;
      below = λ x a j l s part. omega (arith, height_same, file.tree.below x a j l s (was x _ part).1);
      indirect = λ x a j l s part. f.stays.headers x 5 500 (was x _ part).0 (file.tree.indirect x a j l s (was x _ part).1);
      table = λ x a j s directory part. let both : true ≡ false = sym directory ∙ no_directory (with_cells h cell) regular_same in absurd (cc);
    };
    leafless = λ x hash place part. file.leafless x hash place (was x _ part).1;
  }

  -- ---- content

  high : height_in h ≢ 0
  high none = omega (arith, none, file.tree.below b from k level first f.part)

  high' : height_in (with_cells h cell) ≢ 0
  high' e = high (sym height_same ∙ e)

  placed_stays : (c l s : ℕ) → (l ≡ level → s ≢ first) → IsPlaced h c l s → IsPlaced (with_cells h cell) c l s
  placed_stays c l s other (a, j, part) =
      (a, j, f.stays.parts c (λ e. let same = sym part ∙ ap (part_at h) e ∙ f.part in other (same_level same) (same_first same)) ∙ part)

  placed_before : (c l s : ℕ) → IsPlaced (with_cells h cell) c l s → IsPlaced h c l s
  placed_before c l s (a, j, part) = (a, j, (was c _ part).1)

  block_same : (i : ℕ) → i < content_count h → (0 ≡ level → i ≢ first) → content_block (with_cells h cell) i ≡ content_block h i
  block_same i low other =
      let at = content_place h i file high low in
      let places : places_on (with_cells h cell) 0 ≡ places_on h 0 = ap (λ n. fan h.size dinode_length * span h.size (n - 1 - 0)) height_same in
      let apart : 0 ≡ level → i * 1 ≢ first = λ e is. other e (omega (arith, is)) in
      content_is_level_zero (with_cells h cell) i
      ∙ same_place h (with_cells h cell) 0 i file file_after at.0 (omega (arith, at.0, height_same)) at.1 (omega (arith, at.1, places))
      (λ c. placed_stays c 0 (i * 1) apart) (λ c. placed_before c 0 (i * 1))
      ∙ sym (content_is_level_zero h i)

  carried_same : (i : ℕ) → i < content_count h → (0 ≡ level → i ≢ first) → carried (with_cells h cell) (content_block (with_cells h cell) i) ≡ carried h (content_block h i)
  carried_same i low other = ap (carried (with_cells h cell)) (block_same i low other) ∙ elim (cases_eq (content_block h i) 0) [
    | inl none ↦ ap (carried (with_cells h cell)) none ∙ carried_hole (with_cells h cell) regular_same ∙ sym (carried_hole h file.regular) ∙ ap (carried h) (sym none)
    | inr some ↦
        let part = content_part h file high i low some in
        carried_block (with_cells h cell) (content_block h i) regular_same some
        ∙ f.stays.contents (content_block h i) part.0 part.1 i (λ e. let same = sym part.2 ∙ ap (part_at h) e ∙ f.part in other (same_level same) (same_first same)) part.2
        ∙ sym (carried_block h (content_block h i) file.regular some)
  ]

  pub front_after : (n : ℕ) → n ≤ first * h.size → take n (content_of (with_cells h cell)) ≡ take n (content_of h)
  front_after n short = same_bytes _ _ long each
    where
      size_after : length (content_of (with_cells h cell)) ≡ length (content_of h)
      size_after = content_length (with_cells h cell) file_after high' ∙ size_same ∙ sym (content_length h file high)

      long : length (take n (content_of (with_cells h cell))) ≡ length (take n (content_of h))
      long = length-take n (content_of (with_cells h cell)) ∙ ap (min n) size_after ∙ sym (length-take n (content_of h))

      each : (m : ℕ) → m < length (take n (content_of (with_cells h cell))) → byte (take n (content_of (with_cells h cell))) m ≡ byte (take n (content_of h)) m
      each m low =
          let less : m < n = omega (arith, low, length-take n (content_of (with_cells h cell))) in
          let inside : m < (dinode_in h).size = omega (arith, low, length-take n (content_of (with_cells h cell)), content_length (with_cells h cell) file_after high', size_same) in
          let now = content_byte (with_cells h cell) file_after high' m (omega (arith, inside, size_same)) in
          let then = content_byte h file high m inside in
          let block : m / h.size < first = div_below m h.size first (size_some h file high) (omega (arith, less, short)) in
          get_or-take n (content_of (with_cells h cell)) m 0 less ∙ now.1
          ∙ ap (λ xs. byte xs (m % h.size)) (carried_same (m / h.size) then.0 (λ e is. omega (arith, is, block)))
          ∙ sym then.1 ∙ sym (get_or-take n (content_of h) m 0 less)

  pub content_after : level ≢ 0 → content_of (with_cells h cell) ≡ content_of h
  content_after above = same_content h (with_cells h cell) high high' size_same count_same (λ i low. carried_same i low (λ e. absurd (above (sym e))))

pub frees_keep_files : FreesKeepFiles
frees_keep_files h cell from k level first b file f = file_after h cell from k level first b file f

pub frees_keep_the_front : FreesKeepTheFront
frees_keep_the_front h cell from k level first b n file f short = front_after h cell from k level first b file f n short

pub indirect_frees_keep_content : IndirectFreesKeepContent
indirect_frees_keep_content h cell from k level first b file f above = content_after h cell from k level first b file f above

pub frees_take_one : FreesTakeOne
unfolding block_count
frees_take_one h cell from k level first b f =
    count_more (λ x. is_some (cell x)) (λ x. is_some (h.cell x)) b 0 h.count (omega arith) (omega (arith, f.inside)) (ap is_some f.gone) (there (h.cell b) f.part)
    (λ x other. sym (some_by_part (h.cell x) (cell x) (f.stays.parts x other)))
  where
    there : (o : Option Cell) → cell_part o ≡ Some (Pointed from k level first) → is_some o ≡ true
    there None e = cc
    there (Some c) e = refl
