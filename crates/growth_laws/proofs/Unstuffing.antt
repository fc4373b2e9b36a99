-- Stuffed content that moves to a block of its own.
use Rattle.std.proofs.Common.{◌≡◌, ◌≢◌, ℕ, suc, ◌+◌, ◌-◌, ◌*◌, ◌/◌, ◌<◌, ◌≤◌, inl, inr, true, false, length, drop, Option, Some, None, refl, sym, ap, ap₂, subst, ◌∙◌, arith}
use Rattle.std.proofs.lemmas.Bool.{cases_eq}
use Rattle.std.proofs.lemmas.List.{length-take, length-drop, length-append, length-replicate}
use Rattle.std.proofs.Math.Nat.{div-lt_iff_lt-mul}
use Rattle.std.specs.Prelude.{is_some, replicate}
use Rattle.gfs2_layout.specs.Holding.{Itself, Pointed, InChain, Cell, Holding, cell_part, part_at, bytes_at}
use Rattle.gfs2_layout.specs.Inode.{dinode_in, height_in, fan, span, pointer, unit, carried, content_block, pieces, content_count, content_of, IsChild, by_dinode, block_count}
use Rattle.gfs2_layout.specs.Structures.{dinode_length, is_regular}
use Rattle.gfs2_layout.specs.declared.dinode.Dinode.{Dinode}
use Rattle.dinode_tree.proofs.Spans.{below_quotient, below_rest}
use Rattle.dinode_tree.proofs.Ranges.{piece_within}
use Rattle.growth_laws.specs.Files.{IsFile, with_cells}
use Rattle.growth_laws.specs.Steps.{IsUnstuffed}
use Rattle.growth_laws.specs.Laws.{UnstuffingKeepsFiles}
use Rattle.growth_laws.proofs.Bare.{content_stuffed}
use Rattle.growth_laws.proofs.Bytes.{byte, same_bytes, left_byte}
use Rattle.growth_laws.proofs.Counting.{count_more}
use Rattle.growth_laws.proofs.Contents.{no_directory, whole_unit, content_place, content_length, content_byte, carried_block}
use Rattle.growth_laws.proofs.Fills.{some_by_part}
use Rattle.growth_laws.proofs.Parts.{same_from, same_pointer, same_level, same_first, not_itself, pointed_at}
use Rattle.growth_laws.proofs.Places.{size_large, part_there, content_is_level_zero}

module _ (h : Holding) (cell : ℕ → Option Cell) (b : ℕ) (file : IsFile h) (f : IsUnstuffed h cell b) where
  large : 512 ≤ h.size
  large = size_large h.size file.block_size

  pub height_is : height_in (with_cells h cell) ≡ 1
  height_is = ap (λ (d : Dinode). d.height) f.dinode

  size_same : (dinode_in (with_cells h cell)).size ≡ (dinode_in h).size
  size_same = ap (λ (d : Dinode). d.size) f.dinode

  small : dinode_length + (dinode_in h).size ≤ h.size
  small = file.fits.stuffed f.stuffed

  regular_same : is_regular (dinode_in (with_cells h cell)) ≡ true
  regular_same = ap is_regular f.dinode ∙ file.regular

  unit_is : unit (with_cells h cell) ≡ h.size
  unit_is = whole_unit (with_cells h cell) regular_same

  count_is : content_count (with_cells h cell) ≡ pieces (dinode_in h).size h.size
  count_is = ap₂ pieces size_same unit_is

  some_content : 0 < content_count (with_cells h cell)
  some_content =
      let first : 0 / h.size < pieces (dinode_in h).size h.size = piece_within 0 (dinode_in h).size h.size (omega (arith, large)) (omega (arith, f.content)) in
      omega (arith, first, count_is)

  one_block : content_count (with_cells h cell) ≤ 1
  one_block =
      let some : 0 < h.size = omega (arith, large) in
      let less : pieces (dinode_in h).size h.size < 2 = (div-lt_iff_lt-mul some).1 (let low : (dinode_in h).size + h.size - 1 < 2 * h.size = omega (arith, small, large) in low) in
      omega (arith, less, count_is)

  none_before : (x a j l s : ℕ) → part_at h x ≢ Some (Pointed a j l s)
  none_before x a j l s part = omega (arith, f.stuffed, file.tree.below x a j l s part)

  own_old : h.own ≢ b
  own_old same = let both : Some Itself ≡ None = sym file.own ∙ ap (part_at h) same ∙ ap cell_part f.new in absurd (cc)

  pub only_new : (x a j l s : ℕ) → part_at (with_cells h cell) x ≡ Some (Pointed a j l s) → (x ≡ b) × (Some (Pointed a j l s) ≡ Some (Pointed h.own 0 0 0))
  only_new x a j l s part = elim (cases_eq x b) [
    | inl is ↦ (is, sym part ∙ ap (part_at (with_cells h cell)) is ∙ f.part)
    | inr apart ↦ absurd (none_before x a j l s (sym (f.parts x apart) ∙ part))
  ]

  top : (l : ℕ) → height_in (with_cells h cell) ≡ suc l → (j : ℕ) → j < fan h.size dinode_length → pointer (with_cells h cell) dinode_length h.own j ≢ 0
      → IsChild (with_cells h cell) h.own j l (j * span h.size l) (pointer (with_cells h cell) dinode_length h.own j)
  top l high j low some = elim (cases_eq j 0) [
    | inl none ↦
        let up : l ≡ 0 = omega (arith, height_is, high) in
        let begin : j * span h.size l ≡ 0 = ap (λ n. n * span h.size l) none ∙ nothing (span h.size l) in
        let led : pointer (with_cells h cell) dinode_length h.own j ≡ b = ap (pointer (with_cells h cell) dinode_length h.own) none ∙ f.first in
        record {
          part = ap (part_at (with_cells h cell)) led ∙ f.part ∙ sym (λ i. Some (Pointed h.own (none i) (up i) (begin i)));
          within = omega (arith, begin, some_content);
        }
    | inr later ↦ absurd (some (f.rest j later low))
  ]
    where
      nothing : (n : ℕ) → 0 * n ≡ 0
      nothing n = omega arith

  pub content_size : length (content_of h) ≡ (dinode_in h).size
  content_size =
      let whole : length (bytes_at h h.own) ≡ h.size = file.whole h.own Itself file.own in
      ap length (content_stuffed h f.stuffed)
      ∙ omega (arith, length-take (dinode_in h).size (drop dinode_length (bytes_at h h.own)), length-drop dinode_length (bytes_at h h.own), whole, small)

  bytes_whole : length (bytes_at (with_cells h cell) b) ≡ h.size
  bytes_whole =
      ap length f.bytes
      ∙ omega (arith, length-append (content_of h) (replicate (h.size - (dinode_in h).size) 0), content_size, length-replicate {A = ℕ} (h.size - (dinode_in h).size) 0, small)

  pub file_after : IsFile (with_cells h cell)
  file_after = record {
    block_size = file.block_size;
    own = f.parts h.own own_old ∙ file.own;
    only = λ x part. elim (cases_eq x b) [
      | inl is ↦ absurd (not_itself _ _ _ _ (sym part ∙ ap (part_at (with_cells h cell)) is ∙ f.part))
      | inr apart ↦ file.only x (sym (f.parts x apart) ∙ part)
    ];
    nobody = f.parts 0 (λ e. f.some (sym e)) ∙ file.nobody;
    whole = λ x p part. elim (cases_eq x b) [
      | inl is ↦ ap (λ y. length (bytes_at (with_cells h cell) y)) is ∙ bytes_whole
      | inr apart ↦ elim (cases_eq x h.own) [
        | inl is ↦ ap (λ y. length (bytes_at (with_cells h cell) y)) is ∙ f.own_whole
        | inr other ↦ ap length (f.others x apart other) ∙ file.whole x p (sym (f.parts x apart) ∙ part)
      ]
    ];
    header = f.own_header;
    address = ap (λ (d : Dinode). d.num.address) f.dinode ∙ file.address;
    number = λ e. file.number (ap (λ (d : Dinode). d.num.number) (sym f.dinode) ∙ e);
    regular = regular_same;
    links = ap (λ (d : Dinode). d.nlink) f.dinode ∙ file.links;
    fits = record {
      low = omega (arith, height_is);
      stuffed = λ e. absurd (omega (arith, height_is, e));
      under = λ l e.
          let up : l ≡ 0 = omega (arith, height_is, e) in
          subst (λ n. content_count (with_cells h cell) ≤ fan h.size dinode_length * span h.size n) (sym up) (omega (arith, one_block, large));
    };
    tree = record {
      top = top;
      inner = λ x a i l s part j low some. absurd (omega (arith, same_level (only_new x a i (suc l) s part).1));
      pointed = λ x a j l s part. let new = only_new x a j l s part in
          pointed_at (with_cells h cell) new.0 (same_from new.1) (same_pointer new.1) (same_level new.1) (same_first new.1) (by_dinode refl height_is (omega (arith, large)) f.first refl);
      below = λ x a j l s part. omega (arith, height_is, same_level (only_new x a j l s part).1);
      indirect = λ x a j l s part. absurd (omega (arith, same_level (only_new x a j (suc l) s part).1));
      table = λ x a j s directory part. let both : true ≡ false = sym directory ∙ no_directory (with_cells h cell) regular_same in absurd (cc);
    };
    leafless = λ x hash place part. elim (cases_eq x b) [
      | inl is ↦ chained (sym part ∙ ap (part_at (with_cells h cell)) is ∙ f.part)
      | inr apart ↦ file.leafless x hash place (sym (f.parts x apart) ∙ part)
    ];
  }
    where
      chained : {hash place : ℕ} → Some (InChain hash place) ≡ Some (Pointed h.own 0 0 0) → ⊥
      chained e = cc

  high' : height_in (with_cells h cell) ≢ 0
  high' e = omega (arith, e, height_is)

  first_block : content_block (with_cells h cell) 0 ≡ b
  first_block =
      let at = content_place (with_cells h cell) 0 file_after high' some_content in
      content_is_level_zero (with_cells h cell) 0 ∙ (part_there (with_cells h cell) file_after 0 0 b at.0 at.1 f.some).1 (h.own, 0, f.part)

  content_after : content_of (with_cells h cell) ≡ content_of h
  content_after = same_bytes _ _ (content_length (with_cells h cell) file_after high' ∙ size_same ∙ sym content_size) each
    where
      each : (n : ℕ) → n < length (content_of (with_cells h cell)) → byte (content_of (with_cells h cell)) n ≡ byte (content_of h) n
      each n low =
          let less : n < (dinode_in h).size = omega (arith, low, content_length (with_cells h cell) file_after high', size_same) in
          let inside : n < h.size = omega (arith, less, small) in
          (content_byte (with_cells h cell) file_after high' n (omega (arith, less, size_same))).1
          ∙ ap₂ (λ q r. byte (carried (with_cells h cell) (content_block (with_cells h cell) q)) r) (sym (below_quotient n h.size inside)) (sym (below_rest n h.size inside))
          ∙ ap (λ c. byte (carried (with_cells h cell) c) n) first_block ∙ ap (λ xs. byte xs n) (carried_block (with_cells h cell) b regular_same f.some ∙ f.bytes)
          ∙ left_byte (content_of h) (replicate (h.size - (dinode_in h).size) 0) n (omega (arith, less, content_size))

  count_after : block_count (with_cells h cell) ≡ block_count h + 1
  unfolding block_count
  count_after =
      count_more (λ x. is_some (h.cell x)) (λ x. is_some (cell x)) b 0 h.count (omega arith) (omega (arith, f.inside)) (ap is_some f.new) (there (cell b) f.part)
      (λ x other. some_by_part (h.cell x) (cell x) (f.parts x other))
    where
      there : (o : Option Cell) → cell_part o ≡ Some (Pointed h.own 0 0 0) → is_some o ≡ true
      there None e = cc
      there (Some c) e = refl

pub unstuffing_keeps_files : UnstuffingKeepsFiles
unstuffing_keeps_files h cell b file f = (file_after h cell b file f, content_after h cell b file f, count_after h cell b file f)
