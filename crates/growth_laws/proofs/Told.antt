-- A file whose dinode says another count of blocks.
use Rattle.std.proofs.Common.{◌≡◌, ◌≢◌, ℕ, suc, ◌*◌, ◌<◌, ◌≤◌, inl, inr, true, length, take, Option, Some, sym, ap, ap₂, subst, ◌∙◌, arith}
use Rattle.std.proofs.lemmas.Bool.{cases_eq}
use Rattle.std.specs.Prelude.{is_some}
use Rattle.gfs2_layout.specs.Holding.{Pointed, Cell, Holding, part_at, bytes_at}
use Rattle.gfs2_layout.specs.Inode.{dinode_in, height_in, fan, span, pointer, carried, content_block, pieces, content_count, content_of, block_count}
use Rattle.gfs2_layout.specs.Structures.{dinode_length, is_regular}
use Rattle.gfs2_layout.specs.declared.dinode.Dinode.{Dinode}
use Rattle.growth_laws.specs.Files.{IsFile, with_cells}
use Rattle.growth_laws.specs.Growing.{IsTold, CountsAreTold}
use Rattle.growth_laws.proofs.Bare.{content_stuffed}
use Rattle.growth_laws.proofs.Contents.{whole_unit, content_place, content_part, carried_hole, carried_block, same_content}
use Rattle.growth_laws.proofs.Counting.{count_same}
use Rattle.growth_laws.proofs.Fills.{some_by_part}
use Rattle.growth_laws.proofs.Numbers.{numbers_behind_are_the_same}
use Rattle.growth_laws.proofs.Parts.{not_itself}
use Rattle.growth_laws.proofs.Trees.{part_within, tree_same, content_block_same}

module _ (h : Holding) (cell : ℕ → Option Cell) (blocks : ℕ) (file : IsFile h) (told : IsTold h cell blocks) where
  height_same : height_in (with_cells h cell) ≡ height_in h
  height_same = ap (λ (d : Dinode). d.height) told.dinode

  size_same : (dinode_in (with_cells h cell)).size ≡ (dinode_in h).size
  size_same = ap (λ (d : Dinode). d.size) told.dinode

  regular_same : is_regular (dinode_in (with_cells h cell)) ≡ true
  regular_same = ap is_regular told.dinode ∙ file.regular

  counts_same : content_count (with_cells h cell) ≡ content_count h
  counts_same = ap₂ pieces size_same (whole_unit (with_cells h cell) regular_same ∙ sym (whole_unit h file.regular))

  pointers_same : (j : ℕ) → pointer (with_cells h cell) dinode_length h.own j ≡ pointer h dinode_length h.own j
  pointers_same j = numbers_behind_are_the_same (bytes_at (with_cells h cell) h.own) (bytes_at h h.own) dinode_length dinode_length (8 * j) told.behind

  own_other : (x above j l s : ℕ) → part_at h x ≡ Some (Pointed above j l s) → x ≢ h.own
  own_other x above j l s part e = not_itself _ _ _ _ (sym file.own ∙ ap (part_at h) (sym e) ∙ part)

  pub file_after : IsFile (with_cells h cell)
  file_after = record {
    block_size = file.block_size;
    own = told.parts h.own ∙ file.own;
    only = λ x part. file.only x (sym (told.parts x) ∙ part);
    nobody = told.parts 0 ∙ file.nobody;
    whole = λ x p part. elim (cases_eq x h.own) [
      | inl is ↦ ap (λ y. length (bytes_at (with_cells h cell) y)) is ∙ told.own_whole
      | inr other ↦ ap length (told.others x other) ∙ file.whole x p (sym (told.parts x) ∙ part)
    ];
    header = told.own_header;
    address = ap (λ (d : Dinode). d.num.address) told.dinode ∙ file.address;
    number = λ e. file.number (ap (λ (d : Dinode). d.num.number) (sym told.dinode) ∙ e);
    regular = regular_same;
    links = ap (λ (d : Dinode). d.nlink) told.dinode ∙ file.links;
    fits = record {
      low = omega (arith, height_same, file.fits.low);
      stuffed = λ e. omega (arith, size_same, file.fits.stuffed (sym height_same ∙ e));
      under = λ l e. subst (λ n. n ≤ fan h.size dinode_length * span h.size l) (sym counts_same) (file.fits.under l (sym height_same ∙ e));
    };
    tree = tree_same h cell file height_same regular_same told.parts pointers_same (λ x above j l s part. told.others x (own_other x above j (suc l) s part))
        (λ x above j l s part. subst (λ n. s < n) (sym counts_same) (part_within h file x above j l s part));
    leafless = λ x hash place part. file.leafless x hash place (sym (told.parts x) ∙ part);
  }

  carried_same : height_in h ≢ 0 → (q : ℕ) → q < content_count h → carried (with_cells h cell) (content_block (with_cells h cell) q) ≡ carried h (content_block h q)
  carried_same high q low = ap (carried (with_cells h cell)) block_same ∙ elim (cases_eq (content_block h q) 0) [
    | inl none ↦ ap (carried (with_cells h cell)) none ∙ carried_hole (with_cells h cell) regular_same ∙ sym (carried_hole h file.regular) ∙ ap (carried h) (sym none)
    | inr some ↦
        let part = content_part h file high q low some in
        carried_block (with_cells h cell) (content_block h q) regular_same some ∙ told.others (content_block h q) (own_other _ _ _ _ _ part.2) ∙ sym (carried_block h (content_block h q) file.regular some)
  ]
    where
      block_same : content_block (with_cells h cell) q ≡ content_block h q
      block_same = let at = content_place h q file high low in content_block_same h cell file file_after height_same told.parts q at.0 at.1

  pub content_after : content_of (with_cells h cell) ≡ content_of h
  content_after = elim (cases_eq (height_in h) 0) [
    | inl none ↦ content_stuffed (with_cells h cell) (height_same ∙ none) ∙ ap₂ take size_same told.behind ∙ sym (content_stuffed h none)
    | inr high ↦ same_content h (with_cells h cell) high (λ e. high (sym height_same ∙ e)) size_same counts_same (carried_same high)
  ]

  pub count_after : block_count (with_cells h cell) ≡ block_count h
  unfolding block_count
  count_after = count_same (λ x. is_some (h.cell x)) (λ x. is_some (cell x)) 0 h.count (λ x low high. some_by_part (h.cell x) (cell x) (told.parts x))

pub counts_are_told : CountsAreTold
counts_are_told h cell blocks file told = (file_after h cell blocks file told, content_after h cell blocks file told, count_after h cell blocks file told)
