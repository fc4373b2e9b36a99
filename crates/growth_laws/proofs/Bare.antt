-- Files without blocks beside their dinode's.
use Rattle.std.proofs.Common.{◌≡◌, ◌≢◌, ℕ, ◌*◌, ◌<◌, ◌≤◌, inl, inr, true, List, length, take, drop, Option, Some, refl, sym, ap, ap₂, subst, ◌∙◌, arith}
use Rattle.std.proofs.lemmas.Bool.{cases_eq, cond-true, eq-eqb}
use Rattle.std.specs.Prelude.{◌==◌, if◌then◌else◌, flat_map, replicate}
use Rattle.std.specs.List.{range_with_len}
use Rattle.gfs2_layout.specs.Holding.{Pointed, Cell, Holding, part_at, bytes_at}
use Rattle.gfs2_layout.specs.Inode.{dinode_in, height_in, fan, span, unit, carried, content_block, pieces, content_count, content_of}
use Rattle.gfs2_layout.specs.Structures.{dinode_length, is_regular}
use Rattle.gfs2_layout.specs.declared.dinode.Dinode.{Dinode}
use Rattle.growth_laws.specs.Files.{IsFile, with_cells}
use Rattle.growth_laws.specs.Steps.{IsStuffedAs, IsBareTo}
use Rattle.growth_laws.specs.Laws.{StuffedContentIsPut, BareFilesChangeHeight}
use Rattle.growth_laws.proofs.Contents.{whole_unit, content_part, same_content}
use Rattle.growth_laws.proofs.Places.{size_large}
use Rattle.growth_laws.proofs.Trees.{bare_tree}

-- the content behind a dinode
pub content_stuffed : (g : Holding) → height_in g ≡ 0 → content_of g ≡ take (dinode_in g).size (drop dinode_length (bytes_at g g.own))
unfolding content_of
content_stuffed g none = ap (take (dinode_in g).size) (cond-true _ _ _ (eq-eqb (height_in g) 0 none))

-- ---- other content behind the dinode

module _ (h : Holding) (cell : ℕ → Option Cell) (content : List ℕ) (file : IsFile h) (is : IsStuffedAs h cell content) where
  height_none : height_in (with_cells h cell) ≡ 0
  height_none = ap (λ (d : Dinode). d.height) is.dinode ∙ is.stuffed

  size_is : (dinode_in (with_cells h cell)).size ≡ length content
  size_is = ap (λ (d : Dinode). d.size) is.dinode

  stuffed_file : IsFile (with_cells h cell)
  stuffed_file = record {
    block_size = file.block_size;
    own = is.parts h.own ∙ file.own;
    only = λ x part. file.only x (sym (is.parts x) ∙ part);
    nobody = is.parts 0 ∙ file.nobody;
    whole = λ x p part. elim (cases_eq x h.own) [
      | inl own ↦ ap (λ y. length (bytes_at (with_cells h cell) y)) own ∙ is.own_whole
      | inr other ↦ ap length (is.others x other) ∙ file.whole x p (sym (is.parts x) ∙ part)
    ];
    header = is.own_header;
    address = ap (λ (d : Dinode). d.num.address) is.dinode ∙ file.address;
    number = λ e. file.number (ap (λ (d : Dinode). d.num.number) (sym is.dinode) ∙ e);
    regular = ap is_regular is.dinode ∙ file.regular;
    links = ap (λ (d : Dinode). d.nlink) is.dinode ∙ file.links;
    fits = record {
      low = omega (arith, height_none);
      stuffed = λ e. omega (arith, size_is, is.room);
      under = λ l e. absurd (omega (arith, height_none, e));
    };
    tree = bare_tree (with_cells h cell) (λ x a j l s part. omega (arith, is.stuffed, file.tree.below x a j l s (sym (is.parts x) ∙ part))) (λ l e. absurd (omega (arith, height_none, e)));
    leafless = λ x hash place part. file.leafless x hash place (sym (is.parts x) ∙ part);
  }

  stuffed_content : content_of (with_cells h cell) ≡ content
  stuffed_content = content_stuffed (with_cells h cell) height_none ∙ ap (λ n. take n (drop dinode_length (bytes_at (with_cells h cell) h.own))) size_is ∙ is.area

pub stuffed_content_is_put : StuffedContentIsPut
stuffed_content_is_put h cell content file is = (stuffed_file h cell content file is, stuffed_content h cell content file is)

-- ---- another height

module _ (h : Holding) (cell : ℕ → Option Cell) (height : ℕ) (file : IsFile h) (is : IsBareTo h cell height) where
  pub height_is : height_in (with_cells h cell) ≡ height
  height_is = ap (λ (d : Dinode). d.height) is.dinode

  size_same : (dinode_in (with_cells h cell)).size ≡ (dinode_in h).size
  size_same = ap (λ (d : Dinode). d.size) is.dinode

  regular_same : is_regular (dinode_in (with_cells h cell)) ≡ true
  regular_same = ap is_regular is.dinode ∙ file.regular

  count_same : content_count (with_cells h cell) ≡ content_count h
  count_same = ap₂ pieces size_same (whole_unit (with_cells h cell) regular_same ∙ sym (whole_unit h file.regular))

  bare : (x a j l s : ℕ) → part_at (with_cells h cell) x ≢ Some (Pointed a j l s)
  bare x a j l s part = is.bare x a j l s (sym (is.parts x) ∙ part)

  pub bare_file : IsFile (with_cells h cell)
  bare_file = record {
    block_size = file.block_size;
    own = is.parts h.own ∙ file.own;
    only = λ x part. file.only x (sym (is.parts x) ∙ part);
    nobody = is.parts 0 ∙ file.nobody;
    whole = λ x p part. elim (cases_eq x h.own) [
      | inl own ↦ ap (λ y. length (bytes_at (with_cells h cell) y)) own ∙ is.own_whole
      | inr other ↦ ap length (is.others x other) ∙ file.whole x p (sym (is.parts x) ∙ part)
    ];
    header = is.own_header;
    address = ap (λ (d : Dinode). d.num.address) is.dinode ∙ file.address;
    number = λ e. file.number (ap (λ (d : Dinode). d.num.number) (sym is.dinode) ∙ e);
    regular = regular_same;
    links = ap (λ (d : Dinode). d.nlink) is.dinode ∙ file.links;
    fits = record {
      low = omega (arith, height_is, is.low);
      stuffed = λ e. omega (arith, size_same, is.to_stuffed (sym height_is ∙ e), large);
      under = λ l e. subst (λ n. n ≤ fan h.size dinode_length * span h.size l) (sym count_same) (is.enough l (sym height_is ∙ e));
    };
    tree = bare_tree (with_cells h cell) bare (λ l e. is.none);
    leafless = λ x hash place part. file.leafless x hash place (sym (is.parts x) ∙ part);
  }
    where
      large : 512 ≤ h.size
      large = size_large h.size file.block_size

  -- without content nothing is read
  empty_content : (g : Holding) → (dinode_in g).size ≡ 0 → content_of g ≡ take 0 (content_of h)
  unfolding content_of
  empty_content g none = ap (λ n. take n (rest g)) none ∙ nothing (rest g) (content_of h)
    where
      rest : Holding → List ℕ
      rest g = if height_in g == 0 then drop dinode_length (bytes_at g g.own) else flat_map (λ i. carried g (content_block g i)) (range_with_len 0 (content_count g))

      nothing : (xs ys : List ℕ) → take 0 xs ≡ take 0 ys
      nothing xs ys = refl

  -- a file without blocks has holes alone
  hole : (g : Holding) → IsFile g → height_in g ≢ 0 → ((x a j l s : ℕ) → part_at g x ≢ Some (Pointed a j l s)) → (i : ℕ) → i < content_count g → content_block g i ≡ 0
  hole g file high nothing i low = elim (cases_eq (content_block g i) 0) [
    | inl none ↦ none
    | inr some ↦ let there = content_part g file high i low some in absurd (nothing (content_block g i) there.0 there.1 0 i there.2)
  ]

  bare_content : content_of (with_cells h cell) ≡ content_of h
  bare_content = elim (cases_eq (dinode_in h).size 0) [
    | inl none ↦ empty_content (with_cells h cell) (size_same ∙ none) ∙ sym (empty_content h none)
    | inr some ↦
        let high : height_in h ≢ 0 = λ e. some (is.from_stuffed e) in
        let high' : height_in (with_cells h cell) ≢ 0 = λ e. some (is.to_stuffed (sym height_is ∙ e)) in
        same_content h (with_cells h cell) high high' size_same count_same
        (λ i low. ap (carried (with_cells h cell)) (hole (with_cells h cell) bare_file high' bare i (omega (arith, low, count_same)))
        ∙ ap (λ n. replicate n 0) units ∙ ap (carried h) (sym (hole h file high is.bare i low)))
  ]
    where
      units : unit (with_cells h cell) ≡ unit h
      units = whole_unit (with_cells h cell) regular_same ∙ sym (whole_unit h file.regular)

pub bare_files_change_height : BareFilesChangeHeight
bare_files_change_height h cell height file is = (bare_file h cell height file is, bare_content h cell height file is)
