-- A file with another size, and one whose content stands behind its dinode.
use Rattle.std.proofs.Common.{◌≡◌, ◌≢◌, ℕ, suc, ◌+◌, ◌-◌, ◌*◌, ◌/◌, ◌%◌, ◌<◌, ◌≤◌, inl, inr, true, length, drop, Option, Some, sym, ap, ap₂, subst, ◌∙◌, arith}
use Rattle.std.proofs.lemmas.Bool.{cases_eq, cases_lt}
use Rattle.std.proofs.lemmas.List.{get_or-drop, get_or_past}
use Rattle.std.proofs.lemmas.Nat.{div-add-mod', mod_below}
use Rattle.file_tree.specs.Apply.{resized}
use Rattle.gfs2_layout.specs.Holding.{Pointed, Cell, Holding, part_at, bytes_at}
use Rattle.gfs2_layout.specs.Inode.{dinode_in, height_in, fan, span, unit, carried, content_block, pieces, content_count, content_of}
use Rattle.gfs2_layout.specs.Structures.{dinode_length, is_regular}
use Rattle.gfs2_layout.specs.declared.dinode.Dinode.{Dinode}
use Rattle.growth_laws.specs.Files.{IsFile, with_cells, places_on, IsPlaced}
use Rattle.growth_laws.specs.Steps.{IsSized}
use Rattle.growth_laws.specs.Laws.{SizesResize}
use Rattle.growth_laws.proofs.Bytes.{byte, same_bytes, zero_byte, resized_length, resized_in}
use Rattle.growth_laws.proofs.Contents.{whole_unit, content_place, content_part, content_length, content_byte, carried_hole, carried_block, size_some}
use Rattle.growth_laws.proofs.Parts.{not_itself}
use Rattle.growth_laws.proofs.Trees.{part_within, tree_same, content_block_same}

module _ (h : Holding) (cell : ℕ → Option Cell) (size : ℕ) (file : IsFile h) (sized : IsSized h cell size) where
  pub height_same : height_in (with_cells h cell) ≡ height_in h
  height_same = ap (λ (d : Dinode). d.height) sized.dinode

  size_is : (dinode_in (with_cells h cell)).size ≡ size
  size_is = ap (λ (d : Dinode). d.size) sized.dinode

  regular_same : is_regular (dinode_in (with_cells h cell)) ≡ true
  regular_same = ap is_regular sized.dinode ∙ file.regular

  count_is : content_count (with_cells h cell) ≡ pieces size (unit h)
  count_is = ap₂ pieces size_is (whole_unit (with_cells h cell) regular_same ∙ sym (whole_unit h file.regular))

  own_other : (x above j l s : ℕ) → part_at h x ≡ Some (Pointed above j l s) → x ≢ h.own
  own_other x above j l s part e = not_itself _ _ _ _ (sym file.own ∙ ap (part_at h) (sym e) ∙ part)

  pub file_after : IsFile (with_cells h cell)
  file_after = record {
    block_size = file.block_size;
    own = sized.parts h.own ∙ file.own;
    only = λ x part. file.only x (sym (sized.parts x) ∙ part);
    nobody = sized.parts 0 ∙ file.nobody;
    whole = λ x p part. elim (cases_eq x h.own) [
      | inl is ↦ ap (λ y. length (bytes_at (with_cells h cell) y)) is ∙ sized.own_whole
      | inr other ↦ ap length (sized.others x other) ∙ file.whole x p (sym (sized.parts x) ∙ part)
    ];
    header = sized.own_header;
    address = ap (λ (d : Dinode). d.num.address) sized.dinode ∙ file.address;
    number = λ e. file.number (ap (λ (d : Dinode). d.num.number) (sym sized.dinode) ∙ e);
    regular = regular_same;
    links = ap (λ (d : Dinode). d.nlink) sized.dinode ∙ file.links;
    fits = record {
      low = omega (arith, height_same, file.fits.low);
      stuffed = λ e. absurd (sized.in_blocks (sym height_same ∙ e));
      under = λ l e. subst (λ n. n ≤ fan h.size dinode_length * span h.size l) (sym count_is) (sized.reached l (sym height_same ∙ e));
    };
    tree = tree_same h cell file height_same regular_same sized.parts sized.pointers (λ x above j l s part. sized.others x (own_other x above j (suc l) s part))
        (λ x above j l s part. subst (λ n. s < n) (sym count_is) (sized.no_block x above j l s part));
    leafless = λ x hash place part. file.leafless x hash place (sym (sized.parts x) ∙ part);
  }

  high' : height_in (with_cells h cell) ≢ 0
  high' e = sized.in_blocks (sym height_same ∙ e)

  -- the blocks of content stand where they stood
  block_same : (q : ℕ) → q < content_count (with_cells h cell) → content_block (with_cells h cell) q ≡ content_block h q
  block_same q low =
      let at = content_place (with_cells h cell) q file_after high' low in
      let places : places_on (with_cells h cell) 0 ≡ places_on h 0 = ap (λ n. fan h.size dinode_length * span h.size (n - 1 - 0)) height_same in
      content_block_same h cell file file_after height_same sized.parts q (omega (arith, at.0, height_same)) (omega (arith, at.1, places))

  carried_same : (q : ℕ) → q < content_count (with_cells h cell) → carried (with_cells h cell) (content_block (with_cells h cell) q) ≡ carried h (content_block h q)
  carried_same q low = ap (carried (with_cells h cell)) (block_same q low) ∙ elim (cases_eq (content_block h q) 0) [
    | inl none ↦ ap (carried (with_cells h cell)) none ∙ carried_hole (with_cells h cell) regular_same ∙ sym (carried_hole h file.regular) ∙ ap (carried h) (sym none)
    | inr some ↦
        let part = placed_there q low some in
        carried_block (with_cells h cell) (content_block h q) regular_same some ∙ sized.others (content_block h q) (own_other _ _ _ _ _ part.2) ∙ sym (carried_block h (content_block h q) file.regular some)
  ]
    where
      placed_there : (q : ℕ) → q < content_count (with_cells h cell) → content_block h q ≢ 0 → IsPlaced h (content_block h q) 0 q
      placed_there q low some =
          let there = content_part (with_cells h cell) file_after high' q low (λ none. some (sym (block_same q low) ∙ none)) in
          let part = subst (λ c. IsPlaced (with_cells h cell) c 0 q) (block_same q low) there in
          (part.0, part.1, sym (sized.parts (content_block h q)) ∙ part.2)

  -- past the old end they carry zeros
  past_end : (n : ℕ) → n / h.size < content_count (with_cells h cell) → (dinode_in h).size ≤ n → n < size → byte (carried h (content_block h (n / h.size))) (n % h.size) ≡ 0
  past_end n low past less = elim (cases_eq (content_block h (n / h.size)) 0) [
    | inl none ↦ ap (λ c. byte (carried h c) (n % h.size)) none ∙ ap (λ xs. byte xs (n % h.size)) (carried_hole h file.regular) ∙ zero_byte h.size (n % h.size)
    | inr some ↦
        let q = n / h.size in
        let r = n % h.size in
        let end = (dinode_in h).size in
        let split : q * h.size + r ≡ n = div-add-mod' n h.size in
        let there = content_part (with_cells h cell) file_after high' q low (λ none. some (sym (block_same q low) ∙ none)) in
        let part = subst (λ c. IsPlaced (with_cells h cell) c 0 q) (block_same q low) there in
        let within : q < content_count h = part_within h file (content_block h q) part.0 part.1 0 q (sym (sized.parts (content_block h q)) ∙ part.2) in
        let rest : r < h.size = mod_below n h.size (size_some h file sized.in_blocks) in
        let clear : drop (end - q * h.size) (bytes_at h (content_block h q)) ≡ _ = sized.clear (omega (arith, past, less)) q some within (omega (arith, past, split, rest)) in
        let place : end - q * h.size + (r - (end - q * h.size)) ≡ r = omega (arith, past, split) in
        ap (λ xs. byte xs r) (carried_block h (content_block h q) file.regular some) ∙ ap (byte (bytes_at h (content_block h q))) (sym place)
        ∙ sym (get_or-drop (end - q * h.size) (bytes_at h (content_block h q)) (r - (end - q * h.size)) 0) ∙ ap (λ xs. byte xs (r - (end - q * h.size))) clear
        ∙ zero_byte (h.size - (end - q * h.size)) (r - (end - q * h.size))
  ]

  pub content_after : content_of (with_cells h cell) ≡ resized size (content_of h)
  content_after = same_bytes _ _ (length_after ∙ sym (resized_length size (content_of h))) each
    where
      length_after : length (content_of (with_cells h cell)) ≡ size
      length_after = content_length (with_cells h cell) file_after high' ∙ size_is

      each : (n : ℕ) → n < length (content_of (with_cells h cell)) → byte (content_of (with_cells h cell)) n ≡ byte (resized size (content_of h)) n
      each n low =
          let less : n < size = omega (arith, low, length_after) in
          let now = content_byte (with_cells h cell) file_after high' n (omega (arith, less, size_is)) in
          let carries : byte (content_of (with_cells h cell)) n ≡ byte (carried h (content_block h (n / h.size))) (n % h.size) = now.1 ∙ ap (λ xs. byte xs (n % h.size)) (carried_same (n / h.size) now.0) in
          elim (cases_lt n (dinode_in h).size) [
            | inl inside ↦ carries ∙ sym (content_byte h file sized.in_blocks n inside).1 ∙ sym (resized_in size (content_of h) n less)
            | inr past ↦
                carries ∙ past_end n now.0 past less ∙ sym (get_or_past (content_of h) n 0 (omega (arith, past, content_length h file sized.in_blocks)))
                ∙ sym (resized_in size (content_of h) n less)
          ]

pub sizes_resize : SizesResize
sizes_resize h cell size file sized = (file_after h cell size file sized, content_after h cell size file sized)
