-- Bytes put into a block of content.
use Rattle.std.proofs.Common.{◌≡◌, ◌≢◌, ◌⊎◌, ℕ, suc, ◌+◌, ◌-◌, ◌*◌, ◌/◌, ◌%◌, ◌<◌, ◌≤◌, inl, inr, true, List, ◌++◌, length, take, drop, Option, Some, refl, sym, ap, ap₂, subst, ◌∙◌, arith}
use Rattle.std.proofs.lemmas.Bool.{cases_eq, cases_lt}
use Rattle.std.proofs.lemmas.List.{length-take, get_or-take, get_or-drop}
use Rattle.std.proofs.lemmas.Nat.{div-add-mod', mod_below}
use Rattle.std.proofs.Math.Nat.{mul-le-mul_right}
use Rattle.file_tree.specs.Apply.{overwritten}
use Rattle.gfs2_layout.specs.Bytes.{u64_at}
use Rattle.gfs2_layout.specs.Headers.{HasHeader}
use Rattle.gfs2_layout.specs.Holding.{Pointed, Cell, Holding, part_at, bytes_at}
use Rattle.gfs2_layout.specs.Inode.{dinode_in, height_in, fan, span, carried, content_block, pieces, content_count, content_of}
use Rattle.gfs2_layout.specs.Structures.{dinode_of, dinode_length, is_regular}
use Rattle.gfs2_layout.specs.declared.dinode.Dinode.{Dinode}
use Rattle.growth_laws.specs.Files.{IsFile, with_cells, IsPlaced}
use Rattle.growth_laws.specs.Steps.{IsContentPut}
use Rattle.growth_laws.specs.Laws.{PutsOverwrite}
use Rattle.growth_laws.proofs.Bytes.{byte, same_bytes, left_byte, right_byte, over_length, over_before, over_in, over_behind}
use Rattle.growth_laws.proofs.Contents.{whole_unit, content_place, content_part, content_length, content_byte, carried_hole, carried_block, size_some}
use Rattle.growth_laws.proofs.Parts.{same_level, same_first, not_itself}
use Rattle.growth_laws.proofs.Trees.{part_within, tree_same, content_block_same}

module _ (h : Holding) (cell : ℕ → Option Cell) (i : ℕ) (new : List ℕ) (file : IsFile h) (put : IsContentPut h cell i new) where
  placed : IsPlaced h (content_block h i) 0 i
  placed = content_part h file put.in_blocks i put.within put.there

  own_other : h.own ≢ content_block h i
  own_other e = not_itself _ _ _ _ (sym file.own ∙ ap (part_at h) e ∙ placed.2)

  pub own_bytes : bytes_at (with_cells h cell) h.own ≡ bytes_at h h.own
  own_bytes = put.others h.own own_other

  pub dinode_same : dinode_in (with_cells h cell) ≡ dinode_in h
  unfolding dinode_in
  dinode_same = ap dinode_of own_bytes

  pub height_same : height_in (with_cells h cell) ≡ height_in h
  height_same = ap (λ (d : Dinode). d.height) dinode_same

  pub size_same : (dinode_in (with_cells h cell)).size ≡ (dinode_in h).size
  size_same = ap (λ (d : Dinode). d.size) dinode_same

  regular_same : is_regular (dinode_in (with_cells h cell)) ≡ true
  regular_same = ap is_regular dinode_same ∙ file.regular

  pub count_same : content_count (with_cells h cell) ≡ content_count h
  count_same = ap₂ pieces size_same (whole_unit (with_cells h cell) regular_same ∙ sym (whole_unit h file.regular))

  indirect_bytes : (x above j l s : ℕ) → part_at h x ≡ Some (Pointed above j (suc l) s) → bytes_at (with_cells h cell) x ≡ bytes_at h x
  indirect_bytes x above j l s part = put.others x (λ e. omega (arith, same_level (sym part ∙ ap (part_at h) e ∙ placed.2)))

  pub file_after : IsFile (with_cells h cell)
  file_after = record {
    block_size = file.block_size;
    own = put.parts h.own ∙ file.own;
    only = λ x part. file.only x (sym (put.parts x) ∙ part);
    nobody = put.parts 0 ∙ file.nobody;
    whole = λ x p part. elim (cases_eq x (content_block h i)) [
      | inl is ↦ ap (λ y. length (bytes_at (with_cells h cell) y)) is ∙ ap length put.bytes ∙ put.whole
      | inr other ↦ ap length (put.others x other) ∙ file.whole x p (sym (put.parts x) ∙ part)
    ];
    header = subst (HasHeader 4 400) (sym own_bytes) file.header;
    address = ap (λ (d : Dinode). d.num.address) dinode_same ∙ file.address;
    number = λ e. file.number (ap (λ (d : Dinode). d.num.number) (sym dinode_same) ∙ e);
    regular = regular_same;
    links = ap (λ (d : Dinode). d.nlink) dinode_same ∙ file.links;
    fits = record {
      low = omega (arith, height_same, file.fits.low);
      stuffed = λ e. omega (arith, size_same, file.fits.stuffed (sym height_same ∙ e));
      under = λ l e. subst (λ n. n ≤ fan h.size dinode_length * span h.size l) (sym count_same) (file.fits.under l (sym height_same ∙ e));
    };
    tree = tree_same h cell file height_same regular_same put.parts (λ j. ap (u64_at (dinode_length + 8 * j)) own_bytes) indirect_bytes
        (λ x above j l s part. subst (λ n. s < n) (sym count_same) (part_within h file x above j l s part));
    leafless = λ x hash place part. file.leafless x hash place (sym (put.parts x) ∙ part);
  }

  high' : height_in (with_cells h cell) ≢ 0
  high' e = put.in_blocks (sym height_same ∙ e)

  pub block_same : (q : ℕ) → q < content_count h → content_block (with_cells h cell) q ≡ content_block h q
  block_same q low = let at = content_place h q file put.in_blocks low in content_block_same h cell file file_after height_same put.parts q at.0 at.1

  -- a block of content with another index carries what it carried
  pub carried_other : (q : ℕ) → q < content_count h → q ≢ i → carried (with_cells h cell) (content_block (with_cells h cell) q) ≡ carried h (content_block h q)
  carried_other q low other = ap (carried (with_cells h cell)) (block_same q low) ∙ elim (cases_eq (content_block h q) 0) [
    | inl none ↦ ap (carried (with_cells h cell)) none ∙ carried_hole (with_cells h cell) regular_same ∙ sym (carried_hole h file.regular) ∙ ap (carried h) (sym none)
    | inr some ↦
        carried_block (with_cells h cell) (content_block h q) regular_same some
        ∙ put.others (content_block h q) (λ e. other (same_first (sym (content_part h file put.in_blocks q low some).2 ∙ ap (part_at h) e ∙ placed.2)))
        ∙ sym (carried_block h (content_block h q) file.regular some)
  ]

  pub carried_here : carried (with_cells h cell) (content_block (with_cells h cell) i) ≡ new
  carried_here = ap (carried (with_cells h cell)) (block_same i put.within) ∙ carried_block (with_cells h cell) (content_block h i) regular_same put.there ∙ put.bytes

  pub content_length_after : length (content_of (with_cells h cell)) ≡ (dinode_in h).size
  content_length_after = content_length (with_cells h cell) file_after high' ∙ size_same

  pub content_byte_after : (n : ℕ) → n < (dinode_in h).size → byte (content_of (with_cells h cell)) n ≡ byte (carried (with_cells h cell) (content_block (with_cells h cell) (n / h.size))) (n % h.size)
  content_byte_after n low = (content_byte (with_cells h cell) file_after high' n (omega (arith, low, size_same))).1

-- bytes over those of a block from a place on
pub mid_byte : (at : ℕ) (new old : List ℕ) (r : ℕ) → at + length new ≤ length old
    → ((r < at) × (byte (take at old ++ (new ++ drop (at + length new) old)) r ≡ byte old r))
    ⊎ ((at ≤ r) × (r < at + length new) × (byte (take at old ++ (new ++ drop (at + length new) old)) r ≡ byte new (r - at)))
    ⊎ ((at + length new ≤ r) × (byte (take at old ++ (new ++ drop (at + length new) old)) r ≡ byte old r))
mid_byte at new old r fits = elim (cases_lt r at) [
  | inl before ↦ inl (before, left_byte (take at old) _ r (omega (arith, before, front)) ∙ get_or-take at old r 0 before)
  | inr past ↦ elim (cases_lt r (at + length new)) [
    | inl inside ↦ inr (inl (past, inside, right_byte (take at old) _ r at front past ∙ left_byte new _ (r - at) (omega (arith, past, inside))))
    | inr behind ↦
        let back : at + length new + (r - at - length new) ≡ r = omega (arith, behind) in
        inr (inr (
          behind,
          right_byte (take at old) _ r at front past ∙ right_byte new (drop (at + length new) old) (r - at) (length new) refl (omega (arith, behind))
              ∙ get_or-drop (at + length new) old (r - at - length new) 0 ∙ ap (byte old) back,
        ))
  ]
]
  where
    front : length (take at old) ≡ at
    front = omega (arith, length-take at old, fits)

before_block : (q i u : ℕ) → q < i → q * u + u ≤ i * u
before_block q i u less = let up : suc q * u ≤ i * u = mul-le-mul_right u less in omega (arith, up)

pub puts_overwrite : PutsOverwrite
puts_overwrite h cell i at new file short within put = (file_after h cell i _ file put, same_bytes _ _ long each)
  where
    old : List ℕ
    old = bytes_at h (content_block h i)

    long : length (content_of (with_cells h cell)) ≡ length (overwritten (i * h.size + at) new (content_of h))
    long = omega (arith, content_length_after h cell i _ file put, over_length (i * h.size + at) new (content_of h), content_length h file put.in_blocks, within)

    old_length : length (bytes_at h (content_block h i)) ≡ h.size
    old_length = file.whole (content_block h i) _ (content_part h file put.in_blocks i put.within put.there).2

    -- within the block
    here : (n : ℕ) → n < (dinode_in h).size → n / h.size ≡ i → byte (content_of (with_cells h cell)) n ≡ byte (overwritten (i * h.size + at) new (content_of h)) n
    here n low is =
        let split : n / h.size * h.size + n % h.size ≡ n = div-add-mod' n h.size in
        let place : i * h.size + n % h.size ≡ n = ap (λ q. q * h.size + n % h.size) (sym is) ∙ split in
        let now : byte (content_of (with_cells h cell)) n ≡ byte (take at (bytes_at h (content_block h i)) ++ (new ++ drop (at + length new) (bytes_at h (content_block h i)))) (n % h.size)
        = content_byte_after h cell i _ file put n low ∙ ap (λ q. byte (carried (with_cells h cell) (content_block (with_cells h cell) q)) (n % h.size)) is ∙ ap (λ xs. byte xs (n % h.size)) (carried_here h cell i _ file put) in
        let was : byte (content_of h) n ≡ byte (bytes_at h (content_block h i)) (n % h.size)
        = (content_byte h file put.in_blocks n low).1 ∙ ap (λ q. byte (carried h (content_block h q)) (n % h.size)) is ∙ ap (λ xs. byte xs (n % h.size)) (carried_block h (content_block h i) file.regular put.there) in
        elim (mid_byte at new (bytes_at h (content_block h i)) (n % h.size) (omega (arith, short, old_length))) [
          | inl before ↦ now ∙ before.1 ∙ sym was ∙ sym (over_before (i * h.size + at) new (content_of h) n (omega (arith, before.0, place)))
          | inr (inl inside) ↦
              let same : n % h.size - at ≡ n - (i * h.size + at) = omega (arith, place, inside.0) in
              now ∙ inside.2 ∙ ap (byte new) same ∙ sym (over_in (i * h.size + at) new (content_of h) n (omega (arith, inside.0, place)) (omega (arith, inside.1, place)))
          | inr (inr behind) ↦ now ∙ behind.1 ∙ sym was ∙ sym (over_behind (i * h.size + at) new (content_of h) n (omega (arith, behind.0, place)))
        ]

    -- in another block
    elsewhere : (n : ℕ) → n < (dinode_in h).size → n / h.size ≢ i → byte (content_of (with_cells h cell)) n ≡ byte (overwritten (i * h.size + at) new (content_of h)) n
    elsewhere n low other =
        let was = content_byte h file put.in_blocks n low in
        let same : byte (content_of (with_cells h cell)) n ≡ byte (content_of h) n
        = content_byte_after h cell i _ file put n low ∙ ap (λ xs. byte xs (n % h.size)) (carried_other h cell i _ file put (n / h.size) was.0 other) ∙ sym was.1 in
        let split : n / h.size * h.size + n % h.size ≡ n = div-add-mod' n h.size in
        let rest : n % h.size < h.size = mod_below n h.size (size_some h file put.in_blocks) in
        elim (cases_lt (n / h.size) i) [
          | inl lower ↦ same ∙ sym (over_before (i * h.size + at) new (content_of h) n (omega (arith, split, rest, before_block (n / h.size) i h.size lower)))
          | inr upper ↦ same ∙ sym (over_behind (i * h.size + at) new (content_of h) n (omega (arith, split, short, before_block i (n / h.size) h.size (omega (arith, upper, other)))))
        ]

    each : (n : ℕ) → n < length (content_of (with_cells h cell)) → byte (content_of (with_cells h cell)) n ≡ byte (overwritten (i * h.size + at) new (content_of h)) n
    each n low =
        let less : n < (dinode_in h).size = omega (arith, low, content_length_after h cell i _ file put) in
        elim (cases_eq (n / h.size) i) [ inl is ↦ here n less is | inr other ↦ elsewhere n less other ]
