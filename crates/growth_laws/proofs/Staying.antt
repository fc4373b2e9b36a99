-- What a write needs where no block is taken.
use Rattle.std.proofs.Common.{◌≡◌, ◌≢◌, ℕ, zero, suc, ◌+◌, ◌-◌, ◌*◌, ◌<◌, ◌≤◌, max, inl, inr, Bool, true, false, Option, Some, refl, sym, ap, ap₂, ◌∙◌, arith}
use Rattle.std.proofs.lemmas.Bool.{cases_eq, cases_lt, cond-true, cond-false, eq-eqb, ne_eqb, le-ltb}
use Rattle.std.specs.Prelude.{◌==◌, ◌&&◌, ◌||◌, not, nat_lt, count_by}
use Rattle.std.specs.List.{range_with_len}
use Rattle.gfs2_layout.specs.Bytes.{u64_at}
use Rattle.gfs2_layout.specs.Holding.{Pointed, Cell, Holding, part_at}
use Rattle.gfs2_layout.specs.Inode.{dinode_in, height_in, fan, span, pointer, pieces}
use Rattle.gfs2_layout.specs.Structures.{dinode_length}
use Rattle.gfs2_layout.specs.declared.dinode.Dinode.{Dinode}
use Rattle.growth_laws.specs.Files.{IsFile, with_cells, block_on, IsPlaced}
use Rattle.growth_laws.specs.Need.{has_content, is_there, is_over, is_on_way, is_needed, needed_on, needed_below}
use Rattle.growth_laws.specs.Steps.{IsBareTo}
use Rattle.growth_laws.specs.Growing.{PutsKeepNeed, SizesKeepNeed, BareHeightsKeepNeed, NothingNeedsNothing, GrowthNeedsLevels}
use Rattle.growth_laws.proofs.Bare as bare
use Rattle.growth_laws.proofs.Counting.{count_same, count_more}
use Rattle.growth_laws.proofs.Needing.{on_way}
use Rattle.growth_laws.proofs.Places.{part_of_place}
use Rattle.growth_laws.proofs.Puts as puts
use Rattle.growth_laws.proofs.Rising.{none_above, there_same, there_false, on_way_above}
use Rattle.growth_laws.proofs.Sizes as sizes

-- a test that none passes
count_none : (p : ℕ → Bool) (a n : ℕ) → ((x : ℕ) → a ≤ x → x < a + n → p x ≡ false) → count_by p (range_with_len a n) ≡ 0
count_none p a n none = count_same (λ x. false) p a n none ∙ never a n
  where
    never : (a n : ℕ) → count_by (λ (x : ℕ). false) (range_with_len a n) ≡ 0
    never a zero = refl
    never a (suc n) = never (a + 1) n

-- places that are needed as they were
needs_same : (h g : Holding) (at end : ℕ) → g.size ≡ h.size → ((l j : ℕ) → is_needed g at end l j ≡ is_needed h at end l j) → (n : ℕ) → needed_below g at end n ≡ needed_below h at end n
needs_same h g at end sizes same zero = refl
needs_same h g at end sizes same (suc n) =
    ap₂ ◌+◌ (ap (λ s. count_by (is_needed g at end n) (range_with_len 0 (max 1 (pieces end (span s n * s))))) sizes
    ∙ count_same (is_needed h at end n) (is_needed g at end n) 0 (max 1 (pieces end (span h.size n * h.size))) (λ j low high. same n j)) (needs_same h g at end sizes same n)

-- of a file with the same height, the same parts and the same pointers behind its dinode
module _ (h : Holding) (cell : ℕ → Option Cell) (file : IsFile h) (file' : IsFile (with_cells h cell)) (heights : height_in (with_cells h cell) ≡ height_in h) (parts : (x : ℕ) → part_at (with_cells h cell) x ≡ part_at h x)
    (content : has_content (with_cells h cell) ≡ has_content h) where
  there : (l j : ℕ) → is_there (with_cells h cell) l j ≡ is_there h l j
  there l j = elim (cases_lt l (height_in h)) [
    | inl less ↦
        there_same h (with_cells h cell) l j file file' refl less (omega (arith, less, heights)) (λ c placed. (placed.0, placed.1, parts c ∙ placed.2)) (λ c placed. (placed.0, placed.1, sym (parts c) ∙ placed.2))
    | inr above ↦ none_above (with_cells h cell) l j (omega (arith, above, heights)) ∙ sym (none_above h l j above)
  ]

  ways : (at end l j : ℕ) → is_on_way (with_cells h cell) at end l j ≡ is_on_way h at end l j
  ways at end l j = λ t. is_over h.size at end l j || (not (nat_lt l (heights t)) && j == 0 && content t)

  pub need_stays : (at end n : ℕ) → needed_below (with_cells h cell) at end n ≡ needed_below h at end n
  need_stays at end = needs_same h (with_cells h cell) at end refl (λ l j. ap₂ (λ (a : Bool) (b : Bool). a && not b) (ways at end l j) (there l j))

-- the pointers tell whether a file in blocks has content
pub pointers_tell : (h : Holding) (cell : ℕ → Option Cell) → height_in h ≢ 0 → height_in (with_cells h cell) ≡ height_in h
    → ((j : ℕ) → pointer (with_cells h cell) dinode_length h.own j ≡ pointer h dinode_length h.own j) → has_content (with_cells h cell) ≡ has_content h
pointers_tell h cell high heights pointers =
    cond-false _ _ _ (ne_eqb (height_in (with_cells h cell)) 0 (λ e. high (sym heights ∙ e)))
    ∙ ap (λ n. not (n == 0)) (count_same (λ k. not (pointer h dinode_length h.own k == 0)) (λ k. not (pointer (with_cells h cell) dinode_length h.own k == 0)) 0 (fan h.size dinode_length)
    (λ j low less. ap (λ p. not (p == 0)) (pointers j)))
    ∙ sym (cond-false _ _ _ (ne_eqb (height_in h) 0 high))

pub puts_keep_need : PutsKeepNeed
puts_keep_need h cell i new at end height file put =
    let heights = puts.height_same h cell i new file put in
    need_stays h cell file (puts.file_after h cell i new file put) heights put.parts
    (pointers_tell h cell put.in_blocks heights (λ j. ap (u64_at (dinode_length + 8 * j)) (puts.own_bytes h cell i new file put))) at end height

pub sizes_keep_need : SizesKeepNeed
sizes_keep_need h cell size at end height file sized =
    let heights = sizes.height_same h cell size file sized in
    need_stays h cell file (sizes.file_after h cell size file sized) heights sized.parts (pointers_tell h cell sized.in_blocks heights sized.pointers) at end height

-- ---- files without blocks

-- nothing is there
none_there : (g : Holding) → IsFile g → ((x from k level first : ℕ) → part_at g x ≢ Some (Pointed from k level first)) → (l j : ℕ) → is_there g l j ≡ false
none_there g file nothing l j = elim (cases_lt l (height_in g)) [
  | inl less ↦ there_false g l j (λ low. elim (cases_eq (block_on g l j) 0) [
    | inl none ↦ none
    | inr some ↦ let placed : IsPlaced g (block_on g l j) l (j * span g.size l) = part_of_place g file l j less low some in absurd (nothing _ _ _ _ _ placed.2)
  ])
  | inr above ↦ none_above g l j above
]

-- no content goes along
way_over : (g : Holding) (at end l j : ℕ) → has_content g ≡ false → is_on_way g at end l j ≡ is_over g.size at end l j
way_over g at end l j none = ap (λ b. is_over g.size at end l j || (not (nat_lt l (height_in g)) && j == 0 && b)) none ∙ nothing (is_over g.size at end l j) (not (nat_lt l (height_in g))) (j == 0)
  where
    nothing : (a b c : Bool) → (a || (b && c && false)) ≡ a
    nothing true b c = refl
    nothing false true true = refl
    nothing false true false = refl
    nothing false false c = refl

module _ (h : Holding) (cell : ℕ → Option Cell) (to : ℕ) (file : IsFile h) (f : IsBareTo h cell to) where
  file' : IsFile (with_cells h cell)
  file' = bare.bare_file h cell to file f

  -- pointers that lead nowhere are no content
  no_pointers : (g : Holding) → height_in g ≢ 0 → ((j : ℕ) → j < fan g.size dinode_length → pointer g dinode_length g.own j ≡ 0) → has_content g ≡ false
  no_pointers g high nowhere =
      cond-false _ _ _ (ne_eqb (height_in g) 0 high) ∙ ap (λ n. not (n == 0)) (count_none (λ k. not (pointer g dinode_length g.own k == 0)) 0 (fan g.size dinode_length)
      (λ j low less. ap (λ p. not (p == 0)) (nowhere j (omega (arith, less)))))

  no_size : (g : Holding) → height_in g ≡ 0 → (dinode_in g).size ≡ 0 → has_content g ≡ false
  no_size g low none = cond-true _ _ _ (eq-eqb (height_in g) 0 low) ∙ ap not (eq-eqb (dinode_in g).size 0 none)

  pub no_content : has_content h ≡ false
  no_content = elim (cases_eq (height_in h) 0) [
    | inl low ↦ no_size h low (f.from_stuffed low)
    | inr high ↦ no_pointers h high (λ j low. elim (cases_eq (pointer h dinode_length h.own j) 0) [
      | inl none ↦ none
      | inr some ↦
          let up : height_in h ≡ suc (height_in h - 1) = omega (arith, high) in
          absurd (f.bare _ _ _ _ _ (file.tree.top (height_in h - 1) up j low some).part)
    ])
  ]

  pub no_content' : has_content (with_cells h cell) ≡ false
  no_content' = elim (cases_eq to 0) [
    | inl none ↦ no_size (with_cells h cell) (bare.height_is h cell to file f ∙ none) (ap (λ (d : Dinode). d.size) f.dinode ∙ f.to_stuffed none)
    | inr high ↦ no_pointers (with_cells h cell) (λ e. high (sym (bare.height_is h cell to file f) ∙ e)) f.none
  ]

  pub bare_need : (at end n : ℕ) → needed_below (with_cells h cell) at end n ≡ needed_below h at end n
  bare_need at end = needs_same h (with_cells h cell) at end refl
      (λ l j. ap₂ (λ (a : Bool) (b : Bool). a && not b) (way_over (with_cells h cell) at end l j no_content' ∙ sym (way_over h at end l j no_content))
      (none_there (with_cells h cell) file' (λ x a k l s part. f.bare x a k l s (sym (f.parts x) ∙ part)) l j ∙ sym (none_there h file f.bare l j)))

pub bare_heights_keep_need : BareHeightsKeepNeed
bare_heights_keep_need h cell to at end height file f = bare_need h cell to file f at end height

-- ---- no byte is written

-- no place is over no bytes
over_none : (size at l j : ℕ) → is_over size at at l j ≡ false
over_none size at l j = first_false (nat_lt at at) (nat_lt (j * span size l * size) at) (nat_lt at ((j + 1) * span size l * size)) (le-ltb at at (omega arith))
  where
    first_false : (a b c : Bool) → a ≡ false → (a && b && c) ≡ false
    first_false true b c e = let both : true ≡ false = e in absurd (cc)
    first_false false b c e = refl

on_none : (h : Holding) (at l : ℕ) → l < height_in h → needed_on h at at l ≡ 0
on_none h at l less = count_none (is_needed h at at l) 0 (max 1 (pieces at (span h.size l * h.size)))
    (λ j low high. ap (λ b. b && not (is_there h l j)) (on_way h at at l j less ∙ over_none h.size at l j))

pub nothing_needs_nothing : NothingNeedsNothing
nothing_needs_nothing h at zero low = refl
nothing_needs_nothing h at (suc n) low = ap₂ ◌+◌ (on_none h at n (omega (arith, low))) (nothing_needs_nothing h at n (omega (arith, low)))

-- on a new level the first place alone
on_one : (h : Holding) (at l : ℕ) → has_content h ≡ true → height_in h ≤ l → needed_on h at at l ≡ 1
on_one h at l has above =
    let n = max 1 (pieces at (span h.size l * h.size)) in
    let some : 0 < 0 + n = omega arith in
    count_more (λ j. false) (is_needed h at at l) 0 0 n (omega arith) some refl (needs 0 ∙ first) (λ j other. needs j ∙ later j other) ∙ ap (λ k. k + 1) (count_none (λ j. false) 0 n (λ j low high. refl))
  where
    first : ((0 == 0) && not false) ≡ true
    first = refl

    needs : (j : ℕ) → is_needed h at at l j ≡ ((j == 0) && not false)
    needs j = ap₂ (λ (a : Bool) (b : Bool). a && not b) (on_way_above h at at l j above has ∙ ap (λ b. b || (j == 0)) (over_none h.size at l j)) (none_above h l j above)

    later : (j : ℕ) → j ≢ 0 → ((j == 0) && not false) ≡ false
    later j other = ap (λ b. b && not false) (ne_eqb j 0 other)

pub growth_needs_levels : GrowthNeedsLevels
growth_needs_levels h at zero has = omega arith
growth_needs_levels h at (suc n) has = elim (cases_lt n (height_in h)) [
  | inl less ↦ omega (arith, on_none h at n less, growth_needs_levels h at n has, less)
  | inr above ↦ omega (arith, on_one h at n has above, growth_needs_levels h at n has, above)
]
