-- What a write needs of a file once its height has risen.
use Rattle.std.proofs.Common.{◌≡◌, ◌≢◌, ℕ, zero, suc, ◌+◌, ◌*◌, ◌<◌, ◌≤◌, max, inl, inr, Bool, true, false, Option, Some, refl, sym, ap, ap₂, subst, ◌∙◌, arith}
use Rattle.std.proofs.lemmas.Bool.{cases_eq, cases_lt, cond-true, cond-false, eq-eqb, ne_eqb, lt-ltb, le-ltb}
use Rattle.std.specs.Prelude.{◌==◌, ◌&&◌, ◌||◌, not, nat_lt}
use Rattle.gfs2_layout.specs.Holding.{Pointed, Cell, Holding}
use Rattle.gfs2_layout.specs.Inode.{dinode_in, height_in, fan, span, pointer, pieces}
use Rattle.gfs2_layout.specs.Structures.{dinode_length}
use Rattle.dinode_tree.proofs.Spans.{span_some}
use Rattle.growth_laws.specs.Files.{IsFile, with_cells, places_on, block_on, IsPlaced}
use Rattle.growth_laws.specs.Need.{has_content, is_there, is_over, is_on_way, is_needed, needed_on, needed_below}
use Rattle.growth_laws.specs.Laws.{RaisesLowerNeed, UnstuffingLowersNeed}
use Rattle.growth_laws.proofs.Counting.{count_same, count_more, count_some}
use Rattle.growth_laws.proofs.Contents.{same_place}
use Rattle.growth_laws.proofs.Needing.{and_false, on_way}
use Rattle.growth_laws.proofs.Parts.{same_first, some_part}
use Rattle.growth_laws.proofs.Places.{size_large, cancelled, part_of_place, place_of_part}
use Rattle.growth_laws.proofs.Raises as raised
use Rattle.growth_laws.proofs.Unstuffing as unstuffed

-- above the height nothing is there
pub none_above : (h : Holding) (l j : ℕ) → height_in h ≤ l → is_there h l j ≡ false
none_above h l j high = first_false (nat_lt l (height_in h)) (nat_lt j (places_on h l)) (not (block_on h l j == 0)) (le-ltb l (height_in h) high)
  where
    first_false : (a b c : Bool) → a ≡ false → (a && b && c) ≡ false
    first_false true b c e = let both : true ≡ false = e in absurd (cc)
    first_false false b c e = refl

-- above the height, of a file with content, the first place is on the way too
pub on_way_above : (h : Holding) (at end l j : ℕ) → height_in h ≤ l → has_content h ≡ true → is_on_way h at end l j ≡ (is_over h.size at end l j || (j == 0))
on_way_above h at end l j high has =
    let above : nat_lt l (height_in h) ≡ false = le-ltb l (height_in h) high in
    (λ t. is_over h.size at end l j || (not (above t) && j == 0 && has t)) ∙ ap (λ b. is_over h.size at end l j || b) (and_true (j == 0))
  where
    and_true : (b : Bool) → (true && b && true) ≡ b
    and_true true = refl
    and_true false = refl

or_true : (b : Bool) → (b || true) ≡ true
or_true true = refl
or_true false = refl

or_false : (b : Bool) → (b || false) ≡ b
or_false true = refl
or_false false = refl

-- one level more, on which the first place alone is taken
module _ (h : Holding) (cell : ℕ → Option Cell) (at end : ℕ) (up : height_in (with_cells h cell) ≡ suc (height_in h)) (has : has_content h ≡ true) (has' : has_content (with_cells h cell) ≡ true)
    (same : (l j : ℕ) → l < height_in h → is_there (with_cells h cell) l j ≡ is_there h l j) (first : is_there (with_cells h cell) (height_in h) 0 ≡ true)
    (rest : (j : ℕ) → j ≢ 0 → is_there (with_cells h cell) (height_in h) j ≡ false) where
  on_lower : (l : ℕ) → l < height_in h → needed_on (with_cells h cell) at end l ≡ needed_on h at end l
  on_lower l low =
      count_same (is_needed h at end l) (is_needed (with_cells h cell) at end l) 0 (max 1 (pieces end (span h.size l * h.size)))
      (λ j from to. ap₂ (λ (a : Bool) (b : Bool). a && not b) (on_way (with_cells h cell) at end l j (omega (arith, low, up)) ∙ sym (on_way h at end l j low)) (same l j low))

  on_higher : (l : ℕ) → height_in h < l → needed_on (with_cells h cell) at end l ≡ needed_on h at end l
  on_higher l high =
      count_same (is_needed h at end l) (is_needed (with_cells h cell) at end l) 0 (max 1 (pieces end (span h.size l * h.size)))
      (λ j from to. ap₂ (λ (a : Bool) (b : Bool). a && not b)
      (on_way_above (with_cells h cell) at end l j (omega (arith, high, up)) has' ∙ sym (on_way_above h at end l j (omega (arith, high)) has))
      (none_above (with_cells h cell) l j (omega (arith, high, up)) ∙ sym (none_above h l j (omega (arith, high)))))

  on_new : needed_on h at end (height_in h) ≡ needed_on (with_cells h cell) at end (height_in h) + 1
  on_new =
      count_more (is_needed (with_cells h cell) at end (height_in h)) (is_needed h at end (height_in h)) 0 0 (max 1 (pieces end (span h.size (height_in h) * h.size))) (omega arith) (omega arith)
      no_more was (λ j other. sym (same_later j other))
    where
      -- the first place was needed, and is no more
      was : is_needed h at end (height_in h) 0 ≡ true
      was = ap₂ (λ (a : Bool) (b : Bool). a && not b) (on_way_above h at end (height_in h) 0 (omega arith) has ∙ or_true (is_over h.size at end (height_in h) 0)) (none_above h (height_in h) 0 (omega arith))

      last_false : (a : Bool) → (a && not true) ≡ false
      last_false true = refl
      last_false false = refl

      no_more : is_needed (with_cells h cell) at end (height_in h) 0 ≡ false
      no_more = ap (λ b. is_on_way (with_cells h cell) at end (height_in h) 0 && not b) first ∙ last_false (is_on_way (with_cells h cell) at end (height_in h) 0)

      same_later : (j : ℕ) → j ≢ 0 → is_needed (with_cells h cell) at end (height_in h) j ≡ is_needed h at end (height_in h) j
      same_later j other =
          let later : (j == 0) ≡ false = ne_eqb j 0 other in
          let before : is_on_way h at end (height_in h) j ≡ is_over h.size at end (height_in h) j
          = on_way_above h at end (height_in h) j (omega arith) has ∙ ap (λ b. is_over h.size at end (height_in h) j || b) later ∙ or_false (is_over h.size at end (height_in h) j) in
          ap₂ (λ (a : Bool) (b : Bool). a && not b) (on_way (with_cells h cell) at end (height_in h) j (omega (arith, up)) ∙ sym before) (rest j other ∙ sym (none_above h (height_in h) j (omega arith)))

  below_same : (n : ℕ) → n ≤ height_in h → needed_below (with_cells h cell) at end n ≡ needed_below h at end n
  below_same zero low = refl
  below_same (suc n) low = ap₂ ◌+◌ (on_lower n (omega (arith, low))) (below_same n (omega (arith, low)))

  pub below_more : (n : ℕ) → height_in h < n → needed_below h at end n ≡ needed_below (with_cells h cell) at end n + 1
  below_more zero high = absurd (omega (arith, high))
  below_more (suc n) high = elim (cases_eq n (height_in h)) [
    | inl e ↦
        let here : needed_on h at end n ≡ needed_on (with_cells h cell) at end n + 1 = subst (λ l. needed_on h at end l ≡ needed_on (with_cells h cell) at end l + 1) (sym e) on_new in
        omega (arith, here, below_same n (omega (arith, e)))
    | inr apart ↦ omega (arith, on_higher n (omega (arith, high, apart)), below_more n (omega (arith, high, apart)))
  ]

-- ---- what is there

there_true : (g : Holding) (l j : ℕ) → l < height_in g → j < places_on g l → block_on g l j ≢ 0 → is_there g l j ≡ true
there_true g l j less low some =
    let low' : nat_lt l (height_in g) ≡ true = lt-ltb l _ less in
    let near : nat_lt j (places_on g l) ≡ true = lt-ltb j _ low in
    let is : (block_on g l j == 0) ≡ false = ne_eqb _ 0 some in
    (λ t. low' t && near t && not (is t))

pub there_false : (g : Holding) (l j : ℕ) → (j < places_on g l → block_on g l j ≡ 0) → is_there g l j ≡ false
there_false g l j none = elim (cases_lt j (places_on g l)) [
  | inl low ↦ let is : (block_on g l j == 0) ≡ true = eq-eqb _ 0 (none low) in ap (λ b. nat_lt l (height_in g) && nat_lt j (places_on g l) && not b) is ∙ last_false (nat_lt l (height_in g) && nat_lt j (places_on g l))
  | inr far ↦ and_false (nat_lt l (height_in g)) _ (not (block_on g l j == 0)) (le-ltb j _ far)
]
  where
    last_false : (a : Bool) → (a && false) ≡ false
    last_false true = refl
    last_false false = refl

-- the same blocks on a level, by their parts, of files of other heights
pub there_same : (h g : Holding) (l j : ℕ) → IsFile h → IsFile g → g.size ≡ h.size → l < height_in h → l < height_in g
    → ((c : ℕ) → IsPlaced h c l (j * span h.size l) → IsPlaced g c l (j * span g.size l)) → ((c : ℕ) → IsPlaced g c l (j * span g.size l) → IsPlaced h c l (j * span h.size l))
    → is_there g l j ≡ is_there h l j
there_same h g l j file file' sizes less less' on back = elim (cases_lt j (places_on h l)) [
  | inl low ↦ elim (cases_eq (block_on h l j) 0) [
    | inl none ↦ there_false g l j (λ low'. same_place h g l j file file' less less' low low' on back ∙ none) ∙ sym (there_false h l j (λ low. none))
    | inr some ↦
        let at = place_in g file' (block_on h l j) l j (on _ (part_of_place h file l j less low some)) in
        there_true g l j less' at.0 at.1 ∙ sym (there_true h l j less low some)
  ]
  | inr far ↦ there_false g l j (λ low'. no_place low' far) ∙ sym (there_false h l j (λ low. absurd (omega (arith, low, far))))
]
  where
    place_in : (g : Holding) → IsFile g → (c l j : ℕ) → IsPlaced g c l (j * span g.size l) → (j < places_on g l) × (block_on g l j ≢ 0)
    place_in g file c l j placed =
        let found = place_of_part g file c l (j * span g.size l) placed in
        let same : j ≡ found.0 = cancelled j found.0 (span g.size l) (span_some g.size l (size_large g.size file.block_size)) found.1 in
        (subst (λ n. n < places_on g l) (sym same) found.2, λ none. some_part g c _ file.nobody placed.2 (sym found.3 ∙ ap (block_on g l) (sym same) ∙ none))

    no_place : j < places_on g l → places_on h l ≤ j → block_on g l j ≡ 0
    no_place low' far = elim (cases_eq (block_on g l j) 0) [
      | inl none ↦ none
      | inr some ↦ absurd (omega (arith, far, (place_in h file (block_on g l j) l j (back _ (part_of_place g file' l j less' low' some))).0))
    ]

-- a pointer of the dinode leads somewhere
pub has_some : (g : Holding) (k : ℕ) → height_in g ≢ 0 → k < fan g.size dinode_length → pointer g dinode_length g.own k ≢ 0 → has_content g ≡ true
has_some g k high near some =
    let passes : not (pointer g dinode_length g.own k == 0) ≡ true = ap not (ne_eqb _ 0 some) in
    cond-false _ _ _ (ne_eqb (height_in g) 0 high)
    ∙ ap not (ne_eqb _ 0 (count_some (λ k. not (pointer g dinode_length g.own k == 0)) k 0 (fan g.size dinode_length) (omega arith) (omega (arith, near)) passes))

pub raises_lower_need : RaisesLowerNeed
raises_lower_need h cell level b at end height file f more =
    below_more h cell at end up (has_some h f.leads.0 (λ e. omega (arith, e, f.high)) f.leads.1 f.leads.2)
    (has_some (with_cells h cell) 0 (λ e. omega (arith, e, up)) (omega (arith, f.leads.1)) (λ e. f.some (sym f.first ∙ e)))
    (λ l j low. there_same h (with_cells h cell) l j file file' refl low (omega (arith, low, up)) (λ c. raised.placed_on h cell level b file f c l (j * span h.size l))
    (λ c. raised.placed_back h cell level b file f c l (j * span h.size l) (omega (arith, low, f.high))))
    (subst (λ l. is_there (with_cells h cell) l 0 ≡ true) (sym f.high) new_there) (λ j other. subst (λ l. is_there (with_cells h cell) l j ≡ false) (sym f.high) (others_not j other)) height (omega (arith, more, f.high))
  where
    file' : IsFile (with_cells h cell)
    file' = raised.file_after h cell level b file f

    up : height_in (with_cells h cell) ≡ suc (height_in h)
    up = omega (arith, raised.height_is h cell level b file f, f.high)

    new_placed : IsPlaced (with_cells h cell) b (suc level) (0 * span h.size (suc level))
    new_placed = (h.own, 0, f.part ∙ ap (λ n. Some (Pointed h.own 0 (suc level) n)) (nothing (span h.size (suc level))))
      where
        nothing : (n : ℕ) → 0 ≡ 0 * n
        nothing n = omega arith

    new_there : is_there (with_cells h cell) (suc level) 0 ≡ true
    new_there =
        let found = place_of_part (with_cells h cell) file' b (suc level) (0 * span h.size (suc level)) new_placed in
        let same : 0 ≡ found.0 = cancelled 0 found.0 (span h.size (suc level)) (span_some h.size (suc level) (size_large h.size file.block_size)) found.1 in
        there_true (with_cells h cell) (suc level) 0 (omega (arith, up, f.high)) (subst (λ n. n < places_on (with_cells h cell) (suc level)) (sym same) found.2)
        (λ none. f.some (sym found.3 ∙ ap (block_on (with_cells h cell) (suc level)) (sym same) ∙ none))

    others_not : (j : ℕ) → j ≢ 0 → is_there (with_cells h cell) (suc level) j ≡ false
    others_not j other = there_false (with_cells h cell) (suc level) j (λ low. elim (cases_eq (block_on (with_cells h cell) (suc level) j) 0) [
      | inl none ↦ none
      | inr some ↦
          let begin : j * span h.size (suc level) ≡ 0 = raised.only_first h cell level b file f _ _ (part_of_place (with_cells h cell) file' (suc level) j (omega (arith, up, f.high)) low some) in
          let same : j * span h.size (suc level) ≡ 0 * span h.size (suc level) = omega (arith, begin) in
          absurd (other (cancelled j 0 (span h.size (suc level)) (span_some h.size (suc level) (size_large h.size file.block_size)) same))
    ])

pub unstuffing_lowers_need : UnstuffingLowersNeed
unstuffing_lowers_need h cell b at end height file f more =
    below_more h cell at end up has (has_some (with_cells h cell) 0 (λ e. omega (arith, e, up)) (omega (arith, size_large h.size file.block_size)) (λ e. f.some (sym f.first ∙ e)))
    (λ l j low. absurd (omega (arith, low, f.stuffed)))
    (subst (λ l. is_there (with_cells h cell) l 0 ≡ true) (sym f.stuffed) new_there) (λ j other. subst (λ l. is_there (with_cells h cell) l j ≡ false) (sym f.stuffed) (others_not j other)) height (omega (arith, more, f.stuffed))
  where
    file' : IsFile (with_cells h cell)
    file' = unstuffed.file_after h cell b file f

    up : height_in (with_cells h cell) ≡ suc (height_in h)
    up = omega (arith, unstuffed.height_is h cell b file f, f.stuffed)

    has : has_content h ≡ true
    has = cond-true _ _ _ (eq-eqb (height_in h) 0 f.stuffed) ∙ ap not (ne_eqb (dinode_in h).size 0 f.content)

    new_there : is_there (with_cells h cell) 0 0 ≡ true
    new_there =
        let found = place_of_part (with_cells h cell) file' b 0 0 (h.own, 0, f.part) in
        let same : 0 ≡ found.0 = omega (arith, found.1) in
        there_true (with_cells h cell) 0 0 (omega (arith, up)) (subst (λ n. n < places_on (with_cells h cell) 0) (sym same) found.2)
        (λ none. f.some (sym found.3 ∙ ap (block_on (with_cells h cell) 0) (sym same) ∙ none))

    others_not : (j : ℕ) → j ≢ 0 → is_there (with_cells h cell) 0 j ≡ false
    others_not j other = there_false (with_cells h cell) 0 j (λ low. elim (cases_eq (block_on (with_cells h cell) 0 j) 0) [
      | inl none ↦ none
      | inr some ↦
          let placed = part_of_place (with_cells h cell) file' 0 j (omega (arith, up)) low some in
          let begin : j * 1 ≡ 0 = same_first (unstuffed.only_new h cell b file f _ _ _ _ _ placed.2).1 in
          absurd (other (omega (arith, begin)))
    ])
