-- What a write needs once a hole on its way is filled.
use Rattle.std.proofs.Common.{◌≡◌, ◌≢◌, ℕ, zero, suc, ◌+◌, ◌-◌, ◌*◌, ◌/◌, ◌<◌, ◌≤◌, max, inl, inr, Bool, true, false, Option, refl, sym, ap, ap₂, subst, ◌∙◌, arith}
use Rattle.std.proofs.lemmas.Bool.{cases_eq, cases_lt, ne_eqb, lt-ltb, le-ltb}
use Rattle.std.proofs.lemmas.Nat.{div-mul-add}
use Rattle.std.proofs.Math.Nat.{one-le-mul}
use Rattle.std.specs.Prelude.{◌==◌, ◌&&◌, ◌||◌, not, nat_lt}
use Rattle.gfs2_layout.specs.Holding.{Cell, Holding}
use Rattle.gfs2_layout.specs.Inode.{height_in, fan, span, pieces}
use Rattle.gfs2_layout.specs.Structures.{dinode_length}
use Rattle.gfs2_layout.specs.declared.dinode.Dinode.{Dinode}
use Rattle.dinode_tree.proofs.Ranges.{piece_within}
use Rattle.dinode_tree.proofs.Spans.{span_some}
use Rattle.growth_laws.specs.Files.{IsFile, with_cells, places_on, block_on}
use Rattle.growth_laws.specs.Need.{has_content, is_there, is_over, is_on_way, is_needed, needed_on, needed_below}
use Rattle.growth_laws.specs.Steps.{IsFilled}
use Rattle.growth_laws.specs.Laws.{FillsLowerNeed}
use Rattle.growth_laws.proofs.Counting.{count_same, count_more}
use Rattle.growth_laws.proofs.Fills.{other_place, that_place}
use Rattle.growth_laws.proofs.Places.{size_large, cancelled, place_of_pointer, pointer_low}

or_false : (b : Bool) → (b || false) ≡ b
or_false true = refl
or_false false = refl

pub and_false : (a b c : Bool) → b ≡ false → (a && b && c) ≡ false
and_false true true c e = let both : true ≡ false = e in absurd (cc)
and_false true false c e = refl
and_false false b c e = refl

-- on a level that is there, the places on the way are those over the write's bytes
pub on_way : (h : Holding) (at end l j : ℕ) → l < height_in h → is_on_way h at end l j ≡ is_over h.size at end l j
on_way h at end l j less =
    let is : nat_lt l (height_in h) ≡ true = lt-ltb l (height_in h) less in
    ap (λ b. is_over h.size at end l j || (not b && j == 0 && has_content h)) is ∙ or_false (is_over h.size at end l j)

-- a place over the bytes of a write begins before its end
pub place_in_range : (size at end level j : ℕ) → 512 ≤ size → is_over size at end level j ≡ true → j < max 1 (pieces end (span size level * size))
place_in_range size at end level j large over =
    let each = span size level * size in
    let some : 1 ≤ span size level * size = one-le-mul (span_some size level large) (omega (arith, large)) in
    let begins : j * each < end = omega (arith, begin_of (nat_lt at end) (j * span size level * size) end (nat_lt at ((j + 1) * span size level * size)) over) in
    let quotient : (j * each + 0) / each ≡ j = div-mul-add j each 0 (omega (arith, some)) in
    let within : j * each / each < pieces end each = piece_within (j * each) end each (omega (arith, some)) begins in
    let same : j * each + 0 ≡ j * each = omega arith in
    omega (arith, within, ap (λ n. n / each) same, quotient)
  where
    begin_of : (a : Bool) (m n : ℕ) (c : Bool) → (a && nat_lt m n && c) ≡ true → m < n
    begin_of a m n c e = elim (cases_lt m n) [
      | inl less ↦ less
      | inr far ↦ let both : true ≡ false = sym e ∙ and_false a (nat_lt m n) c (le-ltb m n far) in absurd (cc)
    ]

module _ (h : Holding) (cell : ℕ → Option Cell) (from k level first b at end j : ℕ) (file : IsFile h) (f : IsFilled h cell from k level first b)
    (first_is : first ≡ j * span h.size level) (over : is_over h.size at end level j ≡ true) where
  height_same : height_in (with_cells h cell) ≡ height_in h
  height_same = ap (λ (d : Dinode). d.height) f.dinode

  places_same : (l : ℕ) → places_on (with_cells h cell) l ≡ places_on h l
  places_same l = ap (λ n. fan h.size dinode_length * span h.size (n - 1 - l)) height_same

  large : 512 ≤ h.size
  large = size_large h.size file.block_size

  level_low : level < height_in h
  level_low = pointer_low h file 0 from k level first f.hole

  there_same : (l i : ℕ) → l < height_in h → (l ≡ level → i ≢ j) → is_there (with_cells h cell) l i ≡ is_there h l i
  there_same l i less apart = elim (cases_lt i (places_on h l)) [
    | inl low ↦
        let same : block_on (with_cells h cell) l i ≡ block_on h l i = other_place h cell from k level first b file f l i less low (λ e is. apart e (index e is)) in
        (λ t. nat_lt l (height_same t) && nat_lt i (places_same l t) && not (same t == 0))
    | inr far ↦
        let past : nat_lt i (places_on h l) ≡ false = le-ltb i (places_on h l) far in
        let past' : nat_lt i (places_on (with_cells h cell) l) ≡ false = ap (nat_lt i) (places_same l) ∙ past in
        and_false (nat_lt l (height_in (with_cells h cell))) _ (not (block_on (with_cells h cell) l i == 0)) past' ∙ sym (and_false (nat_lt l (height_in h)) _ (not (block_on h l i == 0)) past)
  ]
    where
      index : l ≡ level → i * span h.size l ≡ first → i ≡ j
      index e is = cancelled i j (span h.size l) (span_some h.size l large) (is ∙ first_is ∙ ap (λ n. j * span h.size n) (sym e))

  needed_same : (l i : ℕ) → l < height_in h → (l ≡ level → i ≢ j) → is_needed (with_cells h cell) at end l i ≡ is_needed h at end l i
  needed_same l i less apart =
      ap₂ (λ (a : Bool) (b : Bool). a && not b) (on_way (with_cells h cell) at end l i (omega (arith, less, height_same)) ∙ sym (on_way h at end l i less)) (there_same l i less apart)

  on_other : (l : ℕ) → l < height_in h → l ≢ level → needed_on (with_cells h cell) at end l ≡ needed_on h at end l
  on_other l less other =
      count_same (is_needed h at end l) (is_needed (with_cells h cell) at end l) 0 (max 1 (pieces end (span h.size l * h.size))) (λ i low high. needed_same l i less (λ e. absurd (other e)))

  -- ---- on the level of the hole

  low_place : j < places_on h level
  low_place = elim (cases_lt j (places_on h level)) [ inl low ↦ low | inr far ↦ absurd (past far) ]
    where
      past : places_on h level ≤ j → ⊥
      past far =
          let found = place_of_pointer h file 0 from k level first f.hole in
          let same : j ≡ found.0 = cancelled j found.0 (span h.size level) (span_some h.size level large) (sym first_is ∙ found.1) in
          omega (arith, far, same, found.2)

  was_needed : is_needed h at end level j ≡ true
  was_needed =
      let blocks = that_place h cell from k level first b file f level j level_low low_place refl (sym first_is) in
      let none : is_there h level j ≡ false = ap (λ n. nat_lt level (height_in h) && nat_lt j (places_on h level) && not (n == 0)) blocks.0 ∙ and_last (nat_lt level (height_in h) && nat_lt j (places_on h level)) in
      ap₂ (λ (a : Bool) (c : Bool). a && not c) (on_way h at end level j level_low ∙ over) none
    where
      and_last : (a : Bool) → (a && false) ≡ false
      and_last true = refl
      and_last false = refl

  is_not_needed : is_needed (with_cells h cell) at end level j ≡ false
  is_not_needed =
      let blocks = that_place h cell from k level first b file f level j level_low low_place refl (sym first_is) in
      let low : nat_lt level (height_in (with_cells h cell)) ≡ true = lt-ltb level _ (omega (arith, level_low, height_same)) in
      let near : nat_lt j (places_on (with_cells h cell) level) ≡ true = lt-ltb j _ (omega (arith, low_place, places_same level)) in
      let some : (block_on (with_cells h cell) level j == 0) ≡ false = ne_eqb _ 0 (λ e. f.some (sym blocks.1 ∙ e)) in
      let there : is_there (with_cells h cell) level j ≡ true = (λ t. low t && near t && not (some t)) in
      ap₂ (λ (a : Bool) (c : Bool). a && not c) (on_way (with_cells h cell) at end level j (omega (arith, level_low, height_same)) ∙ over) there

  in_range : j < max 1 (pieces end (span h.size level * h.size))
  in_range = place_in_range h.size at end level j large over

  on_that : needed_on h at end level ≡ needed_on (with_cells h cell) at end level + 1
  on_that =
      count_more (is_needed (with_cells h cell) at end level) (is_needed h at end level) j 0 (max 1 (pieces end (span h.size level * h.size))) (omega arith) (omega (arith, in_range)) is_not_needed was_needed
      (λ i apart. sym (needed_same level i level_low (λ e. apart)))

  -- ---- on all levels

  below_same : (n : ℕ) → n ≤ level → needed_below (with_cells h cell) at end n ≡ needed_below h at end n
  below_same zero low = refl
  below_same (suc n) low = ap₂ ◌+◌ (on_other n (omega (arith, low, level_low)) (λ e. omega (arith, low, e))) (below_same n (omega (arith, low)))

  pub below_more : (n : ℕ) → level < n → n ≤ height_in h → needed_below h at end n ≡ needed_below (with_cells h cell) at end n + 1
  below_more zero high low = absurd (omega (arith, high))
  below_more (suc n) high low = elim (cases_eq n level) [
    | inl e ↦
        let here : needed_on h at end n ≡ needed_on (with_cells h cell) at end n + 1 = subst (λ l. needed_on h at end l ≡ needed_on (with_cells h cell) at end l + 1) (sym e) on_that in
        omega (arith, here, below_same n (omega (arith, e)))
    | inr apart ↦ omega (arith, on_other n (omega (arith, low)) apart, below_more n (omega (arith, high, apart)) (omega (arith, low)))
  ]

pub fills_lower_need : FillsLowerNeed
fills_lower_need h cell from k level first b at end j file f first_is over =
    below_more h cell from k level first b at end j file f first_is over (height_in h) (pointer_low h file 0 from k level first f.hole) (omega arith)
