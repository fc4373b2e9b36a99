-- A ring with blocks that were written round it.
use Rattle.std.proofs.Common.{◌≡◌, ◌≢◌, ◌⊎◌, ◌+◌, ◌-◌, ◌<◌, ◌≤◌, ◌++◌, ℕ, zero, suc, true, false, List, [], ◌∷◌, length, get_or, refl, sym, ap, ◌∙◌, inl, inr, arith}
use Rattle.std.specs.Prelude.{◌==◌, nat_le, nat_lt, if◌then◌else◌}
use Rattle.std.proofs.lemmas.Bool.{cases_lt, cond-true, cond-false, eq-eqb, ne_eqb}
use Rattle.std.proofs.lemmas.Bool.Decides.{nat_tests}
use Rattle.log_layout.specs.Journal.{Placed, Ring, blocks_from, next, way}
use Rattle.node_journal.specs.Places.{place_on, placed_from}
use Rattle.node_journal.proofs.Arounds.{around}
use Rattle.written_journals.specs.Saying.{block_at, with_blocks}

-- ---- places

pub place_further : (places p m n : ℕ) → place_on places (place_on places p m) n ≡ place_on places p (m + n)
place_further places p zero n = ap (place_on places p) (let e : n ≡ 0 + n = omega arith in e)
place_further places p (suc m) n = place_further places (next places p) m n ∙ ap (place_on places p) (let e : suc (m + n) ≡ suc m + n = omega arith in e)

-- before the ring's end, or past it
on_is : (places p n : ℕ) → p < places → n < places → ((p + n < places) × (place_on places p n ≡ p + n)) ⊎ ((places ≤ p + n) × (place_on places p n + places ≡ p + n))
on_is places p n inside few = elim (cases_lt n (places - p)) [
  | inl less ↦ inl (omega (arith, less), around places p n inside few ∙ cond-true _ _ _ (let t : nat_lt n (places - p) ≡ true = grind (arith, nat_tests, less) in t))
  | inr past ↦
      let e : place_on places p n ≡ n - (places - p) = around places p n inside few ∙ cond-false _ _ _ (let t : nat_lt n (places - p) ≡ false = grind (arith, nat_tests, past) in t) in
      inr (omega (arith, past), omega (arith, e, past, inside))
]

pub on_inside : (places p n : ℕ) → p < places → n < places → place_on places p n < places
on_inside places p n inside few = elim (on_is places p n inside few) [
  | inl a ↦ omega (arith, a.0, a.1)
  | inr a ↦ omega (arith, a.0, a.1, inside, few)
]

-- fewer than all places are all different
pub on_apart : (places p m n : ℕ) → p < places → m < places → n < places → place_on places p m ≡ place_on places p n → m ≡ n
on_apart places p m n inside few less same = elim (on_is places p m inside few) [
  | inl a ↦ elim (on_is places p n inside less) [
    | inl b ↦ omega (arith, a.1, b.1, same)
    | inr b ↦ omega (arith, a.0, a.1, b.0, b.1, same, few, less, inside)
  ]
  | inr a ↦ elim (on_is places p n inside less) [
    | inl b ↦ omega (arith, a.0, a.1, b.0, b.1, same, few, less, inside)
    | inr b ↦ omega (arith, a.1, b.1, same)
  ]
]

pub way_back : (places p n : ℕ) → p < places → n < places → way places p (place_on places p n) ≡ n
way_back places p n inside few = elim (on_is places p n inside few) [
  | inl a ↦
      cond-true _ _ _ (let t : nat_le p (place_on places p n) ≡ true = grind (arith, nat_tests, a.1) in t)
      ∙ (let e : place_on places p n - p ≡ n = omega (arith, a.1) in e)
  | inr a ↦
      let less : place_on places p n < p = omega (arith, a.1, few) in
      cond-false _ _ _ (let t : nat_le p (place_on places p n) ≡ false = grind (arith, nat_tests, less) in t)
      ∙ (let e : (place_on places p n + places) - p ≡ n = omega (arith, a.1) in e)
]

-- each place is so many places on
pub way_on : (places p q : ℕ) → p < places → q < places → place_on places p (way places p q) ≡ q
way_on places p q inside there = elim (cases_lt q p) [
  | inl before ↦
      let n = (q + places) - p in
      let is : way places p q ≡ n = cond-false (nat_le p q) (q - p) n (let t : nat_le p q ≡ false = grind (arith, nat_tests, before) in t) in
      ap (place_on places p) is ∙ elim (on_is places p n inside (omega (arith, before, inside))) [
        | inl a ↦ absurd (omega (arith, a.0, before, inside))
        | inr a ↦ (let e : place_on places p n ≡ q = omega (arith, a.1, before, inside) in e)
      ]
  | inr behind ↦
      let n = q - p in
      let is : way places p q ≡ n = cond-true (nat_le p q) n ((q + places) - p) (let t : nat_le p q ≡ true = grind (arith, nat_tests, behind) in t) in
      ap (place_on places p) is ∙ elim (on_is places p n inside (omega (arith, there))) [
        | inl a ↦ (let e : place_on places p n ≡ q = omega (arith, a.1, behind) in e)
        | inr a ↦ absurd (omega (arith, a.0, behind, there))
      ]
]

pub next_of : (places p n : ℕ) → next places (place_on places p n) ≡ place_on places p (n + 1)
next_of places p n = place_further places p n 1

-- ---- what stands at a place

pub untouched : (places p : ℕ) (bs : List (List ℕ)) (q : ℕ) (old : List ℕ) → ((i : ℕ) → i < length bs → place_on places p i ≢ q) → block_at (placed_from places p bs) q old ≡ old
untouched places p [] q old other = refl
untouched places p (b ∷ bs) q old other =
    untouched places (next places p) bs q (if p == q then b else old) (λ i less. other (suc i) (omega (arith, less)))
    ∙ cond-false _ b old (ne_eqb p q (other 0 (omega arith)))

pub touched : (places p : ℕ) (bs : List (List ℕ)) (i : ℕ) (d old : List ℕ) → p < places → length bs ≤ places → i < length bs → block_at (placed_from places p bs) (place_on places p i) old ≡ get_or bs i d
touched places p [] i d old inside few less = absurd (omega (arith, less))
touched places p (b ∷ bs) zero d old inside few less =
    untouched places (next places p) bs p (if p == p then b else old)
    (λ j h e. let bad : suc j ≡ 0 = on_apart places p (suc j) 0 inside (omega (arith, h, few)) (omega (arith, few)) e in omega (arith, bad))
    ∙ cond-true _ b old (eq-eqb p p refl)
touched places p (b ∷ bs) (suc i) d old inside few less =
    touched places (next places p) bs i d (if p == place_on places p (suc i) then b else old) (let h : next places p < places = on_inside places p 1 inside (omega (arith, few, less)) in h) (omega (arith, few)) (omega (arith, less))

-- ---- blocks round the ring

pub blocks_further : (ring : Ring) (p m n : ℕ) → blocks_from ring p (m + n) ≡ blocks_from ring p m ++ blocks_from ring (place_on ring.places p m) n
blocks_further ring p zero n = ap (blocks_from ring p) (let e : 0 + n ≡ n = omega arith in e)
blocks_further ring p (suc m) n =
    ap (blocks_from ring p) (let e : suc m + n ≡ suc (m + n) = omega arith in e)
    ∙ ap (λ (bs : List Placed). record { place = p; bytes = ring.at p } ∷ bs) (blocks_further ring (next ring.places p) m n)

pub blocks_same : (r s : Ring) (q n : ℕ) → r.places ≡ s.places → ((i : ℕ) → i < n → r.at (place_on r.places q i) ≡ s.at (place_on r.places q i)) → blocks_from r q n ≡ blocks_from s q n
blocks_same r s q zero places same = refl
blocks_same r s q (suc n) places same =
    (λ j. record { place = q; bytes = same 0 (omega arith) j } ∷ blocks_from r (next r.places q) n)
    ∙ ap (λ (bs : List Placed). record { place = q; bytes = s.at q } ∷ bs) (blocks_same r s (next r.places q) n places (λ i less. same (suc i) (omega (arith, less))))
    ∙ ap (λ k. record { place = q; bytes = s.at q } ∷ blocks_from s (next k q) n) places

pub blocks_are : (ring : Ring) (q : ℕ) (bs : List (List ℕ)) → ((i : ℕ) (d : List ℕ) → i < length bs → ring.at (place_on ring.places q i) ≡ get_or bs i d) → blocks_from ring q (length bs) ≡ placed_from ring.places q bs
blocks_are ring q [] are = refl
blocks_are ring q (b ∷ bs) are =
    λ j. record { place = q; bytes = are 0 b (omega arith) j } ∷ blocks_are ring (next ring.places q) bs (λ i d less. are (suc i) d (omega (arith, less))) j

-- Behind so many places from the tail on blocks were written, with a place left: there stand those before, and then these.
pub ring_written : (ring : Ring) (tail count : ℕ) (bs : List (List ℕ)) → tail < ring.places → count + length bs < ring.places
    → blocks_from (with_blocks ring (placed_from ring.places (place_on ring.places tail count) bs)) tail (count + length bs)
    ≡ blocks_from ring tail count ++ placed_from ring.places (place_on ring.places tail count) bs
ring_written ring tail count bs inside few =
    let places = ring.places in
    let first = place_on places tail count in
    let new = with_blocks ring (placed_from places first bs) in
    let first_in : first < places = on_inside places tail count inside (omega (arith, few)) in
    let before = blocks_same new ring tail count refl
    (λ i less. untouched places first bs (place_on places tail i) (ring.at (place_on places tail i))
    (λ j h e. let same : count + j ≡ i = on_apart places tail (count + j) i inside (omega (arith, few, h)) (omega (arith, few, less)) (sym (place_further places tail count j) ∙ e) in omega (arith, same, less))) in
    let behind = blocks_are new first bs (λ i d less. touched places first bs i d (ring.at (place_on places first i)) first_in (omega (arith, few)) less) in
    blocks_further new tail count (length bs) ∙ (λ j. before j ++ behind j)
