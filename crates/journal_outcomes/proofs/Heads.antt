-- The head of a journal among its accepted headers, ties included.
use Rattle.std.proofs.Common.{◌≡◌, ℕ, zero, suc, ◌+◌, ◌<◌, ◌≤◌, Option, None, Some, refl, sym, ap, ap₂, ◌∙◌, inl, inr, arith}
use Rattle.std.specs.Prelude.{nat_lt}
use Rattle.std.proofs.lemmas.Bool.{cases_Bool, cases_lt, cond-true, cond-false}
use Rattle.std.proofs.lemmas.Bool.Decides.{nat_tests}
use Rattle.log_layout.specs.Journal.{Ring, accepted, best_from, better, head_in}
use Rattle.log_layout.specs.declared.log_header.LogHeader.{LogHeader}
use Rattle.log_layout.proofs.BestHeaders.{accepted_tells, head_there}
use Rattle.written_journals.proofs.HeadWritten.{head_upper}

pub some_is : {A : Type 0} {x y : A} → ◌≡◌ {A = Option A} (Some x) (Some y) → x ≡ y
some_is e = cc

pub none_is : {A : Type 0} {x : A} → ◌≡◌ {A = Option A} None (Some x) → ⊥
none_is e = cc

sequence_of : {g h : LogHeader} → g ≡ h → g.sequence ≡ h.sequence
sequence_of e = ap (λ (x : LogHeader). x.sequence) e

-- what is accepted before the best of some places is of less sequence
before_best : (ring : Ring) (p n r : ℕ) (best h : LogHeader) → best_from ring p n ≡ Some best → p ≤ r → r < p + n → accepted r (ring.at r) ≡ Some h → r < best.blkno → h.sequence < best.sequence
before_best ring p zero r best h is low high here before = absurd (omega (arith, low, high))
before_best ring p (suc n) r best h is low high here before =
    each (λ e less. before_best ring (p + 1) n r best h e (omega (arith, less)) (omega (arith, high)) here before) (accepted p (ring.at p)) refl (best_from ring (p + 1) n) refl
  where
    at_first : (x : Option LogHeader) → accepted p (ring.at p) ≡ x → r ≡ p → x ≡ Some h
    at_first x ex e = sym ex ∙ ap (λ q. accepted q (ring.at q)) (sym e) ∙ here

    each : (best_from ring (p + 1) n ≡ Some best → p < r → h.sequence < best.sequence) → (x : Option LogHeader) → accepted p (ring.at p) ≡ x → (y : Option LogHeader) → best_from ring (p + 1) n ≡ y
        → h.sequence < best.sequence
    each more None ex y ey = elim (cases_lt p r) [
      | inl less ↦ more (ey ∙ (let e : y ≡ Some best = ap₂ better (sym ex) (sym ey) ∙ is in e)) less
      | inr at ↦ absurd (none_is (at_first None ex (omega (arith, low, at))))
    ]
    each more (Some a) ex None ey =
        let same : a ≡ best = some_is (ap₂ better (sym ex) (sym ey) ∙ is) in
        let there : best.blkno ≡ p = ap (λ (x : LogHeader). x.blkno) (sym same) ∙ accepted_tells p (ring.at p) a ex in
        absurd (omega (arith, low, before, there))
    each more (Some a) ex (Some b) ey = elim (cases_Bool (nat_lt a.sequence b.sequence)) [
      | inl t ↦
          let same : b ≡ best = some_is (sym (cond-true _ (Some b) (Some a) t) ∙ ap₂ better (sym ex) (sym ey) ∙ is) in
          let less : a.sequence < b.sequence = grind (arith, nat_tests, t) in
          elim (cases_lt p r) [
            | inl later ↦ more (ey ∙ ap Some same) later
            | inr at ↦
                let first : a ≡ h = some_is (at_first (Some a) ex (omega (arith, low, at))) in
                omega (arith, less, sequence_of first, sequence_of same)
          ]
      | inr t ↦
          let same : a ≡ best = some_is (sym (cond-false _ (Some b) (Some a) t) ∙ ap₂ better (sym ex) (sym ey) ∙ is) in
          let there : best.blkno ≡ p = ap (λ (x : LogHeader). x.blkno) (sym same) ∙ accepted_tells p (ring.at p) a ex in
          absurd (omega (arith, low, before, there))
    ]

-- a header at this place is behind another one: of no higher sequence, and before it of a lower one
pub record IsBehind (r : ℕ) (h best : LogHeader) : Type 0 where
  pub most : h.sequence ≤ best.sequence
  pub first : r < best.blkno → h.sequence < best.sequence

pub behind_head : (ring : Ring) (head : LogHeader) → head_in ring ≡ Some head → (r : ℕ) (h : LogHeader) → r < ring.places → accepted r (ring.at r) ≡ Some h → IsBehind r h head
unfolding head_in
behind_head ring head headed r h inside here =
    let best = head_upper ring r h inside here in
    let same = sequence_of (some_is (sym best.1 ∙ headed)) in
    record {
      most = omega (arith, best.2, same);
      first = λ before. before_best ring 0 ring.places r head h headed (omega arith) (omega (arith, inside)) here before;
    }

-- one behind which all others are is the head
pub head_is_first : (ring : Ring) (head : LogHeader) → head.blkno < ring.places → accepted head.blkno (ring.at head.blkno) ≡ Some head
    → ((r : ℕ) (h : LogHeader) → r < ring.places → accepted r (ring.at r) ≡ Some h → IsBehind r h head) → head_in ring ≡ Some head
head_is_first ring head inside is others =
    let best = head_upper ring head.blkno head inside is in
    let g = best.0 in
    let there = head_there ring g best.1 in
    let behind = others g.blkno g there.0 there.1 in
    let back = behind_head ring g best.1 head.blkno head inside is in
    let same : g.blkno ≡ head.blkno = elim (cases_lt g.blkno head.blkno) [
      | inl less ↦ absurd (let low = behind.first less in omega (arith, low, best.2))
      | inr not ↦ elim (cases_lt head.blkno g.blkno) [
        | inl less ↦ absurd (let low = back.first less in omega (arith, low, behind.most))
        | inr not' ↦ omega (arith, not, not')
      ]
    ] in
    best.1 ∙ sym there.1 ∙ ap (λ q. accepted q (ring.at q)) same ∙ is
