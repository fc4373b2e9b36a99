-- Places round a ring, and sizes, by arithmetic.
use Rattle.std.proofs.Common.{◌≡◌, ℕ, zero, suc, ◌+◌, ◌-◌, ◌/◌, ◌<◌, ◌≤◌, sym, ap, ◌∙◌, inl, inr, arith}
use Rattle.std.proofs.Math.Nat.{div-le_self}
use Rattle.std.specs.Prelude.{nat_lt, if◌then◌else◌}
use Rattle.std.proofs.lemmas.Bool.{cases_Bool, cond-true, cond-false}
use Rattle.std.proofs.lemmas.Bool.Decides.{nat_tests}
use Rattle.std.specs.Prelude.{List, length, filter, map, not}
use Rattle.drafts.specs.declared.change.Written.{Written}
use Rattle.log_layout.specs.Chunks.{Logged}
use Rattle.log_layout.specs.Journal.{next}
use Rattle.journal_scan.specs.Said.{logged}
use Rattle.node_journal.specs.Places.{place_on}

next_inside : (places p : ℕ) → p + 1 < places → next places p ≡ p + 1
next_inside places p h = grind (arith, nat_tests, h)

next_last : (places p : ℕ) → places ≤ p + 1 → next places p ≡ 0
next_last places p h = grind (arith, nat_tests, h)

ahead : (places p n : ℕ) → p + n < places → place_on places p n ≡ p + n
ahead places p zero h = omega arith
ahead places p (suc n) h = ap (λ q. place_on places q n) (next_inside places p (omega (arith, h))) ∙ ahead places (p + 1) n (omega (arith, h)) ∙ (let e : (p + 1) + n ≡ p + suc n = omega arith in e)

wrapped : (places p n : ℕ) → p < places → places ≤ p + n → n ≤ places → place_on places p n + places ≡ p + n
wrapped places p zero inside past few = absurd (omega (arith, inside, past))
wrapped places p (suc n) inside past few = elim (cases_Bool (nat_lt (p + 1) places)) [
  | inl more ↦
      let less : p + 1 < places = grind (arith, nat_tests, more) in
      ap (λ q. place_on places q n + places) (next_inside places p less) ∙ wrapped places (p + 1) n less (omega (arith, past)) (omega (arith, few)) ∙ (let e : (p + 1) + n ≡ p + suc n = omega arith in e)
  | inr last ↦
      let all : places ≤ p + 1 = grind (arith, nat_tests, last) in
      let from_0 : place_on places 0 n ≡ 0 + n = ahead places 0 n (omega (arith, few)) in
      ap (λ q. place_on places q n + places) (next_last places p all) ∙ ap (λ q. q + places) from_0 ∙ (let e : (0 + n) + places ≡ p + suc n = omega (arith, inside, all) in e)
]

pub around : (places p n : ℕ) → p < places → n < places → place_on places p n ≡ (if nat_lt n (places - p) then p + n else n - (places - p))
around places p n inside few = elim (cases_Bool (nat_lt n (places - p))) [
  | inl less ↦
      let h : p + n < places = grind (arith, nat_tests, less) in
      ahead places p n h ∙ sym (cond-true _ _ _ less)
  | inr not ↦
      let h : places ≤ p + n = grind (arith, nat_tests, not) in
      let e = wrapped places p n inside h (omega (arith, few)) in
      (let d : place_on places p n ≡ n - (places - p) = omega (arith, e, inside, h) in d) ∙ sym (cond-false _ _ _ not)
]

pub division_is_less : (n k : ℕ) → n / k ≤ n
division_is_less n k = div-le_self n k

-- so many of these blocks are content of files
pub record IsCounted (blocks : List Written) (count : ℕ) : Type 0 where
  pub content : count ≡ length (filter (λ (e : Logged). e.plain) (map logged blocks))
  pub both : count + length (filter (λ (e : Logged). not e.plain) (map logged blocks)) ≡ length blocks
