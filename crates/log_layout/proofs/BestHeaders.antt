-- The head of a journal, found from its first place on.
use Rattle.std.proofs.Common.{◌≡◌, ◌≢◌, ℕ, zero, suc, ◌+◌, ◌<◌, ◌≤◌, List, Option, None, Some, Result, Ok, Err, refl, sym, ap, ◌∙◌, ◌⊎◌, inl, inr, arith}
use Rattle.std.specs.Prelude.{◌==◌, nat_lt}
use Rattle.std.proofs.lemmas.Bool.{cases_Bool, cond-true, cond-false, eq-eqb, eqb-true, ne_eqb}
use Rattle.std.proofs.lemmas.Bool.Decides.{nat_tests}
use Rattle.gfs2_layout.specs.declared.fault.LayoutFault.{LayoutFault}
use Rattle.log_layout.specs.Headers.{log_read}
use Rattle.log_layout.specs.Journal.{Ring, if_at, accepted, better, best_from, head_in}
use Rattle.log_layout.specs.declared.log_header.LogHeader.{LogHeader}

better_none : (x : Option LogHeader) → better x None ≡ x
better_none None = refl
better_none (Some h) = refl

better_two : (g h i : LogHeader) → better (better (Some g) (Some h)) (Some i) ≡ better (Some g) (better (Some h) (Some i))
better_two g h i = grind (arith, nat_tests)

better_better : (x y z : Option LogHeader) → better (better x y) z ≡ better x (better y z)
better_better None y z = refl
better_better (Some g) None z = refl
better_better (Some g) (Some h) None = better_none (better (Some g) (Some h))
better_better (Some g) (Some h) (Some i) = better_two g h i

-- one more place
pub best_more : (ring : Ring) (p n : ℕ) → best_from ring p (suc n) ≡ better (best_from ring p n) (accepted (p + n) (ring.at (p + n)))
best_more ring p zero = better_none (accepted p (ring.at p)) ∙ ap (λ q. accepted q (ring.at q)) (let e : p ≡ p + 0 = omega arith in e)
best_more ring p (suc n) =
    let next : (p + 1) + n ≡ p + suc n = omega arith in
    ap (better (accepted p (ring.at p))) (best_more ring (p + 1) n ∙ ap (λ q. better (best_from ring (p + 1) n) (accepted q (ring.at q))) next)
    ∙ sym (better_better (accepted p (ring.at p)) (best_from ring (p + 1) n) (accepted (p + suc n) (ring.at (p + suc n))))

pub best_same : (r s : Ring) (p n : ℕ) → ((q : ℕ) → p ≤ q → q < p + n → r.at q ≡ s.at q) → best_from r p n ≡ best_from s p n
best_same r s p zero same = refl
best_same r s p (suc n) same =
    ap (λ bytes. better (accepted p bytes) (best_from r (p + 1) n)) (same p (omega arith) (omega arith))
    ∙ ap (better (accepted p (s.at p))) (best_same r s (p + 1) n (λ q low high. same q (omega (arith, low)) (omega (arith, high))))

-- ---- the header at one place

pub accepted_there : (place : ℕ) (bytes : List ℕ) (header : LogHeader) → Ok header ≡ log_read bytes → header.blkno ≡ place → Some header ≡ accepted place bytes
unfolding accepted
accepted_there place bytes header read at = sym (cond-true _ (Some header) None (eq-eqb header.blkno place at)) ∙ ap (if_at place) read

pub accepted_elsewhere : (place : ℕ) (bytes : List ℕ) (header : LogHeader) → Ok header ≡ log_read bytes → header.blkno ≢ place → None ≡ accepted place bytes
unfolding accepted
accepted_elsewhere place bytes header read off = sym (cond-false _ (Some header) None (ne_eqb header.blkno place off)) ∙ ap (if_at place) read

pub accepted_none : (place : ℕ) (bytes : List ℕ) (fault : LayoutFault) → Err fault ≡ log_read bytes → None ≡ accepted place bytes
unfolding accepted
accepted_none place bytes fault read = ap (if_at place) read

some_same : {A : Type 0} {x y : A} → ◌≡◌ {A = Option A} (Some x) (Some y) → x ≡ y
some_same e = cc

read_tells : (place : ℕ) (h : LogHeader) (r : Result LogHeader LayoutFault) → if_at place r ≡ Some h → h.blkno ≡ place
read_tells place h (Err f) e = cc
read_tells place h (Ok g) e = elim (cases_Bool (g.blkno == place)) [
  | inl is ↦ let same : g ≡ h = some_same (sym (cond-true _ (Some g) None is) ∙ e) in ap (λ (x : LogHeader). x.blkno) (sym same) ∙ eqb-true g.blkno place is
  | inr off ↦ let no : None ≡ Some h = sym (cond-false _ (Some g) None off) ∙ e in cc
]

-- what is accepted at a place tells that place
pub accepted_tells : (place : ℕ) (bytes : List ℕ) (h : LogHeader) → accepted place bytes ≡ Some h → h.blkno ≡ place
unfolding accepted
accepted_tells place bytes h e = read_tells place h (log_read bytes) e

-- the better of two is one of them
either : (x y : Option LogHeader) (h : LogHeader) → better x y ≡ Some h → (x ≡ Some h) ⊎ (y ≡ Some h)
either None y h e = inr e
either (Some g) None h e = inl e
either (Some f) (Some g) h e = elim (cases_Bool (nat_lt f.sequence g.sequence)) [
  | inl less ↦ inr (sym (cond-true _ (Some g) (Some f) less) ∙ e)
  | inr not ↦ inl (sym (cond-false _ (Some g) (Some f) not) ∙ e)
]

-- the best header of some places is accepted at one of them
best_there : (ring : Ring) (p n : ℕ) (h : LogHeader) → best_from ring p n ≡ Some h → (q : ℕ) × (p ≤ q) × (q < p + n) × (accepted q (ring.at q) ≡ Some h)
best_there ring p zero h e = cc
best_there ring p (suc n) h e = elim (either (accepted p (ring.at p)) (best_from ring (p + 1) n) h e) [
  | inl here ↦ (p, omega arith, omega arith, here)
  | inr later ↦ let more = best_there ring (p + 1) n h later in (more.0, omega (arith, more.1), omega (arith, more.2), more.3)
]

pub head_there : (ring : Ring) (h : LogHeader) → head_in ring ≡ Some h → (h.blkno < ring.places) × (accepted h.blkno (ring.at h.blkno) ≡ Some h)
unfolding head_in
head_there ring h e =
    let there = best_there ring 0 ring.places h e in
    let tells : h.blkno ≡ there.0 = accepted_tells there.0 (ring.at there.0) h there.3 in
    (omega (arith, tells, there.2), ap (λ q. accepted q (ring.at q)) tells ∙ there.3)
