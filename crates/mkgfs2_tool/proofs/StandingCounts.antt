-- How many numbers pass a test.
use Rattle.std.proofs.Common.{ℕ, zero, suc, ◌≡◌, ◌+◌, ◌<◌, inl, inr, Bool, true, false, List, [], ◌∷◌, refl, sym, ap, ◌∙◌, subst, arith}
use Rattle.std.specs.Prelude.{◌==◌, ◌&&◌, not, count_by}
use Rattle.std.specs.List.{range_with_len}
use Rattle.std.proofs.lemmas.Bool.{cases_eq, cond-false, eq-eqb, ne_eqb, true≢false, false_from_ne_true}
use Rattle.std.proofs.lemmas.List.Sums.{sum_by-cons}
use Rattle.mkgfs2_tool.proofs.StandingLists.{one_if, count_split, one_there}

pub count_none : {X : Type 0} (test : X → Bool) (xs : List X) → ((x : X) → test x ≡ false) → count_by test xs ≡ 0
count_none test [] off = refl
count_none test (x ∷ xs) off = grind (arith, sum_by-cons (λ y. one_if (test y)) x xs, cond-false {A = ℕ} (test x) 1 0 (off x), count_none test xs off)

and_off : (a : Bool) → (a && not true) ≡ false
and_off true = refl
and_off false = refl

and_on : (a : Bool) → (a && not false) ≡ a
and_on true = refl
and_on false = refl

-- so many different numbers below a bound pass, and no other
pub count_images : (m total : ℕ) (f : ℕ → ℕ) (test : ℕ → Bool) → ((n : ℕ) → n < m → f n < total) → ((n k : ℕ) → n < m → k < m → f n ≡ f k → n ≡ k)
    → ((n : ℕ) → n < m → test (f n) ≡ true) → ((b : ℕ) → test b ≡ true → (n : ℕ) × (n < m) × (b ≡ f n)) → count_by test (range_with_len 0 total) ≡ m
count_images zero total f test low apart passes only = count_none test (range_with_len 0 total) (λ b. false_from_ne_true (test b) (λ e. absurd (omega (arith, (only b e).1))))
count_images (suc m) total f test low apart passes only =
    count_split test (λ b. b == f m) (λ b. test b && not (b == f m)) (range_with_len 0 total) split
    ∙ both (count_by (λ b. b == f m) (range_with_len 0 total)) (count_by (λ b. test b && not (b == f m)) (range_with_len 0 total))
    (one_there (f m) 0 total (omega arith) (omega (arith, low m (omega arith))))
    (count_images m total f (λ b. test b && not (b == f m)) (λ n less. low n (omega (arith, less))) (λ n k l l' e. apart n k (omega (arith, l)) (omega (arith, l')) e) passes' only')
  where
    both : (a b : ℕ) → a ≡ 1 → b ≡ m → a + b ≡ suc m
    both a b e g = omega (arith, e, g)

    one_so : (a : Bool) → a ≡ true → one_if a ≡ 1 + one_if (a && not true)
    one_so true e = refl
    one_so false e = absurd (true≢false (sym e))

    one_not : (a : Bool) → one_if a ≡ 0 + one_if (a && not false)
    one_not true = refl
    one_not false = refl

    split : (b : ℕ) → one_if (test b) ≡ one_if (b == f m) + one_if (test b && not (b == f m))
    split b = elim (cases_eq b (f m)) [
      | inl e ↦ subst (λ v. one_if (test b) ≡ one_if v + one_if (test b && not v)) (sym (eq-eqb b (f m) e)) (one_so (test b) (ap test e ∙ passes m (omega arith)))
      | inr d ↦ subst (λ v. one_if (test b) ≡ one_if v + one_if (test b && not v)) (sym (ne_eqb b (f m) d)) (one_not (test b))
    ]

    passes' : (n : ℕ) → n < m → (test (f n) && not (f n == f m)) ≡ true
    passes' n less =
        ap (λ v. test (f n) && not v) (ne_eqb (f n) (f m) (λ e. absurd (omega (arith, less, apart n m (omega (arith, less)) (omega arith) e)))) ∙ and_on (test (f n)) ∙ passes n (omega (arith, less))

    only' : (b : ℕ) → (test b && not (b == f m)) ≡ true → (n : ℕ) × (n < m) × (b ≡ f n)
    only' b e = elim (cases_eq b (f m)) [
      | inl same ↦ absurd (true≢false (sym e ∙ ap (λ v. test b && not v) (eq-eqb b (f m) same) ∙ and_off (test b)))
      | inr d ↦ found (only b (sym (and_on (test b)) ∙ ap (λ v. test b && not v) (sym (ne_eqb b (f m) d)) ∙ e)) d
    ]
      where
        found : (n : ℕ) × (n < suc m) × (b ≡ f n) → (b ≡ f m → ⊥) → (n : ℕ) × (n < m) × (b ≡ f n)
        found at d = elim (cases_eq at.0 m) [
          | inl last ↦ absurd (d (at.2 ∙ ap f last))
          | inr before ↦ (at.0, omega (arith, at.1, before), at.2)
        ]
