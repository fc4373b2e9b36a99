-- How many places of a level a write needs blocks at.
use Rattle.std.proofs.Common.{◌≡◌, ◌≢◌, ◌⊎◌, inl, inr, Bool, true, false, cond, ℕ, zero, suc, ◌+◌, ◌-◌, ◌*◌, ◌<◌, ◌≤◌, max, refl, sym, ap, subst, ◌∙◌, arith}
use Rattle.std.proofs.lemmas.Bool.{cases_eq, cases_lt, cases_Bool, cond-false, eq-eqb, ne_eqb, le-ltb}
use Rattle.std.proofs.lemmas.List.Sums.{sum_by-cons}
use Rattle.std.specs.Prelude.{◌↔◌, ◌==◌, ◌&&◌, ◌||◌, not, nat_lt, if◌then◌else◌, count_by, IsTrue}
use Rattle.std.specs.List.{range_with_len}
use Rattle.gfs2_layout.specs.Holding.{Holding}
use Rattle.gfs2_layout.specs.Inode.{height_in, fan, span, pointer, pieces}
use Rattle.gfs2_layout.specs.Structures.{dinode_length}
use Rattle.growth_laws.specs.Files.{block_on, places_on}
use Rattle.growth_laws.specs.Need.{has_content, is_over, is_there, is_needed, needed_on}
use Rattle.growth_laws.proofs.Counting.{count_same, count_more, count_some}
use Rattle.growth_laws.proofs.Needing.{on_way, place_in_range}

-- ---- counting in a window

abbrev one_if : Bool → ℕ
one_if b = cond b 1 0

step_of : (p : ℕ → Bool) (a n : ℕ) → count_by p (range_with_len a (suc n)) ≡ one_if (p a) + count_by p (range_with_len (a + 1) n)
step_of p a n = sum_by-cons (λ x. one_if (p x)) a (range_with_len (a + 1) n)

pub count_none : (p : ℕ → Bool) (a n : ℕ) → ((x : ℕ) → a ≤ x → x < a + n → p x ≡ false) → count_by p (range_with_len a n) ≡ 0
count_none p a zero none = refl
count_none p a (suc n) none =
    let rest = count_none p (a + 1) n (λ x low high. none x (omega (arith, low)) (omega (arith, high))) in
    let head : one_if (p a) ≡ 0 = ap one_if (none a (omega arith) (omega arith)) in
    omega (arith, step_of p a n, rest, head)

pub count_all : (p : ℕ → Bool) (a n : ℕ) → ((x : ℕ) → a ≤ x → x < a + n → p x ≡ true) → count_by p (range_with_len a n) ≡ n
count_all p a zero all = refl
count_all p a (suc n) all =
    let rest = count_all p (a + 1) n (λ x low high. all x (omega (arith, low)) (omega (arith, high))) in
    let head : one_if (p a) ≡ 1 = ap one_if (all a (omega arith) (omega arith)) in
    omega (arith, step_of p a n, rest, head)

-- one more at the end
pub count_last : (p : ℕ → Bool) (a n : ℕ) → count_by p (range_with_len a (n + 1)) ≡ count_by p (range_with_len a n) + one_if (p (a + n))
count_last p a zero =
    let one : zero + 1 ≡ suc zero = omega arith in
    let same : a + zero ≡ a = omega arith in
    omega (arith, ap (λ m. count_by p (range_with_len a m)) one, step_of p a zero, ap (λ m. one_if (p m)) same)
count_last p a (suc n) =
    let one : suc n + 1 ≡ suc (n + 1) = omega arith in
    let same : a + 1 + n ≡ a + suc n = omega arith in
    omega (arith, ap (λ m. count_by p (range_with_len a m)) one, step_of p a (n + 1), count_last p (a + 1) n, step_of p a n, ap (λ m. one_if (p m)) same)

without_front : (p : ℕ → Bool) (a d n : ℕ) → ((x : ℕ) → a ≤ x → x < a + d → p x ≡ false) → count_by p (range_with_len a (d + n)) ≡ count_by p (range_with_len (a + d) n)
without_front p a zero n none =
    let left : zero + n ≡ n = omega arith in
    let right : a ≡ a + zero = omega arith in
    (λ i. count_by p (range_with_len (right i) (left i)))
without_front p a (suc d) n none =
    let head : one_if (p a) ≡ 0 = ap one_if (none a (omega arith) (omega arith)) in
    let shape : suc d + n ≡ suc (d + n) = omega arith in
    let place : a + 1 + d ≡ a + suc d = omega arith in
    let rest = without_front p (a + 1) d n (λ x low high. none x (omega (arith, low)) (omega (arith, high))) in
    omega (arith, ap (λ m. count_by p (range_with_len a m)) shape, step_of p a (d + n), head, rest, ap (λ m. count_by p (range_with_len m n)) place)

without_back : (p : ℕ → Bool) (a m n : ℕ) → ((x : ℕ) → a + m ≤ x → x < a + m + n → p x ≡ false) → count_by p (range_with_len a (m + n)) ≡ count_by p (range_with_len a m)
without_back p a zero n none =
    let left : zero + n ≡ n = omega arith in
    ap (λ k. count_by p (range_with_len a k)) left ∙ count_none p a n (λ x low high. none x (omega (arith, low)) (omega (arith, high)))
without_back p a (suc m) n none =
    let shape : suc m + n ≡ suc (m + n) = omega arith in
    let rest = without_back p (a + 1) m n (λ x low high. none x (omega (arith, low)) (omega (arith, high))) in
    omega (arith, ap (λ k. count_by p (range_with_len a k)) shape, step_of p a (m + n), rest, step_of p a m)

-- a test that passes nothing outside of a window counts what is in it
pub count_window : (p : ℕ → Bool) (first until n : ℕ) → first ≤ until → ((x : ℕ) → first ≤ x → x < until → x < n) → ((x : ℕ) → (x < first) ⊎ (until ≤ x) → p x ≡ false)
    → count_by p (range_with_len 0 n) ≡ count_by p (range_with_len first (until - first))
count_window p first until n order inside none = elim (cases_lt first until) [
  | inl some ↦
      let last : until - 1 < n = inside (until - 1) (omega (arith, some)) (omega (arith, some)) in
      let shape : n ≡ first + (until - first + (n - until)) = omega (arith, last, some) in
      let start : 0 + first ≡ first = omega arith in
      ap (λ m. count_by p (range_with_len 0 m)) shape
      ∙ without_front p 0 first (until - first + (n - until)) (λ x low high. none x (inl (omega (arith, high))))
      ∙ ap (λ m. count_by p (range_with_len m (until - first + (n - until)))) start
      ∙ without_back p first (until - first) (n - until) (λ x low high. none x (inr (omega (arith, low, some))))
  | inr empty ↦
      let zero_long : until - first ≡ 0 = omega (arith, empty) in
      count_none p 0 n (λ x low high. none x (outside x empty (cases_lt x first))) ∙ sym (ap (λ m. count_by p (range_with_len first m)) zero_long)
]
  where
    outside : (x : ℕ) → until ≤ first → (x < first) ⊎ (first ≤ x) → (x < first) ⊎ (until ≤ x)
    outside x empty (inl before) = inl before
    outside x empty (inr behind) = inr (let far : until ≤ x = omega (arith, behind, empty) in far)

-- ---- the places of a level

module _ (h : Holding) (at end level first until : ℕ) (large : 512 ≤ h.size) (order : first ≤ until)
    (over : (j : ℕ) → (is_over h.size at end level j ≡ true) ↔ ((first ≤ j) × (j < until))) where
  not_over : (x : ℕ) → (x < first) ⊎ (until ≤ x) → is_over h.size at end level x ≡ false
  not_over x outside = elim (cases_Bool (is_over h.size at end level x)) [
    | inl holds ↦ absurd (far outside ((over x).0 holds))
    | inr fails ↦ fails
  ]
    where
      far : (x < first) ⊎ (until ≤ x) → (first ≤ x) × (x < until) → ⊥
      far (inl before) inside = omega (arith, before, inside.0)
      far (inr behind) inside = omega (arith, behind, inside.1)

  in_range : (x : ℕ) → first ≤ x → x < until → x < max 1 (pieces end (span h.size level * h.size))
  in_range x low high = place_in_range h.size at end level x large ((over x).1 (low, high))

  -- of a level that is there
  pub needed_there : level < height_in h → count_by (λ j. not (is_there h level j)) (range_with_len first (until - first)) ≡ needed_on h at end level
  needed_there low =
      count_same (is_needed h at end level) (λ j. not (is_there h level j)) first (until - first)
      (λ x from to. sym (ap (λ (b : Bool). b && not (is_there h level x)) (on_way h at end level x low ∙ (over x).1 (from, omega (arith, to, order)))))
      ∙ sym (count_window (is_needed h at end level) first until (max 1 (pieces end (span h.size level * h.size))) order in_range
      (λ x outside. ap (λ (b : Bool). b && not (is_there h level x)) (on_way h at end level x low ∙ not_over x outside)))

  -- of a new one: each place over the bytes
  over_count : count_by (is_over h.size at end level) (range_with_len 0 (max 1 (pieces end (span h.size level * h.size)))) ≡ until - first
  over_count =
      count_window (is_over h.size at end level) first until (max 1 (pieces end (span h.size level * h.size))) order in_range not_over
      ∙ count_all (is_over h.size at end level) first (until - first) (λ x from to. (over x).1 (from, omega (arith, to, order)))

  none_there : height_in h ≤ level → (x : ℕ) → is_there h level x ≡ false
  none_there high x = ap (λ (b : Bool). b && nat_lt x (places_on h level) && not (block_on h level x == 0)) (le-ltb level (height_in h) high)

  is_new : height_in h ≤ level → (x : ℕ) → is_needed h at end level x ≡ (is_over h.size at end level x || (x == 0 && has_content h))
  is_new high x =
      (λ i. (is_over h.size at end level x || (not (le-ltb level (height_in h) high i) && x == 0 && has_content h)) && not (none_there high x i))
      ∙ and_true (is_over h.size at end level x || (x == 0 && has_content h))
    where
      and_true : (b : Bool) → (b && true) ≡ b
      and_true true = refl
      and_true false = refl

  pub needed_new : height_in h ≤ level → (has_content h ≡ false) ⊎ ((first ≡ 0) × (0 < until)) → until - first ≡ needed_on h at end level
  needed_new high plain =
      sym over_count ∙ count_same (is_needed h at end level) (is_over h.size at end level) 0 (max 1 (pieces end (span h.size level * h.size))) (λ x from to. same x plain)
    where
      or_false : (b c : Bool) → (b || (c && false)) ≡ b
      or_false true true = refl
      or_false true false = refl
      or_false false true = refl
      or_false false false = refl

      same : (x : ℕ) → (has_content h ≡ false) ⊎ ((first ≡ 0) × (0 < until)) → is_over h.size at end level x ≡ is_needed h at end level x
      same x (inl none) = sym (is_new high x ∙ ap (λ c. is_over h.size at end level x || (x == 0 && c)) none ∙ or_false (is_over h.size at end level x) (x == 0))
      same x (inr covered) = elim (cases_eq x 0) [
        | inl e ↦
            let covers : is_over h.size at end level x ≡ true = (over x).1 (omega (arith, covered.0), omega (arith, covered.1, e)) in
            covers ∙ sym (is_new high x ∙ ap (λ b. b || (x == 0 && has_content h)) covers)
        | inr other ↦
            sym (is_new high x ∙ ap (λ b. is_over h.size at end level x || (b && has_content h)) (ne_eqb x 0 other) ∙ or_false (is_over h.size at end level x) false)
      ]

  pub needed_more : height_in h ≤ level → has_content h ≡ true → (until ≡ 0) ⊎ (0 < first) → until - first + 1 ≡ needed_on h at end level
  needed_more high content far =
      sym (count_more (is_over h.size at end level) (is_needed h at end level) 0 0 (max 1 (pieces end (span h.size level * h.size))) (omega arith) (omega arith)
      (not_over 0 (outside far)) (is_new high 0 ∙ (λ i. not_over 0 (outside far) i || (0 == 0 && content i)))
      (λ x other. is_new high x ∙ ap (λ b. is_over h.size at end level x || (b && has_content h)) (ne_eqb x 0 other) ∙ or_false (is_over h.size at end level x))
      ∙ ap (λ n. n + 1) over_count)
    where
      outside : (until ≡ 0) ⊎ (0 < first) → (0 < first) ⊎ (until ≤ 0)
      outside (inl none) = inr (let low : until ≤ 0 = omega (arith, none) in low)
      outside (inr before) = inl before

      or_false : (b : Bool) → (b || false) ≡ b
      or_false true = refl
      or_false false = refl

-- ---- content that goes along

pub pointers_go_along : (h : Holding) (found : Bool) → height_in h ≢ 0 → IsTrue found ↔ ((k : ℕ) × (k < fan h.size dinode_length) × (pointer h dinode_length h.own k ≢ 0)) → found ≡ has_content h
pointers_go_along h found high led = elim (cases_Bool found) [
  | inl holds ↦
      let there = led.0 (subst IsTrue (sym holds) refl) in
      let some : count_by passes (range_with_len 0 (fan h.size dinode_length)) ≢ 0
      = count_some passes there.0 0 (fan h.size dinode_length) (omega arith) (omega (arith, there.1)) (ap not (ne_eqb (pointer h dinode_length h.own there.0) 0 there.2)) in
      holds ∙ sym (as_counted ∙ ap not (ne_eqb (count_by passes (range_with_len 0 (fan h.size dinode_length))) 0 some))
  | inr fails ↦
      let none : count_by passes (range_with_len 0 (fan h.size dinode_length)) ≡ 0
      = count_none passes 0 (fan h.size dinode_length) (λ x low less. ap not (nowhere fails x (omega (arith, less)))) in
      fails ∙ sym (as_counted ∙ ap not (eq-eqb (count_by passes (range_with_len 0 (fan h.size dinode_length))) 0 none))
]
  where
    passes : ℕ → Bool
    passes k = not (pointer h dinode_length h.own k == 0)

    as_counted : has_content h ≡ not (count_by passes (range_with_len 0 (fan h.size dinode_length)) == 0)
    as_counted = cond-false _ _ _ (ne_eqb (height_in h) 0 high)

    nowhere : found ≡ false → (x : ℕ) → x < fan h.size dinode_length → (pointer h dinode_length h.own x == 0) ≡ true
    nowhere fails x less = elim (cases_eq (pointer h dinode_length h.own x) 0) [
      | inl none ↦ eq-eqb (pointer h dinode_length h.own x) 0 none
      | inr some ↦ let wrong : IsTrue false = subst IsTrue fails (led.1 (x, less, some)) in grind arith
    ]

-- ---- one place more

pub at_most_one : (b : Bool) → (if b then 1 else 0) ≤ 1
at_most_one true = omega arith
at_most_one false = omega arith

pub lacking_more : (h : Holding) (level first place lacking result : ℕ) (lacks : Bool) → first ≤ place → lacking ≡ count_by (λ j. not (is_there h level j)) (range_with_len first (place - first))
    → lacks ≡ not (is_there h level place) → result ≡ lacking + (if lacks then 1 else 0) → result ≡ count_by (λ j. not (is_there h level j)) (range_with_len first (place + 1 - first))
lacking_more h level first place lacking result lacks low so_far is more =
    let next : place - first + 1 ≡ place + 1 - first = omega (arith, low) in
    let here : place ≡ first + (place - first) = omega (arith, low) in
    more ∙ (λ i. so_far i + one_if ((is ∙ ap (λ n. not (is_there h level n)) here) i)) ∙ sym (count_last (λ j. not (is_there h level j)) first (place - first))
    ∙ ap (λ n. count_by (λ j. not (is_there h level j)) (range_with_len first n)) next
