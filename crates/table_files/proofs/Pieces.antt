-- How many pieces it takes, and counts of numbers that pass a test.
use Rattle.std.proofs.Common.{◌≡◌, ◌≢◌, ℕ, zero, suc, ◌+◌, ◌-◌, ◌*◌, ◌/◌, ◌<◌, ◌≤◌, inl, inr, Bool, true, false, not, refl, sym, ap, ◌∙◌, subst, arith}
use Rattle.std.specs.Prelude.{◌==◌, ◌&&◌, count_by}
use Rattle.std.specs.List.{range_with_len}
use Rattle.std.proofs.lemmas.Bool.{cases_Bool, cases_eq, cases_lt, eq-eqb, ne_eqb}
use Rattle.std.proofs.Math.Nat.{div-lt_iff_lt-mul, mul-le-mul_right, one-le-mul}
use Rattle.gfs2_layout.specs.Inode.{pieces}
use Rattle.growth_laws.proofs.Counting.{count_more, one_if, step_of}
use Rattle.table_growth.proofs.Counted.{count_none}

-- ---- pieces

-- the pieces are those that begin before the end
pub piece_begins : (n each j : ℕ) → 0 < each → j < pieces n each → j * each < n
piece_begins n each j some low = elim (cases_lt (j * each) n) [
  | inl before ↦ before
  | inr behind ↦
      let less : (n + each - 1) / each < j + 1 = (div-lt_iff_lt-mul {k = each} {x = n + each - 1} {y = j + 1} some).1 (omega (arith, behind, some)) in
      absurd (omega (arith, less, low))
]

pub begins_piece : (n each j : ℕ) → 0 < each → j * each < n → j < pieces n each
begins_piece n each j some low = elim (cases_lt j (pieces n each)) [
  | inl before ↦ before
  | inr behind ↦
      let less : (n + each - 1) / each < j + 1 = omega (arith, behind) in
      let far : n + each - 1 < (j + 1) * each = (div-lt_iff_lt-mul {k = each} {x = n + each - 1} {y = j + 1} some).0 less in
      absurd (omega (arith, far, low))
]

-- numbers below which the same numbers stand
pub same_below : (a b : ℕ) → ((j : ℕ) → j < a → j < b) → ((j : ℕ) → j < b → j < a) → a ≡ b
same_below a b to from = elim (cases_lt a b) [
  | inl less ↦ let never = from a less in absurd (omega (arith, never))
  | inr more ↦ elim (cases_lt b a) [
    | inl less ↦ let never = to b less in absurd (omega (arith, never))
    | inr same ↦ omega (arith, more, same)
  ]
]

pub scaled_below : (a b s : ℕ) → 0 < s → a * s < b * s → a < b
scaled_below a b s some less = elim (cases_lt a b) [
  | inl before ↦ before
  | inr behind ↦ let more : b * s ≤ a * s = mul-le-mul_right s behind in absurd (omega (arith, more, less))
]

pub below_scaled : (a b s : ℕ) → 0 < s → a < b → a * s < b * s
below_scaled a b s some less =
    let more : suc a * s ≤ b * s = mul-le-mul_right s less in
    let next : suc a * s ≡ a * s + s = omega arith in
    omega (arith, more, next, some)

-- both counted in units of s
pub pieces_scaled : (n each s : ℕ) → 0 < s → 0 < each → pieces (n * s) (each * s) ≡ pieces n each
pieces_scaled n each s some pos =
    let grouped : (j : ℕ) → j * (each * s) ≡ j * each * s = λ j. omega arith in
    let wide : 0 < each * s = omega (arith, one-le-mul {a = each} {b = s} pos some) in
    same_below (pieces (n * s) (each * s)) (pieces n each)
    (λ j low. begins_piece n each j pos (scaled_below (j * each) n s some (subst (λ m. m < n * s) (grouped j) (piece_begins (n * s) (each * s) j wide low))))
    (λ j low. begins_piece (n * s) (each * s) j wide (subst (λ m. m < n * s) (sym (grouped j)) (below_scaled (j * each) n s some (piece_begins n each j pos low))))

-- whole pieces
pub whole_pieces : (n each : ℕ) → 0 < each → pieces (n * each) each ≡ n
whole_pieces n each some = same_below (pieces (n * each) each) n
    (λ j low. scaled_below j n each some (piece_begins (n * each) each j some low))
    (λ j low. begins_piece (n * each) each j some (below_scaled j n each some low))

pub more_pieces : (n m each : ℕ) → 0 < each → n ≤ m → pieces n each ≤ pieces m each
more_pieces n m each some less = elim (cases_lt (pieces m each) (pieces n each)) [
  | inl before ↦
      let begins = piece_begins n each (pieces m each) some before in
      let never = begins_piece m each (pieces m each) some (let it : pieces m each * each < m = omega (arith, begins, less) in it) in
      absurd (omega (arith, never))
  | inr behind ↦ behind
]

-- ---- counts

-- no more pass than there are
pub count_most : (p : ℕ → Bool) (a n : ℕ) → count_by p (range_with_len a n) ≤ n
count_most p a zero = omega arith
count_most p a (suc n) = let rest = count_most p (a + 1) n in let one = at_most (p a) in omega (arith, step_of p a n, rest, one)
  where
    at_most : (b : Bool) → one_if b ≤ 1
    at_most true = omega arith
    at_most false = omega arith

-- a test that passes what one of two passes that don't pass the same
pub count_both : (p q r : ℕ → Bool) (a n : ℕ) → ((x : ℕ) → one_if (r x) ≡ one_if (p x) + one_if (q x)) → count_by r (range_with_len a n) ≡ count_by p (range_with_len a n) + count_by q (range_with_len a n)
count_both p q r a zero is = refl
count_both p q r a (suc n) is =
    let rest = count_both p q r (a + 1) n is in
    let head = is a in
    omega (arith, step_of p a n, step_of q a n, step_of r a n, rest, head)

pub false_else : (b : Bool) → (b ≡ true → ⊥) → b ≡ false
false_else b never = elim (cases_Bool b) [ inl holds ↦ absurd (never holds) | inr fails ↦ fails ]

both_left : (a b : Bool) → (a && b) ≡ true → a ≡ true
both_left true b e = refl
both_left false b e = e

both_right : (a b : Bool) → (a && b) ≡ true → b ≡ true
both_right true b e = e
both_right false b e = let never : false ≡ true = e in absurd (cc)

-- the test, but for this number
abbrev without : (ℕ → Bool) → ℕ → ℕ → Bool
without p m b = p b && not (b == m)

-- What passes is at the places below m, a different one at each: so there are m of them.
pub count_places : (m : ℕ) (p : ℕ → Bool) (n : ℕ) (at : ℕ → ℕ) → ((j : ℕ) → j < m → (at j < n) × (p (at j) ≡ true)) → ((i j : ℕ) → i < m → j < m → at i ≡ at j → i ≡ j)
    → ((b : ℕ) → b < n → p b ≡ true → (j : ℕ) × (j < m) × (at j ≡ b)) → count_by p (range_with_len 0 n) ≡ m
count_places zero p n at each once all = count_none p 0 n (λ x low high. false_else (p x) (λ passes. let found = all x (omega (arith, high)) passes in omega (arith, found.1)))
count_places (suc m) p n at each once all =
    let here = each m (omega arith) in
    let gone : without p (at m) (at m) ≡ false = ap (λ t. p (at m) && not t) (eq-eqb (at m) (at m) refl) ∙ and_false (p (at m)) in
    let more = count_more (without p (at m)) p (at m) 0 n (omega arith) (omega (arith, here.0)) gone here.1 (λ x other. sym (ap (λ t. p x && not t) (ne_eqb x (at m) other) ∙ and_true (p x))) in
    more ∙ ap (λ c. c + 1) (count_places m (without p (at m)) n at each' (λ i j low low'. once i j (omega (arith, low)) (omega (arith, low'))) all') ∙ add_one m
  where
    and_false : (b : Bool) → (b && not true) ≡ false
    and_false true = refl
    and_false false = refl

    and_true : (b : Bool) → (b && not false) ≡ b
    and_true true = refl
    and_true false = refl

    add_one : (k : ℕ) → k + 1 ≡ suc k
    add_one k = omega arith

    each' : (j : ℕ) → j < m → (at j < n) × (without p (at m) (at j) ≡ true)
    each' j low =
        let is = each j (omega (arith, low)) in
        let other : at j ≢ at m = λ e. let same = once j m (omega (arith, low)) (omega arith) e in absurd (omega (arith, same, low)) in
        (is.0, ap (λ t. p (at j) && not t) (ne_eqb (at j) (at m) other) ∙ and_true (p (at j)) ∙ is.1)

    all' : (b : ℕ) → b < n → without p (at m) b ≡ true → (j : ℕ) × (j < m) × (at j ≡ b)
    all' b low passes = elim (cases_eq b (at m)) [
      | inl e ↦ let never : true ≡ false = sym passes ∙ ap (λ t. p b && not t) (eq-eqb b (at m) e) ∙ and_false (p b) in absurd (cc)
      | inr other ↦
          let found = all b low (both_left (p b) (not (b == at m)) passes) in
          elim (cases_eq found.0 m) [
            | inl last ↦ absurd (other (sym found.2 ∙ ap at last))
            | inr less ↦ (found.0, omega (arith, found.1, less), found.2)
          ]
    ]
