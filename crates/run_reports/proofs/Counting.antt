-- How many of the numbers from one on pass a test.
use Rattle.std.proofs.Common.{◌≡◌, ℕ, zero, suc, ◌+◌, ◌≤◌, [], ◌∷◌, Bool, true, false, cond, ap, refl, ◌∙◌, lit≤, arith}
use Rattle.std.specs.Prelude.{count_by, if◌then◌else◌}
use Rattle.std.specs.List.{range_with_len}
use Rattle.std.proofs.lemmas.List.Sums.{sum_by-cons}
use mir.Val.{bool_byte}

sums : (all fewer first rest more last : ℕ) → all ≡ first + more → fewer ≡ first + rest → more ≡ rest + last → all ≡ fewer + last
sums all fewer first rest more last all_is fewer_is more_is = omega (arith, all_is, fewer_is, more_is)

alone : (all first last : ℕ) → all ≡ first + 0 → first ≡ last → all ≡ 0 + last
alone all first last all_is is = omega (arith, all_is, is)

-- one number more
pub count_more : (test : ℕ → Bool) (a n j : ℕ) → a + n ≡ j → count_by test (range_with_len a (suc n)) ≡ count_by test (range_with_len a n) + cond (test j) 1 0
count_more test a zero j is =
    alone (count_by test (a ∷ [])) (cond (test a) 1 0) (cond (test j) 1 0) (sum_by-cons (λ y. cond (test y) 1 0) a []) (ap (λ (k : ℕ). cond (test k) 1 0) (omega (arith, is)))
count_more test a (suc n) j is =
    sums (count_by test (range_with_len a (suc (suc n)))) (count_by test (range_with_len a (suc n))) (cond (test a) 1 0) (count_by test (range_with_len (a + 1) n))
    (count_by test (range_with_len (a + 1) (suc n))) (cond (test j) 1 0)
    (sum_by-cons (λ y. cond (test y) 1 0) a (range_with_len (a + 1) (suc n))) (sum_by-cons (λ y. cond (test y) 1 0) a (range_with_len (a + 1) n))
    (count_more test (a + 1) n j (omega (arith, is)))

-- ---- a test as a number

byte_is : (b : Bool) → bool_byte b ≡ cond b 1 0
byte_is true = refl
byte_is false = refl

one_of : (b : Bool) → bool_byte b ≡ (if b then 1 else 0)
one_of true = refl
one_of false = refl

few_of : (b : Bool) → bool_byte b ≤ 1
few_of true = lit≤ tt
few_of false = lit≤ tt

pub few : (b : Bool) (n : ℕ) → n ≡ bool_byte b → n ≤ 1
few b n is = omega (arith, is, few_of b)

-- one more is counted, or none
pub counted_one : (test : ℕ → Bool) (a n j so_far one : ℕ) (b : Bool) → so_far ≡ count_by test (range_with_len a n) → one ≡ bool_byte b → b ≡ test j → a + n ≡ j → so_far + one ≡ count_by test (range_with_len a (n + 1))
counted_one test a n j so_far one b so_far_is one_is test_is place =
    let last : one ≡ cond (test j) 1 0 = one_is ∙ byte_is b ∙ ap (λ (t : Bool). cond t 1 0) test_is in
    let more = count_more test a n j place in
    let next : suc n ≡ n + 1 = omega arith in
    omega (arith, so_far_is, last, more) ∙ ap (λ (k : ℕ). count_by test (range_with_len a k)) next

pub added : (lost one all rest : ℕ) (b : Bool) → lost ≡ rest → one ≡ bool_byte b → all ≡ (if b then 1 else 0) + rest → lost + one ≡ all
added lost one all rest b lost_is one_is all_is =
    let last : one ≡ (if b then 1 else 0) = one_is ∙ one_of b in
    omega (arith, lost_is, last, all_is)
