-- How many leaves the directory of journals has.
use Rattle.std.proofs.Common.{ℕ, ◌≡◌, ◌≤◌, Bool, true, false, refl, sym, ◌∙◌, arith}
use Rattle.std.specs.Prelude.{◌==◌, ◌&&◌, nat_lt, if◌then◌else◌}
use Rattle.std.proofs.lemmas.Bool.{cond-true, cond-false, eqb-true, true≢false}
use Rattle.std.proofs.lemmas.Bool.Decides.{nat_tests}
use Rattle.mkgfs2_tool.specs.Order.{has_hashed_journals, is_split, leaf_count, journal_leaves}
use Rattle.mkgfs2_tool.specs.declared.plan.Plan.{Plan}

by_tests : (P : ℕ → Type 0) (h s : Bool) → P 0 → P 1 → P 2 → P (if h then (if s then 2 else 1) else 0)
by_tests P true true z o t = t
by_tests P true false z o t = o
by_tests P false s z o t = z

pub leaves_few : (size journals : ℕ) → leaf_count size journals ≤ 2
unfolding leaf_count
leaves_few size journals = by_tests (λ n. n ≤ 2) (size == 512 && nat_lt 3 journals) (nat_lt 6 journals) (omega arith) (omega arith) (omega arith)

pub leaves_none : (p : Plan) → has_hashed_journals p ≡ false → journal_leaves p ≡ 0
unfolding leaf_count
leaves_none p linear = cond-false _ _ _ linear

pub leaves_whole : (p : Plan) → has_hashed_journals p ≡ true → is_split p ≡ false → journal_leaves p ≡ 1
unfolding leaf_count
leaves_whole p hashed whole = cond-true _ _ _ hashed ∙ cond-false _ _ _ whole

pub leaves_split : (p : Plan) → has_hashed_journals p ≡ true → is_split p ≡ true → journal_leaves p ≡ 2
unfolding leaf_count
leaves_split p hashed split = cond-true _ _ _ hashed ∙ cond-true _ _ _ split

-- a hashed one has blocks of 512 bytes
pub hashed_size : (p : Plan) → has_hashed_journals p ≡ true → p.size ≡ 512
hashed_size p hashed = eqb-true p.size 512 (first (p.size == 512) (nat_lt 3 p.journals) hashed)
  where
    first : (a b : Bool) → (a && b) ≡ true → a ≡ true
    first true b e = refl
    first false b e = e

-- and four journals at least
pub hashed_more : (p : Plan) → has_hashed_journals p ≡ true → 4 ≤ p.journals
hashed_more p hashed = from p.journals (last (p.size == 512) (nat_lt 3 p.journals) hashed)
  where
    last : (a b : Bool) → (a && b) ≡ true → b ≡ true
    last true b e = e
    last false b e = absurd (true≢false (sym e))

    from : (n : ℕ) → nat_lt 3 n ≡ true → 4 ≤ n
    from n e = grind (arith, nat_tests)
