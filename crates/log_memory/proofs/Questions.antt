-- What a log's lists tell of whether anything is to be done.
use Rattle.std.proofs.Common.{◌≡◌, ◌≢◌, ℕ, suc, ◌<◌, Bool, true, false, not, List, [], ◌∷◌, length, refl, sym, ap, ◌∙◌, true≢false, ltb, arith}
use Rattle.std.proofs.lemmas.Bool.{lt-ltb, ltb-true}
use Rattle.std.specs.Ordering.{nat_cmp}
use Rattle.std.specs.FinMap as table
use Rattle.log_tables.specs.Kept.{away_count, is_home}
use Rattle.log_tables.proofs.Counting.{one, passing_without}
use Rattle.log_values.specs.Log.{Entry, LogValue, Way}
use Rattle.log_tables.specs.Versions.Way.{Home, Away, Flying}
use Rattle.log_values.specs.Flushing.{AllAreHome, NothingIsLive}

some_listed : {A : Type 0} (xs : List A) → 0 < length xs → xs ≡ [] → ⊥
some_listed [] some none = omega arith
some_listed (x ∷ xs) some none = absurd (more (ap length none))
  where
    more : suc (length xs) ≡ 0 → ⊥
    more e = omega arith

none_listed : {A : Type 0} (xs : List A) → (xs ≡ [] → ⊥) → 0 < length xs
none_listed [] some = absurd (some refl)
none_listed (x ∷ xs) some = omega arith

-- a count of a list tells whether it has any
pub count_tells : {A : Type 0} (xs : List A) (n : ℕ) → n ≡ length xs → (ltb 0 n ≡ true → xs ≢ []) × (xs ≢ [] → ltb 0 n ≡ true)
count_tells xs n count =
    (λ yes. some_listed xs (let some = ltb-true 0 n yes in omega arith), λ some. lt-ltb 0 n (let more = none_listed xs some in omega arith))

-- ---- live blocks

pub nothing_live : (log : LogValue) → table.len log.live ≡ 0 → NothingIsLive log
nothing_live log none = table.empty_of_len log.live none

pub live_none : (log : LogValue) → NothingIsLive log → table.len log.live ≡ 0
live_none log none = ap (λ (m : table.FinMap nat_cmp Entry). table.len m) none ∙ table.len-empty nat_cmp Entry

home_way : (w : Way) → is_home w ≡ true → w ≡ Home
home_way Home e = refl
home_way (Away bytes) e = absurd (true≢false (sym e))
home_way (Flying bytes) e = absurd (true≢false (sym e))

abbrev away : Entry → Bool
away e = not (is_home e.way)

pub all_home : (log : LogValue) → away_count log.live ≡ 0 → AllAreHome log
all_home log none b e at = by (is_home e.way) refl
  where
    by : (h : Bool) → is_home e.way ≡ h → e.way ≡ Home
    by true is = home_way e.way is
    by false is = absurd (let counted = passing_without away log.live b e at in let one_is = ap (λ h. one (not h)) is in omega arith)
