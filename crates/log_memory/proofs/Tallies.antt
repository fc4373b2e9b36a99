-- What isn't flushed, counted from the tables, and what one block more or less makes of it.
use Rattle.std.proofs.Common.{◌≡◌, ℕ, ◌+◌, ◌-◌, ◌≤◌, ◌&&◌, not, Bool, true, false, cond, List, [], ◌∷◌, length, map, filter, count_by, Option, None, Some, refl, sym, ap, ap₂, ◌∙◌, option_map, if◌then◌else◌, arith}
use Rattle.std.proofs.lemmas.Cmp.{nat_cmp_total}
use Rattle.std.proofs.lemmas.List.{length-map}
use Rattle.std.proofs.lemmas.List.Sums.{sum_by-cons}
use Rattle.std.specs.Ordering.{nat_cmp}
use Rattle.std.specs.FinMap as table
use Rattle.log_layout.specs.Chunks.{Logged}
use Rattle.log_tables.proofs.Counting.{gone, insert_removed, one, passing, passing_with, passing_without, remove_absent}
use Rattle.log_values.specs.Blocks as set
use Rattle.log_values.specs.Log.{LogValue, Version}
use Rattle.log_values.specs.Transactions.{logged_as}
use Rattle.log_values.proofs.Landing.{halves}
use Rattle.log_memory.specs.Adding.{IsAmong, counts_of, less, more}
use Rattle.log_memory.specs.declared.adding.Counts.{Counts}

abbrev pub Versions : Type 0
Versions = table.FinMap nat_cmp Version

abbrev pub plain_of : Version → Bool
plain_of v = v.plain

abbrev pub other_of : Version → Bool
other_of v = not v.plain

-- ---- from the tables

chosen : {B : Type 0} (b : Bool) (x : B) (xs : List B) → length (cond b (x ∷ xs) xs) ≡ one b + length xs
chosen true x xs = omega arith
chosen false x xs = omega arith

kept : {A B : Type 0} (p : B → Bool) (f : A → B) (xs : List A) → length (filter p (map f xs)) ≡ count_by (λ x. p (f x)) xs
kept p f [] = refl
kept p f (x ∷ xs) = chosen (p (f x)) (f x) (filter p (map f xs)) ∙ ap (λ n. one (p (f x)) + n) (kept p f xs) ∙ sym (sum_by-cons (λ y. one (p (f y))) x xs)

abbrev pub tally : Versions → set.Blocks → Counts
tally fresh gone = record { content = passing plain_of fresh; metadata = passing other_of fresh; revokes = table.len gone }

pub tally_is : (log : LogValue) → counts_of log ≡ tally log.fresh log.gone
tally_is log = λ i. record {
  content = kept (λ (e : Logged). e.plain) (λ (e : ℕ × Version). logged_as e.0 e.1) (table.entries log.fresh) i;
  metadata = kept (λ (e : Logged). not e.plain) (λ (e : ℕ × Version). logged_as e.0 e.1) (table.entries log.fresh) i;
  revokes = (length-map (table.entries log.gone) (λ (e : ℕ × Unit {0}). e.0) ∙ sym (table.len-entries log.gone)) i;
}

-- content and metadata are all
pub all_of : (m : Versions) → passing plain_of m + passing other_of m ≡ table.len m
all_of m =
    ap₂ (λ x y. x + y) (sym (kept (λ (e : Logged). e.plain) (λ (e : ℕ × Version). logged_as e.0 e.1) (table.entries m))) (sym (kept (λ (e : Logged). not e.plain) (λ (e : ℕ × Version). logged_as e.0 e.1) (table.entries m)))
    ∙ halves (λ (e : Logged). e.plain) (map (λ (e : ℕ × Version). logged_as e.0 e.1) (table.entries m)) ∙ length-map (table.entries m) (λ (e : ℕ × Version). logged_as e.0 e.1) ∙ sym (table.len-entries m)

pub content_within : (m : Versions) → passing plain_of m ≤ table.len m
content_within m = let all = all_of m in omega arith

-- ---- one block

abbrev pub change_at : Versions → ℕ → Option Bool
change_at m b = option_map (λ (v : Version). v.plain) (table.get m b)

pub among : (m : Versions) (s : set.Blocks) (b : ℕ) → IsAmong (change_at m b) (tally m s)
among m s b = by (table.get m b) refl
  where
    by_kind : (v : Version) (k : Bool) → v.plain ≡ k → passing plain_of m ≡ one v.plain + passing plain_of (table.remove m b) → passing other_of m ≡ one (not v.plain) + passing other_of (table.remove m b)
        → IsAmong (Some k) (tally m s)
    by_kind v true is p q = let one_is = ap one is in omega arith
    by_kind v false is p q = let one_is = ap (λ x. one (not x)) is in omega arith

    by : (o : Option Version) → table.get m b ≡ o → IsAmong (option_map (λ (v : Version). v.plain) o) (tally m s)
    by None at = tt
    by (Some v) at = by_kind v v.plain refl (passing_without plain_of m b v at) (passing_without other_of m b v at)

pub removed_tally : (m : Versions) (s : set.Blocks) (b : ℕ) → tally (table.remove m b) s ≡ less (change_at m b) (tally m s)
removed_tally m s b = by (table.get m b) refl
  where
    by_kind : (v : Version) (k : Bool) → v.plain ≡ k → passing plain_of m ≡ one v.plain + passing plain_of (table.remove m b) → passing other_of m ≡ one (not v.plain) + passing other_of (table.remove m b)
        → tally (table.remove m b) s ≡ less (Some k) (tally m s)
    by_kind v true is p q =
        let content : passing plain_of (table.remove m b) ≡ passing plain_of m - 1 = (let one_is = ap one is in omega arith) in
        let metadata : passing other_of (table.remove m b) ≡ passing other_of m = (let one_is = ap (λ x. one (not x)) is in omega arith) in
        λ i. record { content = content i; metadata = metadata i; revokes = table.len s }
    by_kind v false is p q =
        let content : passing plain_of (table.remove m b) ≡ passing plain_of m = (let one_is = ap one is in omega arith) in
        let metadata : passing other_of (table.remove m b) ≡ passing other_of m - 1 = (let one_is = ap (λ x. one (not x)) is in omega arith) in
        λ i. record { content = content i; metadata = metadata i; revokes = table.len s }

    by : (o : Option Version) → table.get m b ≡ o → tally (table.remove m b) s ≡ less (option_map (λ (v : Version). v.plain) o) (tally m s)
    by None at = ap (λ (n : Versions). tally n s) (remove_absent m b at)
    by (Some v) at = by_kind v v.plain refl (passing_without plain_of m b v at) (passing_without other_of m b v at)

put_tally : (m : Versions) (s : set.Blocks) (b : ℕ) (v : Version) → table.get m b ≡ None → tally (table.insert m b v) s ≡ more v.plain (tally m s)
put_tally m s b v none = by v.plain refl (passing_with plain_of m b v none) (passing_with other_of m b v none)
  where
    by : (k : Bool) → v.plain ≡ k → passing plain_of (table.insert m b v) ≡ one v.plain + passing plain_of m → passing other_of (table.insert m b v) ≡ one (not v.plain) + passing other_of m
        → tally (table.insert m b v) s ≡ more k (tally m s)
    by true is p q =
        let content : passing plain_of (table.insert m b v) ≡ passing plain_of m + 1 = (let one_is = ap one is in omega arith) in
        let metadata : passing other_of (table.insert m b v) ≡ passing other_of m = (let one_is = ap (λ x. one (not x)) is in omega arith) in
        λ i. record { content = content i; metadata = metadata i; revokes = table.len s }
    by false is p q =
        let content : passing plain_of (table.insert m b v) ≡ passing plain_of m = (let one_is = ap one is in omega arith) in
        let metadata : passing other_of (table.insert m b v) ≡ passing other_of m + 1 = (let one_is = ap (λ x. one (not x)) is in omega arith) in
        λ i. record { content = content i; metadata = metadata i; revokes = table.len s }

pub inserted_tally : (m : Versions) (s : set.Blocks) (b : ℕ) (v : Version) → tally (table.insert m b v) s ≡ more v.plain (less (change_at m b) (tally m s))
inserted_tally m s b v =
    ap (λ (n : Versions). tally n s) (sym (insert_removed m b v)) ∙ put_tally (table.remove m b) s b v (gone m b) ∙ ap (more v.plain) (removed_tally m s b)

-- ---- what is to be revoked

pub marked_len : (s : set.Blocks) (b : ℕ) (t : Bool) → table.len (if t then set.insert s b else s) ≡ table.len s + one (t && not (set.contains s b))
marked_len s b true = by (set.contains s b) (table.len-insert nat_cmp_total s b tt)
  where
    by : (x : Bool) → table.len (set.insert s b) ≡ cond x (table.len s) (table.len s + 1) → table.len (set.insert s b) ≡ table.len s + one (true && not x)
    by true is = omega arith
    by false is = omega arith
marked_len s b false = omega arith

pub dropped_len : (s : set.Blocks) (b : ℕ) → table.len (set.remove s b) ≡ table.len s - one (set.contains s b)
dropped_len s b = by (set.contains s b) (table.len-remove nat_cmp_total s b)
  where
    by : (x : Bool) → table.len (set.remove s b) ≡ cond x (table.len s - 1) (table.len s) → table.len (set.remove s b) ≡ table.len s - one x
    by true is = omega arith
    by false is = omega arith

-- ---- as it is told

pub told : (log : LogValue) (content all revokes : ℕ) → content ≡ passing plain_of log.fresh → all ≡ table.len log.fresh → revokes ≡ table.len log.gone
    → (let n : Counts = record { content = content; metadata = all - content; revokes = revokes } in n) ≡ counts_of log
told log content all revokes content_is all_is revokes_is =
    (λ i. let n : Counts = record { content = content_is i; metadata = metadata_is i; revokes = revokes_is i } in n) ∙ sym (tally_is log)
  where
    metadata_is : all - content ≡ passing other_of log.fresh
    metadata_is = let sum = all_of log.fresh in omega arith
