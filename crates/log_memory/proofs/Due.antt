-- What is due, and what it takes.
use Rattle.std.proofs.Common.{◌≡◌, ℕ, suc, ◌-◌, ◌<◌, ◌≤◌, Bool, true, false, cond, List, [], ◌∷◌, length, map, filter, Some, inl, inr, refl, sym, ap, ◌∙◌, true≢false, slice_get, arith}
use Rattle.std.specs.List.{count_by}
use Rattle.std.proofs.lemmas.List.{length-map}
use Rattle.std.proofs.lemmas.List.Sums.{count_by-le-length, length-filter}
use Rattle.std.specs.Ordering.{nat_cmp}
use Rattle.std.specs.FinMap as table
use Rattle.log_layout.specs.Chunks.{Logged}
use Rattle.node_journal.specs.Encoding.{content_of, metadata_of, size_of, size_with}
use Rattle.log_tables.specs.Kept.{is_home}
use Rattle.log_tables.specs.Versions.Way.{Home, Away, Flying}
use Rattle.log_tables.proofs.Reading.{row_gets}
use Rattle.log_values.specs.Blocks as set
use Rattle.log_values.specs.Log.{Entry, LogValue, Version, Way}
use Rattle.log_values.specs.Flushing.{AllAreHome, IsDue}
use Rattle.log_values.specs.Sound.{IsSoundLog}
use Rattle.log_values.specs.Transactions.{due, logged_as}
use Rattle.log_values.proofs.Fitting.{gone_fits}
use Rattle.log_values.proofs.Landing.{halves, no_list}
use Rattle.log_memory.proofs.Counts.{items_len}
use Rattle.log_memory.proofs.RowsFound.{found}

abbrev Versions : Type 0
Versions = table.FinMap nat_cmp Version

abbrev said : ℕ × Version → Logged
said e = logged_as e.0 e.1

logged_len : (m : Versions) → length (map said (table.entries m)) ≡ table.len m
logged_len m = length-map (table.entries m) said ∙ sym (table.len-entries m)

-- ---- whether anything is

module _ (log : LogValue) where
  pub some_change : 0 < table.len log.fresh → IsDue log
  some_change some = inl (λ none. let same = ap length none in let count = logged_len log.fresh in omega arith)

  pub some_revoke : 0 < table.len log.gone → IsDue log
  some_revoke some = inr (λ none. let same = ap length none in let count = items_len log.gone in omega arith)

  pub none_due : table.len log.fresh ≤ 0 → table.len log.gone ≤ 0 → IsDue log → ⊥
  none_due no_fresh no_gone (inl some) = some (no_list (map said (table.entries log.fresh)) (let count = logged_len log.fresh in omega arith))
  none_due no_fresh no_gone (inr some) = some (no_list (set.items log.gone) (let count = items_len log.gone in omega arith))

-- ---- how many places it takes

plain_count : (es : List (ℕ × Version)) → length (filter (λ (e : Logged). e.plain) (map said es)) ≡ count_by (λ (e : ℕ × Version). e.1.plain) es
plain_count es = by es ∙ length-filter (λ (e : ℕ × Version). e.1.plain) es
  where
    by : (xs : List (ℕ × Version)) → length (filter (λ (e : Logged). e.plain) (map said xs)) ≡ length (filter (λ (e : ℕ × Version). e.1.plain) xs)
    by [] = refl
    by (x ∷ xs) = one x.1.plain (by xs)
      where
        one : (b : Bool) → length (filter (λ (e : Logged). e.plain) (map said xs)) ≡ length (filter (λ (e : ℕ × Version). e.1.plain) xs)
            → length (cond b (said x ∷ filter (λ (e : Logged). e.plain) (map said xs)) (filter (λ (e : Logged). e.plain) (map said xs))) ≡ length (cond b (x ∷ filter (λ (e : ℕ × Version). e.1.plain) xs) (filter (λ (e : ℕ × Version). e.1.plain) xs))
        one true same = ap suc same
        one false same = same

module _ (log : LogValue) (sound : IsSoundLog log) (content changes revokes : ℕ) (content_is : content ≡ count_by (λ (e : ℕ × Version). e.1.plain) (table.entries log.fresh)) (changes_are : changes ≡ table.len log.fresh) (revokes_are : revokes ≡ table.len log.gone) where
  pub content_among : content ≤ changes
  content_among = let less = count_by-le-length (λ (e : ℕ × Version). e.1.plain) (table.entries log.fresh) in let all = table.len-entries log.fresh in omega arith

  pub few_due : (changes ≤ 4096) × (revokes ≤ 69632)
  few_due =
      let frames = sound.frames in
      let few = sound.few in
      let most = sound.most in
      let fits = gone_fits log sound in
      (omega arith, omega arith)

  content_len : content ≡ length (content_of (due log))
  content_len = content_is ∙ sym (plain_count (table.entries log.fresh))

  metadata_len : changes - content ≡ length (metadata_of (due log))
  metadata_len = let both = halves (λ (e : Logged). e.plain) (map said (table.entries log.fresh)) in let all = logged_len log.fresh in let here = content_len in omega arith

  pub due_takes : (size : ℕ) → size_with size content (changes - content) revokes ≡ size_of size (due log)
  due_takes size = λ i. size_with size (content_len i) (metadata_len i) ((revokes_are ∙ sym (items_len log.gone)) i)

-- ---- whether all is home

home_way : (w : Way) → is_home w ≡ true → w ≡ Home
home_way Home is = refl
home_way (Away bytes) is = absurd (true≢false (sym is))
home_way (Flying bytes) is = absurd (true≢false (sym is))

-- the first so many rows are
abbrev pub AreHome : LogValue → ℕ → Type 0
AreHome log count = (i : ℕ) (e : ℕ × Entry) → i < count → slice_get (table.entries log.live) i ≡ Some e → is_home e.1.way ≡ true

pub all_home : (log : LogValue) (count : ℕ) → table.len log.live ≤ count → AreHome log count → AllAreHome log
all_home log count all are b e at = let row = found log.live b e at in home_way e.way (are row.0 (b, e) (omega (arith, row.1.0)) row.1.1)

pub one_away : (log : LogValue) (i : ℕ) (e : ℕ × Entry) → slice_get (table.entries log.live) i ≡ Some e → is_home e.1.way ≡ false → AllAreHome log → ⊥
one_away log i e at away home = true≢false (sym (ap is_home (home e.0 e.1 (row_gets log.live i e at))) ∙ away)
