-- Fixed room suffices.
use Rattle.std.proofs.Common.{◌≡◌, ℕ, ◌+◌, ◌<◌, ◌≤◌, Bool, true, false, ◌||◌, Option, None, Some, ◌⊎◌, inl, inr, refl, sym, ap, ◌∙◌, true≢false, is_some, nat_le, arith}
use Rattle.std.proofs.lemmas.Bool.Decides.{leb_tells}
use Rattle.std.specs.Ordering.{nat_cmp}
use Rattle.std.specs.FinMap as table
use Rattle.log_tables.proofs.Taking.{count-only, only}
use Rattle.log_values.specs.Blocks as set
use Rattle.log_values.specs.Log.{Entry, Flush, LogValue, Version}
use Rattle.log_values.specs.Changes.{flushed_count, is_flushed}
use Rattle.log_values.specs.Flushing.{behind_tail}
use Rattle.log_values.specs.Sound.{IsSoundLog, live_from, used}
use Rattle.log_values.proofs.Landing.{to_only}
use Rattle.log_values.proofs.Subsets.{within_both}
use Rattle.log_values.proofs.Ways.{way_below}

module _ (log : LogValue) (sound : IsSoundLog log) where
  abbrev nothing : table.FinMap nat_cmp Version
  nothing = table.empty

  abbrev passes : Entry → Bool
  passes e = nat_le 0 (behind_tail log e.first)

  each_passes : (n : ℕ) → nat_le 0 n ≡ true
  each_passes n = elim (leb_tells 0 n) [ inl t ↦ t.0 | inr t ↦ absurd (omega arith) ]

  passing : (b : ℕ) → table.contains_key log.live b ≡ true → table.contains_key (only passes log.live) b ≡ true
  passing b = by (table.get log.live b) refl
    where
      by : (o : Option Entry) → table.get log.live b ≡ o → is_some o ≡ true → table.contains_key (only passes log.live) b ≡ true
      by None at there = absurd (true≢false (sym there))
      by (Some e) at there = to_only passes log.live b e at (each_passes (behind_tail log e.first))

  -- no more blocks are live than places are behind the tail
  pub live_used : table.len log.live ≤ used log
  live_used =
      let all = within_both log.live (only passes log.live) nothing (λ b there. inl (passing b there)) in
      let none = table.len-empty nat_cmp Version in
      let count = count-only passes log.live in
      let room : live_from log 0 + 0 ≤ used log = sound.room 0 (omega arith) in
      omega arith

  pub live_fits : table.len log.live < log.journal.length
  live_fits =
      let few = live_used in
      let below : used log < log.journal.length = way_below log.journal.length log.tail log.head sound.tail sound.head in
      omega arith

  -- no more blocks are to be revoked than have entries, or get them by the flush
  pub gone_fits : table.len log.gone < log.journal.frames + log.journal.length
  gone_fits = by log.flush refl
    where
      entries : (o : Option Flush) (b : ℕ) → log.flush ≡ o → set.contains log.gone b ≡ true → table.contains_key log.live b || is_flushed o b ≡ true
      entries o b is there = ap (λ (f : Option Flush). table.contains_key log.live b || is_flushed f b) (sym is) ∙ sound.gone b there

      either : (x y : Bool) → x || y ≡ true → (x ≡ true) ⊎ (y ≡ true)
      either true y e = inl refl
      either false y e = inr e

      by : (o : Option Flush) → log.flush ≡ o → table.len log.gone < log.journal.frames + log.journal.length
      by None is =
          let few = within_both log.gone log.live nothing (λ b there. elim (either (table.contains_key log.live b) false (entries None b is there)) [ inl e ↦ inl e | inr e ↦ absurd (true≢false (sym e)) ]) in
          let none = table.len-empty nat_cmp Version in
          let fits = live_fits in
          omega arith
      by (Some f) is =
          let few = within_both log.gone log.live f.versions (λ b there. either (table.contains_key log.live b) (table.contains_key f.versions b) (entries (Some f) b is there)) in
          let fits = live_fits in
          let frames = sound.frames in
          let counted : flushed_count log.flush ≡ table.len f.versions = ap flushed_count is in
          omega arith
