-- What is live of a block once a flush is in the journal, and what is still to be revoked.
use Rattle.std.proofs.Common.{◌≡◌, ℕ, suc, ◌<◌, ◌≤◌, ◌&&◌, not, Bool, true, false, cond, Option, None, Some, inl, inr, refl, sym, ap, ◌∙◌, true≢false, is_some, if◌then◌else◌, nat_lt, arith}
use Rattle.std.proofs.lemmas.Bool.Decides.{leb_tells}
use Rattle.std.proofs.lemmas.Cmp.{nat_cmp_total, ranked}
use Rattle.std.specs.declared.cmp.Ordering.TheVariants.{Equal}
use Rattle.std.specs.Ordering.{nat_cmp}
use Rattle.std.specs.FinMap as table
use Rattle.fixed_tables.specs.Fixed.{left_by}
use Rattle.log_tables.specs.Kept.{is_home}
use Rattle.log_tables.specs.Versions.Way.{Away, Home}
use Rattle.log_tables.proofs.Steps.{same_some}
use Rattle.log_values.specs.Blocks as set
use Rattle.log_values.specs.Log.{Entry, Flush, LogValue, Version}
use Rattle.log_values.specs.Flushing.{IsTail, behind_tail, first_place, left_from, live_behind, logged_over}
use Rattle.log_values.specs.Sound.{IsSoundLog}
use Rattle.log_values.specs.Transactions.{live_among}
use Rattle.log_values.proofs.Landing.{no_some}
use Rattle.log_values.proofs.Tails.{home_before, logged_behind}
use Rattle.log_memory.specs.Flushing.{rested_if, stays, with_flush}

abbrev Live : Type 0
Live = table.FinMap nat_cmp Entry

-- ---- what is still to be revoked

kept_if : (t : Bool) (o : Option (Unit {0})) → left_by (λ (u : Unit {0}). t) o ≡ cond t o None
kept_if true None = refl
kept_if true (Some u) = refl
kept_if false None = refl
kept_if false (Some u) = refl

pub among_is : (live : Live) (old new : set.Blocks) → ((b : ℕ) → table.get new b ≡ left_by (λ (u : Unit {0}). table.contains_key live b) (table.get old b)) → new ≡ live_among live old
among_is live old new left =
    table.same_map nat_cmp_total table.nat_cmp-IsAntisymmetric new (live_among live old)
    (λ b. left b ∙ kept_if (table.contains_key live b) (table.get old b) ∙ sym (table.get-retain_keys old (table.contains_key live) b (λ x e. ap (table.contains_key live) (sym (ranked b x Equal (sym e))))))

-- ---- what is live

module _ (log : LogValue) (f : Flush) (tail : ℕ) (sound : IsSoundLog log) (is : log.flush ≡ Some f) (tells : IsTail log f tail) where
  abbrev its_first : ℕ
  its_first = first_place log

  abbrev pub left_behind : ℕ → ℕ → Bool
  left_behind b first = stays f.revokes log.journal.length log.tail tail b first

  unrevoked : (b : ℕ) (v : Version) → table.get f.versions b ≡ Some v → set.contains f.revokes b ≡ false
  unrevoked b v has = by (set.contains f.revokes b) refl
    where
      by : (t : Bool) → set.contains f.revokes b ≡ t → set.contains f.revokes b ≡ false
      by true at = absurd (no_some v (sym has ∙ (sound.revoked f b is at).1))
      by false at = at

  not_less : (a b : ℕ) → a ≤ b → nat_lt b a ≡ false
  not_less a b less = elim (leb_tells (suc b) a) [ inl t ↦ absurd (let more = t.1 in omega arith) | inr t ↦ t.0 ]

  is_less : (a b : ℕ) → nat_lt b a ≡ true → b < a
  is_less a b at = elim (leb_tells (suc b) a) [ inl t ↦ t.1 | inr t ↦ absurd (true≢false (sym at ∙ t.0)) ]

  -- what it logs stays
  logged_stays : (b : ℕ) (v : Version) → table.get f.versions b ≡ Some v → left_behind b its_first ≡ true
  logged_stays b v has =
      (λ i. not (unrevoked b v has i) && not (nat_lt (behind_tail log its_first) (behind_tail log tail)))
      ∙ ap not (not_less (behind_tail log tail) (behind_tail log its_first) (logged_behind log f tail sound tells b v has))

  -- and what doesn't is home
  pub home_then : (b : ℕ) (e : Entry) → with_flush f.revokes f.versions its_first log.live b ≡ Some e → left_behind b e.first ≡ false → is_home e.way ≡ true
  home_then b e at gone = by_version (table.get f.versions b) refl at
    where
      by_live : (t : Bool) → nat_lt (behind_tail log e.first) (behind_tail log tail) ≡ t → set.contains f.revokes b ≡ false → table.get f.versions b ≡ None → table.get log.live b ≡ Some e → is_home e.way ≡ true
      by_live true less kept none live = home_before log f tail sound tells b e live (ap is_some none) kept (is_less (behind_tail log tail) (behind_tail log e.first) less)
      by_live false less kept none live = absurd (true≢false (sym (λ i. not (kept i) && not (less i)) ∙ gone))

      by_revoke : (t : Bool) → set.contains f.revokes b ≡ t → table.get f.versions b ≡ None → rested_if t (table.get log.live b) ≡ Some e → is_home e.way ≡ true
      by_revoke true revoked none rests = rested (table.get log.live b) rests
        where
          rested : (o : Option Entry) → rested_if true o ≡ Some e → is_home e.way ≡ true
          rested None r = absurd (no_some e (sym r))
          rested (Some x) r = ap (λ (y : Entry). is_home y.way) (sym (same_some (Some (record x { way = Home })) (record x { way = Home }) e refl r))
      by_revoke false kept none rests = by_live (nat_lt (behind_tail log e.first) (behind_tail log tail)) refl kept none rests

      by_version : (o : Option Version) → table.get f.versions b ≡ o → logged_over o its_first (rested_if (set.contains f.revokes b) (table.get log.live b)) ≡ Some e → is_home e.way ≡ true
      by_version None none r = by_revoke (set.contains f.revokes b) refl none r
      by_version (Some v) has r =
          let same : record { lock = v.lock; first = its_first; way = Away v.bytes } ≡ e = same_some (Some (record { lock = v.lock; first = its_first; way = Away v.bytes })) _ e refl r in
          absurd (true≢false (sym (ap (λ (x : Entry). left_behind b x.first) (sym same) ∙ logged_stays b v has) ∙ gone))

  -- what is left is what is to be live
  pub lives_then : (b : ℕ) → left_by (λ (e : Entry). left_behind b e.first) (with_flush f.revokes f.versions its_first log.live b) ≡ live_behind log f tail b
  lives_then b = by_version (table.get f.versions b) refl
    where
      tested : (t : Bool) (x : Entry) → (if true && not t then Some x else None) ≡ (if t then None else Some x)
      tested true x = refl
      tested false x = refl

      by_live : (o : Option Entry) → left_by (λ (e : Entry). true && not (nat_lt (behind_tail log e.first) (behind_tail log tail))) o ≡ left_from log tail o
      by_live None = refl
      by_live (Some x) = tested (nat_lt (behind_tail log x.first) (behind_tail log tail)) x

      none_left : (o : Option Entry) → left_by (λ (e : Entry). false && not (nat_lt (behind_tail log e.first) (behind_tail log tail))) (rested_if true o) ≡ None
      none_left None = refl
      none_left (Some x) = refl

      by_revoke : (t : Bool) → left_by (λ (e : Entry). not t && not (nat_lt (behind_tail log e.first) (behind_tail log tail))) (rested_if t (table.get log.live b)) ≡ (if t then None else left_from log tail (table.get log.live b))
      by_revoke true = none_left (table.get log.live b)
      by_revoke false = by_live (table.get log.live b)

      by_version : (o : Option Version) → table.get f.versions b ≡ o → left_by (λ (e : Entry). left_behind b e.first) (logged_over o its_first (rested_if (set.contains f.revokes b) (table.get log.live b)))
          ≡ logged_over o its_first (if set.contains f.revokes b then None else left_from log tail (table.get log.live b))
      by_version None none = by_revoke (set.contains f.revokes b)
      by_version (Some v) has = ap (λ (t : Bool). if t then Some (record { lock = v.lock; first = its_first; way = Away v.bytes }) else None) (logged_stays b v has)
