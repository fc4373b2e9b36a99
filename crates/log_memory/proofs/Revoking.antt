-- Which live blocks are to be revoked, row by row.
use Rattle.std.proofs.Common.{◌≡◌, ℕ, zero, suc, ◌+◌, ◌<◌, ◌≤◌, ◌||◌, ◌&&◌, not, Bool, true, false, List, [], ◌∷◌, length, Option, Some, ◌⊎◌, inl, inr, refl, sym, ap, subst, ◌∙◌, true≢false, is_some, cond, slice_get, if◌then◌else◌, arith}
use Rattle.std.proofs.lemmas.Bool.{cases_eq}
use Rattle.std.proofs.lemmas.Cmp.{nat_cmp_total}
use Rattle.std.specs.Ordering.{eq_by_cmp, nat_cmp}
use Rattle.std.specs.FinMap as table
use Rattle.finite_maps.proofs.Keys.{tied, untied}
use Rattle.glock_names.specs.declared.LockName.{LockName}
use Rattle.glock_names.specs.LockMaps.{same_lock}
use Rattle.log_tables.proofs.Counting.{remove_absent}
use Rattle.log_values.specs.Blocks as set
use Rattle.log_values.specs.Log.{Entry, LogValue, Version}
use Rattle.log_values.specs.Changes.{has_entry, is_flushed, with_freed}
use Rattle.log_values.specs.Homing.{RevokesUnder, is_under, to_revoke}
use Rattle.log_values.proofs.BlocksHad.{contains-insert}
use Rattle.log_values.proofs.Homing.{and_tells, not_tells, under_lives}
use Rattle.log_values.proofs.Landing.{lacks}
use Rattle.log_memory.proofs.RowsRead.{entry_at}

-- a newer version of the block is to be flushed, or is being flushed
abbrev pub newer : LogValue → ℕ → Bool
newer log b = table.contains_key log.fresh b || is_flushed log.flush b

-- of a live block
pub revoke_is : (log : LogValue) (lock : LockName) (e : ℕ × Entry) → table.get log.live e.0 ≡ Some e.1 → to_revoke log lock e.0 ≡ (same_lock lock e.1.lock && not (newer log e.0))
revoke_is log lock e at = ap (λ (o : Option Entry). is_under lock o && not (newer log e.0)) at

-- it is as if the block were freed, which has no change
pub marks : (log : LogValue) (lock : LockName) (b : ℕ) → to_revoke log lock b ≡ true
    → (let n : LogValue = record log { fresh = table.remove log.fresh b; gone = with_freed (has_entry log) (b ∷ []) log.gone } in n)
    ≡ (let n : LogValue = record log { gone = if to_revoke log lock b then set.insert log.gone b else log.gone } in n)
marks log lock b is =
    ap (λ (m : table.FinMap nat_cmp Version). let n : LogValue = record log { fresh = m; gone = with_freed (has_entry log) (b ∷ []) log.gone } in n)
    (remove_absent log.fresh b (lacks log.fresh b (not_tells (table.contains_key log.fresh b) (is_flushed log.flush b) parts.1)))
    ∙ ap (λ (t : Bool). let n : LogValue = record log { gone = if t then set.insert log.gone b else log.gone } in n) (entry ∙ sym is)
  where
    parts : (is_under lock (table.get log.live b) ≡ true) × (not (newer log b) ≡ true)
    parts = and_tells (is_under lock (table.get log.live b)) (not (newer log b)) is

    entry : has_entry log b ≡ true
    entry = ap (λ (x : Bool). x || is_flushed log.flush b) (under_lives lock (table.get log.live b) parts.0)

-- the first so many rows were gone over
pub record IsRevokedUpTo (log : LogValue) (gone : set.Blocks) (lock : LockName) (count : ℕ) : Type 0 where
  pub kept : (b : ℕ) → set.contains log.gone b ≡ true → set.contains gone b ≡ true
  pub done : (i : ℕ) (e : ℕ × Entry) → i < count → slice_get (table.entries log.live) i ≡ Some e → to_revoke log lock e.0 ≡ true → set.contains gone e.0 ≡ true
  pub only : (b : ℕ) → set.contains gone b ≡ true → (set.contains log.gone b ≡ true) ⊎ (to_revoke log lock b ≡ true)

pub none_yet : (log : LogValue) (lock : LockName) → IsRevokedUpTo log log.gone lock 0
none_yet log lock = record { kept = λ b there. there; done = λ i e few at is. absurd (omega arith); only = λ b there. inl there }

module _ (log : LogValue) (gone : set.Blocks) (lock : LockName) (count : ℕ) (h : IsRevokedUpTo log gone lock count) (e : ℕ × Entry) (at : slice_get (table.entries log.live) count ≡ Some e) where
  still : (t : Bool) (b : ℕ) → set.contains gone b ≡ true → set.contains (if t then set.insert gone e.0 else gone) b ≡ true
  still true b there = contains-insert gone e.0 b ∙ ap (λ (x : Bool). eq_by_cmp nat_cmp b e.0 || x) there ∙ either (eq_by_cmp nat_cmp b e.0)
    where
      either : (x : Bool) → x || true ≡ true
      either true = refl
      either false = refl
  still false b there = there

  this_one : (t : Bool) → t ≡ true → set.contains (if t then set.insert gone e.0 else gone) e.0 ≡ true
  this_one true is = contains-insert gone e.0 e.0 ∙ ap (λ (x : Bool). x || set.contains gone e.0) (tied nat_cmp_total e.0)
  this_one false is = absurd (true≢false (sym is))

  same_row : (x y : ℕ × Entry) → Some x ≡ Some y → x ≡ y
  same_row x y is = cc

  pub one_more : IsRevokedUpTo log (if to_revoke log lock e.0 then set.insert gone e.0 else gone) lock (count + 1)
  one_more = record {
    kept = λ b there. still (to_revoke log lock e.0) b (h.kept b there);
    done = λ i d few here is. by_place i d here is (cases_eq i count) few;
    only = λ b there. by_test (to_revoke log lock e.0) refl b there;
  }
    where
      by_place : (i : ℕ) (d : ℕ × Entry) → slice_get (table.entries log.live) i ≡ Some d → to_revoke log lock d.0 ≡ true → (i ≡ count) ⊎ (i ≡ count → ⊥) → i < count + 1
          → set.contains (if to_revoke log lock e.0 then set.insert gone e.0 else gone) d.0 ≡ true
      by_place i d here is (inl last) few =
          let same : e ≡ d = same_row e d (sym at ∙ ap (slice_get (table.entries log.live)) (sym last) ∙ here) in
          let is_e : to_revoke log lock e.0 ≡ true = ap (λ (x : ℕ × Entry). to_revoke log lock x.0) same ∙ is in
          subst (λ (x : ℕ × Entry). set.contains (if to_revoke log lock e.0 then set.insert gone e.0 else gone) x.0 ≡ true) same (this_one (to_revoke log lock e.0) is_e)
      by_place i d here is (inr before) few = still (to_revoke log lock e.0) d.0 (h.done i d (omega arith) here is)

      by_test : (t : Bool) → to_revoke log lock e.0 ≡ t → (b : ℕ) → set.contains (if t then set.insert gone e.0 else gone) b ≡ true → (set.contains log.gone b ≡ true) ⊎ (to_revoke log lock b ≡ true)
      by_test true is b there = by_key (cases_eq b e.0)
        where
          by_key : (b ≡ e.0) ⊎ (b ≡ e.0 → ⊥) → (set.contains log.gone b ≡ true) ⊎ (to_revoke log lock b ≡ true)
          by_key (inl k) = inr (ap (to_revoke log lock) k ∙ is)
          by_key (inr ne) = h.only b (ap (λ (x : Bool). x || set.contains gone b) (sym (untied table.nat_cmp-IsAntisymmetric b e.0 ne)) ∙ sym (contains-insert gone e.0 b) ∙ there)
      by_test false is b there = h.only b there

-- one more row
pub row_revoked : (log mid new : LogValue) (lock : LockName) (place : ℕ) → mid ≡ (let n : LogValue = record log { gone = mid.gone } in n) → IsRevokedUpTo log mid.gone lock place → place < table.len log.live
    → ((e : ℕ × Entry) → slice_get (table.entries mid.live) place ≡ Some e → new ≡ (let n : LogValue = record mid { gone = if to_revoke mid lock e.0 then set.insert mid.gone e.0 else mid.gone } in n))
    → (new ≡ (let n : LogValue = record log { gone = new.gone } in n)) × IsRevokedUpTo log new.gone lock (place + 1)
row_revoked log mid new lock place same h inside step =
    (is ∙ ap (λ (g : set.Blocks). let n : LogValue = record log { gone = g } in n) (sym gone_is), subst (λ (g : set.Blocks). IsRevokedUpTo log g lock (place + 1)) (sym gone_is) (one_more log mid.gone lock place h row.0 row.1))
  where
    row : (e : ℕ × Entry) × (slice_get (table.entries log.live) place ≡ Some e)
    row = entry_at (table.entries log.live) place (subst (λ n. place < n) (table.len-entries log.live) inside)

    marked : LogValue → LogValue
    marked x = record x { gone = if to_revoke x lock row.0.0 then set.insert x.gone row.0.0 else x.gone }

    is : new ≡ marked (record log { gone = mid.gone })
    is = step row.0 (subst (λ (x : LogValue). slice_get (table.entries x.live) place ≡ Some row.0) (sym same) row.1) ∙ ap marked same

    gone_is : new.gone ≡ (if to_revoke log lock row.0.0 then set.insert mid.gone row.0.0 else mid.gone)
    gone_is = ap (λ (x : LogValue). x.gone) is

-- the row of a number that has a value
pub row_of : {V : Type 0} (es : List (ℕ × V)) (b : ℕ) → is_some (table.find nat_cmp b es) ≡ true → (i : ℕ) × (d : ℕ × V) × ((i < length es) × (slice_get es i ≡ Some d) × (d.0 ≡ b))
row_of [] b there = absurd (true≢false (sym there))
row_of {V} (d ∷ es) b there = by (cases_eq b d.0) (row_of es b)
  where
    by : (b ≡ d.0) ⊎ (b ≡ d.0 → ⊥) → (is_some (table.find nat_cmp b es) ≡ true → (i : ℕ) × (x : ℕ × V) × ((i < length es) × (slice_get es i ≡ Some x) × (x.0 ≡ b)))
        → (i : ℕ) × (x : ℕ × V) × ((i < length (d ∷ es)) × (slice_get (d ∷ es) i ≡ Some x) × (x.0 ≡ b))
    by (inl is) later = (zero, d, (omega arith, refl, sym is))
    by (inr ne) later =
        let rest = later (ap (λ (t : Bool). is_some (cond t (Some d.1) (table.find nat_cmp b es))) (sym (untied table.nat_cmp-IsAntisymmetric b d.0 ne)) ∙ there) in
        (suc rest.0, rest.1, (omega (arith, rest.2.0), rest.2.1, rest.2.2))

pub all_revoked : (log new : LogValue) (lock : LockName) (count : ℕ) → table.len log.live ≤ count → new ≡ record log { gone = new.gone } → IsRevokedUpTo log new.gone lock count → RevokesUnder log new lock
all_revoked log new lock count all same h = record { same = same; revokes = λ b. by b (set.contains new.gone b) refl (set.contains log.gone b) refl (to_revoke log lock b) refl }
  where
    by : (b : ℕ) (x : Bool) → set.contains new.gone b ≡ x → (y : Bool) → set.contains log.gone b ≡ y → (z : Bool) → to_revoke log lock b ≡ z → set.contains new.gone b ≡ (set.contains log.gone b || to_revoke log lock b)
    by b x x_is true y_is z z_is = h.kept b y_is ∙ ap (λ (t : Bool). t || to_revoke log lock b) (sym y_is)
    by b x x_is false y_is true z_is =
        let under = under_lives lock (table.get log.live b) (and_tells (is_under lock (table.get log.live b)) (not (newer log b)) z_is).0 in
        let row = row_of (table.entries log.live) b (ap is_some (sym (table.get-entries log.live b)) ∙ under) in
        let within = table.len-entries log.live in
        subst (λ (q : ℕ). set.contains new.gone q ≡ true) row.2.2 (h.done row.0 row.1 (omega (arith, row.2.0)) row.2.1 (ap (to_revoke log lock) row.2.2 ∙ z_is))
        ∙ sym (ap (λ (t : Bool). t || to_revoke log lock b) y_is ∙ z_is)
    by b true x_is false y_is false z_is = absurd (elim (h.only b x_is) [ inl i ↦ true≢false (sym i ∙ y_is) | inr i ↦ true≢false (sym i ∙ z_is) ])
    by b false x_is false y_is false z_is = x_is ∙ sym (ap (λ (t : Bool). t || to_revoke log lock b) y_is ∙ z_is)
