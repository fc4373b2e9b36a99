-- Blocks of a flush that are live, one by one.
use Rattle.std.proofs.Common.{◌≡◌, ℕ, ◌+◌, ◌<◌, ◌≤◌, true, Option, None, Some, ◌⊎◌, inl, inr, refl, sym, ap, subst, ◌∙◌, is_some, slice_get, arith}
use Rattle.std.proofs.lemmas.Bool.{cases_eq}
use Rattle.std.specs.Ordering.{nat_cmp}
use Rattle.std.specs.FinMap as table
use Rattle.log_tables.specs.Kept.{Kept, landed}
use Rattle.log_tables.proofs.Counting.{apart, at_key, gone, insert_removed, left, len_with, len_without}
use Rattle.log_tables.proofs.Reading.{row_gets}
use Rattle.log_values.specs.Log.{Entry, Version}
use Rattle.log_values.specs.Flushing.{logged_over}
use Rattle.log_values.proofs.Landing.{all_none, no_some}
use Rattle.log_memory.proofs.RowsRead.{entry_at}

abbrev Live : Type 0
Live = table.FinMap nat_cmp Entry

abbrev Flushed : Type 0
Flushed = table.FinMap nat_cmp Version

abbrev pub with_both : Kept → Flushed → Live → Kept
with_both k flushed live = record k { flushed = flushed; live = live }

-- so many blocks of the flush are live
pub record IsLandedUpTo (old now : Kept) (first count : ℕ) : Type 0 where
  pub same : now ≡ with_both old now.flushed now.live
  pub left_over : table.len now.flushed + count ≡ table.len old.flushed
  pub room : table.len now.live + table.len now.flushed ≤ old.places
  pub each : (b : ℕ) → ((table.get now.flushed b ≡ table.get old.flushed b) × (table.get now.live b ≡ table.get old.live b))
      ⊎ ((table.get now.flushed b ≡ None) × (table.get now.live b ≡ logged_over (table.get old.flushed b) first (table.get old.live b)))

insert_len : (m : Live) (k : ℕ) (e : Entry) → table.len (table.insert m k e) ≤ table.len m + 1
insert_len m k e = by (table.get m k) refl
  where
    by : (o : Option Entry) → table.get m k ≡ o → table.len (table.insert m k e) ≤ table.len m + 1
    by None at = let more = len_with m k e at in omega arith
    by (Some d) at =
        let less = len_without m k d at in
        let more = ap (λ (x : Live). table.len x) (sym (insert_removed m k e)) ∙ len_with (table.remove m k) k e (gone m k) in
        omega arith

module _ (old now new : Kept) (first count : ℕ) (h : IsLandedUpTo old now first count) (e : ℕ × Version) (at : table.get now.flushed e.0 ≡ Some e.1)
    (is : new ≡ with_both now (table.remove now.flushed e.0) (table.insert now.live e.0 (landed e.1 first))) where
  flushed_is : new.flushed ≡ table.remove now.flushed e.0
  flushed_is = ap (λ (k : Kept). k.flushed) is

  live_is : new.live ≡ table.insert now.live e.0 (landed e.1 first)
  live_is = ap (λ (k : Kept). k.live) is

  was : table.get old.flushed e.0 ≡ Some e.1
  was = elim (h.each e.0) [ inl a ↦ sym a.0 ∙ at | inr a ↦ absurd (no_some e.1 (sym at ∙ a.0)) ]

  pub one_landed : IsLandedUpTo old new first (count + 1)
  one_landed = record {
    same = is ∙ ap (λ (k : Kept). with_both k (table.remove now.flushed e.0) (table.insert now.live e.0 (landed e.1 first))) h.same ∙ sym (λ i. with_both old (flushed_is i) (live_is i));
    left_over =
        (let less = len_without now.flushed e.0 e.1 at in
        let count_is : table.len new.flushed ≡ table.len (table.remove now.flushed e.0) = ap (λ (m : Flushed). table.len m) flushed_is in
        let over = h.left_over in
        omega arith);
    room =
        (let less = len_without now.flushed e.0 e.1 at in
        let count_is : table.len new.flushed ≡ table.len (table.remove now.flushed e.0) = ap (λ (m : Flushed). table.len m) flushed_is in
        let live_len : table.len new.live ≡ table.len (table.insert now.live e.0 (landed e.1 first)) = ap (λ (m : Live). table.len m) live_is in
        let more = insert_len now.live e.0 (landed e.1 first) in
        let room = h.room in
        omega arith);
    each = λ b. by b (cases_eq b e.0);
  }
    where
      by : (b : ℕ) → (b ≡ e.0) ⊎ (b ≡ e.0 → ⊥) → ((table.get new.flushed b ≡ table.get old.flushed b) × (table.get new.live b ≡ table.get old.live b))
          ⊎ ((table.get new.flushed b ≡ None) × (table.get new.live b ≡ logged_over (table.get old.flushed b) first (table.get old.live b)))
      by b (inl k) = inr (
        ap (λ (m : Flushed). table.get m b) flushed_is ∙ ap (table.get (table.remove now.flushed e.0)) k ∙ gone now.flushed e.0,
        ap (λ (m : Live). table.get m b) live_is ∙ ap (table.get (table.insert now.live e.0 (landed e.1 first))) k ∙ at_key now.live e.0 (landed e.1 first)
            ∙ sym (ap (λ (o : Option Version). logged_over o first (table.get old.live b)) (ap (table.get old.flushed) k ∙ was)),
      )
      by b (inr ne) =
          let flushed = ap (λ (m : Flushed). table.get m b) flushed_is ∙ left now.flushed e.0 b ne in
          let live = ap (λ (m : Live). table.get m b) live_is ∙ apart now.live e.0 (landed e.1 first) b ne in
          elim (h.each b) [ inl a ↦ inl (flushed ∙ a.0, live ∙ a.1) | inr a ↦ inr (flushed ∙ a.0, live ∙ a.1) ]

pub row_landed : (old now new : Kept) (first count place block : ℕ) → IsLandedUpTo old now first count → place < table.len now.flushed
    → ((e : ℕ × Version) → slice_get (table.entries now.flushed) place ≡ Some e → block ≡ e.0)
    → ((v : Version) → table.get now.flushed block ≡ Some v → new ≡ with_both now (table.remove now.flushed block) (table.insert now.live block (landed v first)))
    → IsLandedUpTo old new first (count + 1)
row_landed old now new first count place block h inside named step =
    let row = entry_at (table.entries now.flushed) place (subst (λ n. place < n) (table.len-entries now.flushed) inside) in
    let at = row_gets now.flushed place row.0 row.1 in
    let is : block ≡ row.0.0 = named row.0 row.1 in
    one_landed old now new first count h row.0 at
    (step row.0.1 (ap (table.get now.flushed) is ∙ at) ∙ ap (λ (b : ℕ). with_both now (table.remove now.flushed b) (table.insert now.live b (landed row.0.1 first))) is)

-- the block in a row is one of the flush
pub row_contains : (now : Kept) (place block : ℕ) → place < table.len now.flushed → ((e : ℕ × Version) → slice_get (table.entries now.flushed) place ≡ Some e → block ≡ e.0) → table.contains_key now.flushed block ≡ true
row_contains now place block inside named =
    let row = entry_at (table.entries now.flushed) place (subst (λ n. place < n) (table.len-entries now.flushed) inside) in
    ap (table.contains_key now.flushed) (named row.0 row.1) ∙ ap is_some (row_gets now.flushed place row.0 row.1)

-- none is left
module _ (old now : Kept) (first count : ℕ) (h : IsLandedUpTo old now first count) (all : table.len old.flushed ≤ count) where
  none_left : (b : ℕ) (v : Version) → table.get now.flushed b ≡ Some v → ⊥
  none_left b v at =
      let less = len_without now.flushed b v at in
      let over = h.left_over in
      absurd (omega arith)

  pub empty_then : now.flushed ≡ table.empty
  empty_then = all_none now.flushed none_left

  pub same_then : now ≡ with_both old table.empty now.live
  same_then = h.same ∙ ap (λ (m : Flushed). with_both old m now.live) empty_then

  pub landed_then : (b : ℕ) → table.get now.live b ≡ logged_over (table.get old.flushed b) first (table.get old.live b)
  landed_then b = by (h.each b)
    where
      none_here : table.get now.flushed b ≡ None
      none_here = ap (λ (m : Flushed). table.get m b) empty_then ∙ table.get-empty nat_cmp b

      by : ((table.get now.flushed b ≡ table.get old.flushed b) × (table.get now.live b ≡ table.get old.live b))
          ⊎ ((table.get now.flushed b ≡ None) × (table.get now.live b ≡ logged_over (table.get old.flushed b) first (table.get old.live b)))
          → table.get now.live b ≡ logged_over (table.get old.flushed b) first (table.get old.live b)
      by (inl a) = a.1 ∙ ap (λ (o : Option Version). logged_over o first (table.get old.live b)) (sym none_here ∙ a.0)
      by (inr a) = a.1
