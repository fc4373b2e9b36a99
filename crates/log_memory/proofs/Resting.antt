-- Blocks that aren't wanted at home any more, row by row.
use Rattle.std.proofs.Common.{◌≡◌, ℕ, ◌+◌, ◌<◌, ◌≤◌, Bool, true, false, Option, None, Some, ◌⊎◌, inl, inr, refl, sym, ap, subst, ◌∙◌, true≢false, is_some, slice_get, arith}
use Rattle.std.proofs.lemmas.Bool.{cases_eq}
use Rattle.std.specs.Ordering.{nat_cmp}
use Rattle.std.specs.FinMap as table
use Rattle.log_tables.specs.Kept.{Kept, rested}
use Rattle.log_tables.proofs.Counting.{apart, at_key}
use Rattle.log_tables.proofs.Reading.{row_gets}
use Rattle.log_tables.proofs.Steps.{same_some}
use Rattle.log_tables.specs.Versions.Way.{Home}
use Rattle.log_values.specs.Blocks as set
use Rattle.log_values.specs.Log.{Entry}
use Rattle.log_values.proofs.Subsets.{within_both}
use Rattle.log_memory.specs.Flushing.{rested_if}
use Rattle.log_memory.proofs.RowsFound.{found}
use Rattle.log_memory.proofs.RowsRead.{entry_at}

abbrev Live : Type 0
Live = table.FinMap nat_cmp Entry

abbrev pub with_live : Kept → Live → Kept
with_live k live = record k { live = live }

-- tables of which only what is live has changed, once more
pub live_again : (old now new : Kept) (live : Live) → now ≡ with_live old now.live → new ≡ with_live now live → (new ≡ with_live old new.live) × (new.live ≡ live)
live_again old now new live same is =
    let at : new.live ≡ live = ap (λ (k : Kept). k.live) is in
    (is ∙ ap (λ (k : Kept). with_live k live) same ∙ ap (with_live old) (sym at), at)

-- ---- one block

rested_here : (live : Live) (k : ℕ) (o : Option Entry) → table.get live k ≡ o → table.get (rested live k o) k ≡ rested_if true o
rested_here live k None at = at
rested_here live k (Some e) at = at_key live k (record e { way = Home })

rested_apart : (live : Live) (k b : ℕ) (o : Option Entry) → (b ≡ k → ⊥) → table.get (rested live k o) b ≡ table.get live b
rested_apart live k b None ne = refl
rested_apart live k b (Some e) ne = apart live k (record e { way = Home }) b ne

rested_twice : (o : Option Entry) → rested_if true (rested_if true o) ≡ rested_if true o
rested_twice None = refl
rested_twice (Some e) = refl

-- ---- row by row

pub record IsRestedUpTo (old now : Live) (revoked : set.Blocks) (count : ℕ) : Type 0 where
  pub each : (b : ℕ) → (table.get now b ≡ table.get old b) ⊎ ((set.contains revoked b ≡ true) × (table.get now b ≡ rested_if true (table.get old b)))
  pub done : (i : ℕ) (e : ℕ × Unit {0}) → i < count → slice_get (table.entries revoked) i ≡ Some e → table.get now e.0 ≡ rested_if true (table.get old e.0)

module _ (old now : Live) (revoked : set.Blocks) (place : ℕ) (h : IsRestedUpTo old now revoked place) (e : ℕ × Unit {0}) (row : slice_get (table.entries revoked) place ≡ Some e) where
  abbrev after : Live
  after = rested now e.0 (table.get now e.0)

  here : table.get after e.0 ≡ rested_if true (table.get old e.0)
  here = rested_here now e.0 (table.get now e.0) refl ∙ by (h.each e.0)
    where
      by : (table.get now e.0 ≡ table.get old e.0) ⊎ ((set.contains revoked e.0 ≡ true) × (table.get now e.0 ≡ rested_if true (table.get old e.0))) → rested_if true (table.get now e.0) ≡ rested_if true (table.get old e.0)
      by (inl is) = ap (rested_if true) is
      by (inr is) = ap (rested_if true) is.1 ∙ rested_twice (table.get old e.0)

  elsewhere : (b : ℕ) → (b ≡ e.0 → ⊥) → table.get after b ≡ table.get now b
  elsewhere b ne = rested_apart now e.0 b (table.get now e.0) ne

  pub one_rested : IsRestedUpTo old after revoked (place + 1)
  one_rested = record { each = λ b. by_key b (cases_eq b e.0); done = λ i d few at. by_place i d at (cases_eq i place) few }
    where
      by_key : (b : ℕ) → (b ≡ e.0) ⊎ (b ≡ e.0 → ⊥) → (table.get after b ≡ table.get old b) ⊎ ((set.contains revoked b ≡ true) × (table.get after b ≡ rested_if true (table.get old b)))
      by_key b (inl is) = inr (ap (set.contains revoked) is ∙ ap is_some (row_gets revoked place e row), subst (λ (q : ℕ). table.get after q ≡ rested_if true (table.get old q)) (sym is) here)
      by_key b (inr ne) = elim (h.each b) [ inl is ↦ inl (elsewhere b ne ∙ is) | inr is ↦ inr (is.0, elsewhere b ne ∙ is.1) ]

      by_place : (i : ℕ) (d : ℕ × Unit {0}) → slice_get (table.entries revoked) i ≡ Some d → (i ≡ place) ⊎ (i ≡ place → ⊥) → i < place + 1 → table.get after d.0 ≡ rested_if true (table.get old d.0)
      by_place i d at (inl is) few =
          let same : e ≡ d = same_some (slice_get (table.entries revoked) i) e d (ap (slice_get (table.entries revoked)) is ∙ row) at in
          subst (λ (x : ℕ × Unit {0}). table.get after x.0 ≡ rested_if true (table.get old x.0)) same here
      by_place i d at (inr ne) few = by_row (cases_eq d.0 e.0)
        where
          by_row : (d.0 ≡ e.0) ⊎ (d.0 ≡ e.0 → ⊥) → table.get after d.0 ≡ rested_if true (table.get old d.0)
          by_row (inl is) = subst (λ (q : ℕ). table.get after q ≡ rested_if true (table.get old q)) (sym is) here
          by_row (inr other) = elsewhere d.0 other ∙ h.done i d (omega arith) at

pub row_rested : (old mid new : Kept) (revoked : set.Blocks) (place : ℕ) → mid ≡ with_live old mid.live → IsRestedUpTo old.live mid.live revoked place → place < table.len revoked
    → ((e : ℕ × Unit {0}) → slice_get (table.entries revoked) place ≡ Some e → new ≡ with_live mid (rested mid.live e.0 (table.get mid.live e.0)))
    → (new ≡ with_live old new.live) × IsRestedUpTo old.live new.live revoked (place + 1)
row_rested old mid new revoked place same h inside step =
    let row = entry_at (table.entries revoked) place (subst (λ n. place < n) (table.len-entries revoked) inside) in
    let is = live_again old mid new (rested mid.live row.0.0 (table.get mid.live row.0.0)) same (step row.0 row.1) in
    (is.0, subst (λ (m : Live). IsRestedUpTo old.live m revoked (place + 1)) (sym is.1) (one_rested old.live mid.live revoked place h row.0 row.1))

pub all_rested : (old now : Live) (revoked : set.Blocks) (count : ℕ) → table.len revoked ≤ count → IsRestedUpTo old now revoked count → (b : ℕ) → table.get now b ≡ rested_if (set.contains revoked b) (table.get old b)
all_rested old now revoked count all h b = by (table.get revoked b) refl
  where
    by : (o : Option (Unit {0})) → table.get revoked b ≡ o → table.get now b ≡ rested_if (set.contains revoked b) (table.get old b)
    by None is = elim (h.each b) [
      | inl same ↦ same ∙ ap (λ t. rested_if t (table.get old b)) (sym (ap is_some is))
      | inr other ↦ absurd (true≢false (sym other.0 ∙ ap is_some is))
    ]
    by (Some u) is =
        let row = found revoked b u is in
        h.done row.0 (b, u) (omega (arith, row.1.0)) row.1.1 ∙ ap (λ t. rested_if t (table.get old b)) (sym (ap is_some is))

-- ---- none more are live

some_rested : (t : Bool) (o : Option Entry) → is_some (rested_if t o) ≡ is_some o
some_rested true None = refl
some_rested true (Some e) = refl
some_rested false o = refl

no_more : (old now : Live) (revoked : set.Blocks) → ((b : ℕ) → table.get now b ≡ rested_if (set.contains revoked b) (table.get old b)) → table.len now ≤ table.len old
no_more old now revoked rests =
    let fit = within_both now old (table.empty {X = Entry} {R = nat_cmp}) (λ b there. inl (sym (ap is_some (rests b) ∙ some_rested (set.contains revoked b) (table.get old b)) ∙ there)) in
    let none = table.len-empty nat_cmp Entry in
    omega arith

pub rested_room : (old now : Kept) (revoked : set.Blocks) → now ≡ with_live old now.live → ((b : ℕ) → table.get now.live b ≡ rested_if (set.contains revoked b) (table.get old.live b))
    → table.len old.live + table.len old.flushed ≤ old.places → table.len now.live + table.len now.flushed ≤ now.places
rested_room old now revoked same rests room =
    let few = no_more old.live now.live revoked rests in
    let flushed : table.len now.flushed ≡ table.len old.flushed = ap (λ (k : Kept). table.len k.flushed) same in
    let places : now.places ≡ old.places = ap (λ (k : Kept). k.places) same in
    omega arith
