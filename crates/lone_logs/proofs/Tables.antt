-- There is a table of what is live behind a flush.
use Rattle.std.proofs.Common.{◌≡◌, ℕ, Bool, true, false, cond, List, [], ◌∷◌, Option, None, Some, refl, sym, ap, ◌∙◌, is_some}
use Rattle.std.specs.Prelude.{if◌then◌else◌, nat_lt}
use Rattle.std.specs.FinMap as table
use Rattle.std.specs.Ordering.{eq_by_cmp, nat_cmp}
use Rattle.std.specs.declared.cmp.Ordering.TheVariants.{Equal}
use Rattle.std.proofs.lemmas.Cmp.{nat_cmp_total, ranked}
use Rattle.log_values.specs.Blocks as set
use Rattle.log_values.specs.Flushing.{behind_tail, first_place, left_from, live_behind, logged_over}
use Rattle.log_values.specs.Log.{Entry, Flush, LogValue, Version}
use Rattle.log_tables.specs.Versions.Way.{Away}

abbrev Live : Type 0
Live = table.FinMap nat_cmp Entry

entry_of : Version → ℕ → Entry
entry_of v first = record { lock = v.lock; first = first; way = Away v.bytes }

put_over : List (ℕ × Version) → ℕ → Live → Live
put_over [] first m = m
put_over (e ∷ es) first m = table.insert (put_over es first m) e.0 (entry_of e.1 first)

put_is : (es : List (ℕ × Version)) (first : ℕ) (m : Live) (b : ℕ) → table.get (put_over es first m) b ≡ logged_over (table.find nat_cmp b es) first (table.get m b)
unfolding put_over entry_of
put_is [] first m b = refl
put_is (e ∷ es) first m b = table.get-insert nat_cmp_total (put_over es first m) e.0 (entry_of e.1 first) b ∙ by (eq_by_cmp nat_cmp b e.0) (put_is es first m b)
  where
    by : (t : Bool) → table.get (put_over es first m) b ≡ logged_over (table.find nat_cmp b es) first (table.get m b) → cond t (Some (entry_of e.1 first)) (table.get (put_over es first m) b) ≡ logged_over (cond t (Some e.1) (table.find nat_cmp b es)) first (table.get m b)
    by true rest = refl
    by false rest = rest

module _ (log : LogValue) (f : Flush) (tail : ℕ) where
  abbrev rest : ℕ → Option Entry
  rest b = if set.contains f.revokes b then None else left_from log tail (table.get log.live b)

  kept_is : (b : ℕ) → cond (is_some (rest b)) (table.get log.live b) None ≡ rest b
  kept_is b = by (set.contains f.revokes b) (table.get log.live b)
    where
      left : (t : Bool) (e : Entry) → cond (is_some (if t then None else Some e)) (Some e) None ≡ (if t then None else Some e)
      left true e = refl
      left false e = refl

      by : (c : Bool) (o : Option Entry) → cond (is_some (if c then None else left_from log tail o)) o None ≡ (if c then None else left_from log tail o)
      by true o = refl
      by false None = refl
      by false (Some e) = left (nat_lt (behind_tail log e.first) (behind_tail log tail)) e

  pub live_table : (m : Live) × ((b : ℕ) → table.get m b ≡ live_behind log f tail b)
  live_table = (
    put_over (table.entries f.versions) (first_place log) (table.retain_keys log.live (λ b. is_some (rest b))),
    λ b.
        put_is (table.entries f.versions) (first_place log) (table.retain_keys log.live (λ b. is_some (rest b))) b
        ∙ (λ i. logged_over (sym (table.get-entries f.versions b) i) (first_place log) ((table.get-retain_keys log.live (λ b. is_some (rest b)) b (λ x e. ap (λ q. is_some (rest q)) (sym (ranked b x Equal (sym e)))) ∙ kept_is b) i)),
  )
