-- The oldest transaction that has a needed block, row by row.
use Rattle.std.proofs.Common.{◌≡◌, ℕ, ◌+◌, ◌<◌, ◌≤◌, ◌&&◌, not, Bool, true, false, Option, None, Some, ◌⊎◌, inl, inr, refl, sym, ap, subst, ◌∙◌, true≢false, is_some, slice_get, if◌then◌else◌, nat_le, arith}
use Rattle.std.proofs.lemmas.Bool.{cases_eq}
use Rattle.std.proofs.lemmas.Bool.Decides.{leb_tells}
use Rattle.std.specs.FinMap as table
use Rattle.log_tables.specs.Kept.{is_home, place_of_way}
use Rattle.log_tables.specs.Versions.Way.{Home, Away, Flying}
use Rattle.log_tables.specs.declared.reads.Whereabouts.{Whereabouts}
use Rattle.log_tables.specs.declared.reads.Whereabouts.TheVariants as at
use Rattle.log_tables.proofs.Reading.{row_gets}
use Rattle.log_tables.proofs.Steps.{same_some}
use Rattle.log_values.specs.Blocks as set
use Rattle.log_values.specs.Log.{Entry, Flush, LogValue, Way}
use Rattle.log_values.specs.Flushing.{IsNeeded, IsTail, NoneIsNeeded, behind_tail}
use Rattle.log_values.specs.Flushing.IsTail.{of_oldest}
use Rattle.log_values.proofs.Homing.{and_tells}
use Rattle.log_memory.specs.Flushing.{is_needed, older}
use Rattle.log_memory.proofs.RowsFound.{found}

abbrev pub tells_home : Whereabouts → Bool
tells_home at.Home = true
tells_home at.Away = false
tells_home at.Flying = false

pub home_is : (w : Way) → tells_home (place_of_way w) ≡ is_home w
home_is Home = refl
home_is (Away bytes) = refl
home_is (Flying bytes) = refl

-- ---- a needed block

not_true : (b : Bool) → not b ≡ true → b ≡ false
not_true true is = absurd (true≢false (sym is))
not_true false is = refl

module _ (log : LogValue) (f : Flush) where
  needs : (b : ℕ) (e : Entry) → is_needed f (b, e) ≡ true → table.get log.live b ≡ Some e → IsNeeded log f b e
  needs b e is live =
      let first = and_tells (not (is_home e.way) && not (table.contains_key f.versions b)) (not (set.contains f.revokes b)) is in
      let second = and_tells (not (is_home e.way)) (not (table.contains_key f.versions b)) first.0 in
      record { live = live; away = not_true (is_home e.way) second.0; unlogged = not_true (table.contains_key f.versions b) second.1; unrevoked = not_true (set.contains f.revokes b) first.1 }

  needed_is : (b : ℕ) (e : Entry) → IsNeeded log f b e → is_needed f (b, e) ≡ true
  needed_is b e is = λ i. (not (is.away i) && not (is.unlogged i)) && not (is.unrevoked i)

  abbrev Row : ℕ → ℕ × Entry → Type 0
  Row i e = slice_get (table.entries log.live) i ≡ Some e

  -- of the first so many rows
  pub data IsOldestOf (count : ℕ) : Option ℕ → Type 0 where
    none_yet : ((i : ℕ) (e : ℕ × Entry) → i < count → Row i e → is_needed f e ≡ false) → IsOldestOf count None
    so_far : (i : ℕ) (e : ℕ × Entry) → i < count → Row i e → is_needed f e ≡ true
        → ((j : ℕ) (d : ℕ × Entry) → j < count → Row j d → is_needed f d ≡ true → behind_tail log e.1.first ≤ behind_tail log d.1.first) → IsOldestOf count (Some e.1.first)

  pub none_seen : IsOldestOf 0 None
  none_seen = none_yet (λ i e few at. absurd (omega arith))

  module _ (count : ℕ) (e : ℕ × Entry) (row : Row count e) where
    -- a row behind the first so many is the next, or one of them
    by_row : (P : ℕ × Entry → Type 0) (j : ℕ) (d : ℕ × Entry) → j < count + 1 → Row j d → P e → (j < count → P d) → P d
    by_row P j d few at here before = by (cases_eq j count)
      where
        by : (j ≡ count) ⊎ (j ≡ count → ⊥) → P d
        by (inl is) = subst P (same_some (slice_get (table.entries log.live) j) e d (ap (slice_get (table.entries log.live)) is ∙ row) at) here
        by (inr ne) = before (omega arith)

    pub passed_over : (o : Option ℕ) → is_needed f e ≡ false → IsOldestOf count o → IsOldestOf (count + 1) o
    passed_over None is (none_yet none) = none_yet (λ i d few at. by_row (λ x. is_needed f x ≡ false) i d few at is (λ less. none i d less at))
    passed_over (Some t) is (so_far i x less at needed least) =
        so_far i x (omega arith) at needed
        (λ j d few there wanted. by_row (λ y. is_needed f y ≡ true → behind_tail log x.1.first ≤ behind_tail log y.1.first) j d few there (λ not_so. absurd (true≢false (sym not_so ∙ is))) (λ before. least j d before there) wanted)

    pub taken_in : (o : Option ℕ) → is_needed f e ≡ true → IsOldestOf count o → IsOldestOf (count + 1) (Some (older log o e.1.first))
    taken_in None is (none_yet none) =
        so_far count e (omega arith) row is
        (λ j d few there wanted. by_row (λ y. is_needed f y ≡ true → behind_tail log e.1.first ≤ behind_tail log y.1.first) j d few there (λ w. omega arith) (λ before w. absurd (true≢false (sym w ∙ none j d before there))) wanted)
    taken_in (Some t) is (so_far i x less at needed least) = by (leb_tells (behind_tail log x.1.first) (behind_tail log e.1.first))
      where
        by : ((nat_le (behind_tail log x.1.first) (behind_tail log e.1.first) ≡ true) × (behind_tail log x.1.first ≤ behind_tail log e.1.first))
            ⊎ ((nat_le (behind_tail log x.1.first) (behind_tail log e.1.first) ≡ false) × (behind_tail log e.1.first < behind_tail log x.1.first))
            → IsOldestOf (count + 1) (Some (if nat_le (behind_tail log x.1.first) (behind_tail log e.1.first) then x.1.first else e.1.first))
        by (inl t) =
            subst (λ (b : Bool). IsOldestOf (count + 1) (Some (if b then x.1.first else e.1.first))) (sym t.0)
            (so_far i x (omega arith) at needed (λ j d few there wanted. by_row (λ y. is_needed f y ≡ true → behind_tail log x.1.first ≤ behind_tail log y.1.first) j d few there (λ w. t.1) (λ before w. least j d before there w) wanted))
        by (inr t) =
            subst (λ (b : Bool). IsOldestOf (count + 1) (Some (if b then x.1.first else e.1.first))) (sym t.0)
            (so_far count e (omega arith) row is
            (λ j d few there wanted. by_row (λ y. is_needed f y ≡ true → behind_tail log e.1.first ≤ behind_tail log y.1.first) j d few there (λ w. omega arith) (λ before w. let far = least j d before there w in let near = t.1 in omega arith) wanted))

  -- ---- of all rows

  module _ (count : ℕ) (all : table.len log.live ≤ count) where
    pub none_needed : (o : Option ℕ) → o ≡ None → IsOldestOf count o → NoneIsNeeded log f
    none_needed None is (none_yet none) b e needed =
        let row = found log.live b e needed.live in
        true≢false (sym (needed_is b e needed) ∙ none row.0 (b, e) (omega (arith, row.1.0)) row.1.1)
    none_needed (Some t) is h b e needed = absurd (true≢false (ap is_some is))

    pub tail_then : (o : Option ℕ) (tail : ℕ) → o ≡ Some tail → IsOldestOf count o → IsTail log f tail
    tail_then None tail is h = absurd (true≢false (sym (ap is_some is)))
    tail_then (Some t) tail is (so_far i x less at needed least) =
        subst (IsTail log f) (same_some (Some x.1.first) x.1.first tail refl is)
        (of_oldest x.0 x.1 (needs x.0 x.1 needed (row_gets log.live i x at))
        (λ c d wanted.
        let row = found log.live c d wanted.live in
        least row.0 (c, d) (omega (arith, row.1.0)) row.1.1 (needed_is c d wanted)))
