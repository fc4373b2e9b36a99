-- The least lock among the first rows of live blocks, with one row more.
use Rattle.std.proofs.Common.{◌≡◌, ◌+◌, ◌<◌, ℕ, ◌⊎◌, inl, inr, true, false, ◌&&◌, ◌||◌, List, Option, None, Some, refl, sym, ap, subst, ◌∙◌, true≢false, arith}
use Rattle.std.specs.Prelude.{◌==◌, nat_lt, slice_get}
use Rattle.std.specs.FinMap as table
use Rattle.std.proofs.lemmas.Bool.{cases_Bool, cases_eq, cond-true, cond-false}
use Rattle.std.proofs.lemmas.Bool.Decides.{nat_tests}
use Rattle.glock_names.specs.declared.LockName.{LockName}
use Rattle.log_tables.specs.Versions.Way.{Away, Flying, Home}
use Rattle.log_tables.proofs.Reading.{row_gets}
use Rattle.log_values.specs.Homing.{IsAwayUnder}
use Rattle.log_values.specs.Log.{Entry, LogValue, Way}
use Rattle.log_memory.specs.Locks.{IsLeastFound, IsLeastOf, IsNextLock, NoneIsAway, comes_before, lesser_of}
use Rattle.log_memory.specs.Rows.{is_away}
use Rattle.log_memory.proofs.RowsFound.{found}

-- ---- the order

not_itself : (k n : ℕ) → (nat_lt k k || ((k == k) && nat_lt n n)) ≡ false
not_itself k n = grind (arith, nat_tests)

behind : (a b c x y z : ℕ) → (nat_lt a c || ((a == c) && nat_lt x z)) ≡ false → (nat_lt b c || ((b == c) && nat_lt y z)) ≡ true → (nat_lt a b || ((a == b) && nat_lt x y)) ≡ false
behind a b c x y z low high = grind (arith, nat_tests)

-- ---- one row more

entry_is : {A : Type 0} {a b : A} → Some a ≡ Some b → a ≡ b
entry_is e = cc

step : (i n : ℕ) → i < n + 1 → (i < n) ⊎ (i ≡ n)
step i n low = elim (cases_eq i n) [ inl e ↦ inr e | inr ne ↦ inl (omega (arith, low, ne)) ]

module _ (es : List (ℕ × Entry)) (count : ℕ) (e : ℕ × Entry) (at : slice_get es count ≡ Some e) where
  pub with_away : (least : Option LockName) → IsLeastFound es count least → is_away e.1.way ≡ true → IsLeastOf es (count + 1) (lesser_of least e.1.lock)
  with_away None none away = record {
    place = count;
    entry = e;
    low = omega arith;
    here = at;
    goes = away;
    is = refl;
    least = λ i x low here goes. elim (step i count low) [
      | inl less ↦ absurd (true≢false (sym goes ∙ none i x less here))
      | inr same ↦ subst (λ (y : ℕ × Entry). comes_before y.1.lock e.1.lock ≡ false) (entry_is (sym at ∙ ap (slice_get es) (sym same) ∙ here)) (not_itself e.1.lock.kind e.1.lock.number)
    ];
  }
  with_away (Some other) was away = elim (cases_Bool (comes_before e.1.lock other)) [
    | inl before ↦ subst (IsLeastOf es (count + 1)) (sym (cond-true (comes_before e.1.lock other) e.1.lock other before)) (record {
      place = count;
      entry = e;
      low = omega arith;
      here = at;
      goes = away;
      is = refl;
      least = λ i x low here goes. elim (step i count low) [
        | inl less ↦ behind x.1.lock.kind e.1.lock.kind other.kind x.1.lock.number e.1.lock.number other.number (was.least i x less here goes) before
        | inr same ↦ subst (λ (y : ℕ × Entry). comes_before y.1.lock e.1.lock ≡ false) (entry_is (sym at ∙ ap (slice_get es) (sym same) ∙ here)) (not_itself e.1.lock.kind e.1.lock.number)
      ];
    })
    | inr not_before ↦ subst (IsLeastOf es (count + 1)) (sym (cond-false (comes_before e.1.lock other) e.1.lock other not_before)) (record {
      place = was.place;
      entry = was.entry;
      low = (let less = was.low in omega (arith, less));
      here = was.here;
      goes = was.goes;
      is = was.is;
      least = λ i x low here goes. elim (step i count low) [
        | inl less ↦ was.least i x less here goes
        | inr same ↦ subst (λ (y : ℕ × Entry). comes_before y.1.lock other ≡ false) (entry_is (sym at ∙ ap (slice_get es) (sym same) ∙ here)) not_before
      ];
    })
  ]

  pub with_other : (least : Option LockName) → IsLeastFound es count least → is_away e.1.way ≡ false → IsLeastFound es (count + 1) least
  with_other None none stays = λ i x low here. elim (step i count low) [
    | inl less ↦ none i x less here
    | inr same ↦ subst (λ (y : ℕ × Entry). is_away y.1.way ≡ false) (entry_is (sym at ∙ ap (slice_get es) (sym same) ∙ here)) stays
  ]
  with_other (Some lock) was stays = record {
    place = was.place;
    entry = was.entry;
    low = (let less = was.low in omega (arith, less));
    here = was.here;
    goes = was.goes;
    is = was.is;
    least = λ i x low here goes. elim (step i count low) [
      | inl less ↦ was.least i x less here goes
      | inr same ↦ absurd (true≢false (sym goes ∙ subst (λ (y : ℕ × Entry). is_away y.1.way ≡ false) (entry_is (sym at ∙ ap (slice_get es) (sym same) ∙ here)) stays))
    ];
  }

-- ---- of all rows

its_bytes : (w : Way) → is_away w ≡ true → (bytes : List ℕ) × (w ≡ Away bytes)
its_bytes Home e = absurd (true≢false (sym e))
its_bytes (Away bytes) e = (bytes, refl)
its_bytes (Flying bytes) e = absurd (true≢false (sym e))

module _ (log : LogValue) where
  -- a block that is away has a row
  row_away : (lock : LockName) (b : ℕ) (bytes : List ℕ) (away : IsAwayUnder log lock b bytes) → (i : ℕ) × (x : ℕ × Entry) × (i < table.len log.live) × (slice_get (table.entries log.live) i ≡ Some x) × (is_away x.1.way ≡ true) × (x.1.lock ≡ lock)
  row_away lock b bytes away =
      let row = found log.live b away.entry away.live in
      (row.0, (b, away.entry), row.1.0, row.1.1, ap is_away away.away, away.under)

  pub next_lock : (lock : LockName) → IsLeastFound (table.entries log.live) (table.len log.live) (Some lock) → IsNextLock log lock
  next_lock lock least =
      let own = its_bytes least.entry.1.way least.goes in
      record {
        block = least.entry.0;
        bytes = own.0;
        away = record { entry = least.entry.1; live = row_gets log.live least.place least.entry least.here; under = least.is; away = own.1 };
        least = λ other c at away. let row = row_away other c at away in
            subst (λ (l : LockName). comes_before l lock ≡ false) row.5 (least.least row.0 row.1 row.2 row.3 row.4);
      }

  pub none_away : IsLeastFound (table.entries log.live) (table.len log.live) None → NoneIsAway log
  none_away none lock b bytes away = let row = row_away lock b bytes away in true≢false (sym row.4 ∙ none row.0 row.1 row.2 row.3)
