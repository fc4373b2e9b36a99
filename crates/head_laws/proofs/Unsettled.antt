-- A head that is settled at the fence.
use Rattle.std.proofs.Common.{ℕ, ◌≡◌, true, false, Option, None, Some, refl, subst, inl, inr, arith, drop}
use Rattle.trace_text.specs.declared.item.TraceItem.TheVariants as trace
use Rattle.run_rules.specs.Lives.{Life}
use Rattle.head_laws.specs.Journals.{DoesNothing, Says, Stops, IsFenced, ReplaysPast, SaysRecovered, Loses, IsRecovered, Joins, Done, Then}
use Rattle.head_laws.specs.Example.{clean}
use Rattle.head_laws.specs.Unsettled.{crashed, HeadIsUnsettled}

no-way : {A : Type 0} → false ≡ true → A
no-way e = absurd (let f : false ≡ true = e in cc)

inside : {A : Type 0} {a b : A} → Some a ≡ Some b → a ≡ b
inside e = cc

two : ◌≡◌ {A = ℕ} 2 1 → ⊥
two e = absurd (omega (arith, e))

none-flies : ◌≡◌ {A = Option ℕ} None (Some 1) → ⊥
none-flies e = cc

abbrev first : Life
first = record { node = 1; join = 0 }

did-nothing : (l : Life) → first ≡ l → DoesNothing 1 (drop l.join crashed)
did-nothing l e = subst (λ (k : Life). DoesNothing 1 (drop k.join crashed)) e tt

pub unsettled : HeadIsUnsettled
unsettled = (
  _,
  record { runs = refl; unlost = refl; last = refl; cut = λ d. refl; name = refl; flies = refl; silent = refl },
  Then _ _ _ _ (Then _ _ _ _ (Then _ _ _ _ (Then _ _ _ _ (Then _ _ _ _ (Then _ _ _ _ Done
      (Joins refl (inr refl) (inl refl) refl))
      (Says (trace.Join 2) two))
      (Says (trace.WriteReplay 1 5) tt))
      (Says (trace.Barrier 1) tt))
      (Says (trace.WriteReplay 1 31) tt))
      (Stops (trace.Crash 1) refl refl),
  Then _ _ _ _ (Then _ _ _ _ (Then _ _ _ _ (Then _ _ _ _ (Then _ _ _ _ (Then _ _ _ _ Done
      (Joins refl (inr refl) (inl refl) refl))
      (Says (trace.Join 2) two))
      (Says (trace.WriteReplay 1 5) tt))
      (Says (trace.Barrier 1) tt))
      (Says (trace.WriteReplay 1 31) tt))
      (Stops (trace.Crash 1) refl refl),
  λ d h. inr (refl, inr (λ l is. did-nothing l (inside is))),
  (
    _,
    Then _ _ _ _ (Then _ _ _ _ (Then _ _ _ _ (Then _ _ _ _ (Then _ _ _ _ Done
        (ReplaysPast (clean 31 9) refl (inr (λ l is. did-nothing l (inside is))) refl))
        (IsFenced refl refl none-flies refl))
        (SaysRecovered 2 refl))
        (Loses 0 0 refl refl (inr refl)))
        (IsRecovered refl refl refl (λ r l is. no-way r)),
    refl,
  ),
  (
    _,
    Then _ _ _ _ (Then _ _ _ _ (Then _ _ _ _ (Then _ _ _ _ (Then _ _ _ _ (Then _ _ _ _ (Then _ _ _ _ Done
        (IsFenced refl refl none-flies refl))
        (Says (trace.WriteReplay 2 31) tt))
        (ReplaysPast (clean 31 9) refl (inl (inl refl)) refl))
        (Says (trace.Barrier 2) tt))
        (SaysRecovered 2 refl))
        (Loses 0 0 refl refl (inr refl)))
        (IsRecovered refl refl refl (λ r l is. no-way r)),
    refl,
  ),
  refl,
  refl,
  refl,
  refl,
)
