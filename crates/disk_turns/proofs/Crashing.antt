-- A node that crashes behind a write.
use Rattle.std.proofs.Common.{◌≡◌, ◌≢◌, ℕ, ◌+◌, ◌-◌, ◌<◌, ◌≤◌, List, length, take, Option, None, Some, inl, inr, refl, sym, ap, ◌∙◌, subst, arith}
use Rattle.std.specs.Prelude.{IfNone, MatchOption}
use Rattle.std.proofs.lemmas.Bool.{cases_eq}
use Rattle.std.proofs.lemmas.List.{length-take-le}
use Rattle.drafts.specs.declared.change.Written.{Written}
use Rattle.fault_counts.specs.declared.Rise.{Rise}
use Rattle.shared_disk.specs.Disk.{DiskState, Gains, Operation}
use Rattle.disk_turns.specs.Crashes.{Awaits, IsBefore, StopsByCrash, left_after}
use Rattle.disk_turns.specs.Faults.{HasStoppedInAs}
use Rattle.disk_turns.specs.declared.faults.TurnFault.{TurnFault}
use Rattle.disk_turns.specs.Turns.{StopsAt, moment, writes_of}
use Rattle.disk_turns.specs.Writing.{AreInFlight, flights_of}

some_is : {A : Type 0} {x y : A} → ◌≡◌ {A = Option A} (Some x) (Some y) → x ≡ y
some_is e = cc

-- ---- where it is

pub at_start : (armed : Option ℕ) → Awaits armed → IsBefore 0 armed
at_start None awaits = tt
at_start (Some left) awaits = omega (arith, awaits)

-- one more write, behind which it wasn't to crash
pub one_further : (armed : Option ℕ) (made : ℕ) → IsBefore made armed → armed ≢ Some (made + 1) → IsBefore (made + 1) armed
one_further None made before other = tt
one_further (Some left) made before other = elim (cases_eq left (made + 1)) [
  | inl same ↦ absurd (other (ap (λ (k : ℕ). Some k) same))
  | inr apart ↦ (let low : made < left = before in omega (arith, low, apart))
]

-- behind so many writes of it others come
pub further : (armed : Option ℕ) (made more : ℕ) → IsBefore made armed → IsBefore more (left_after made armed) → IsBefore (made + more) armed
further None made more before behind = tt
further (Some left) made more before behind = (let a : made < left = before in let b : more < left - made = behind in omega (arith, a, b))

-- one that isn't to crash at a write doesn't
pub never : (fault : TurnFault) (before : ℕ) → StopsByCrash None before fault → fault.rise ≡ None → ⊥
never fault before stops none = by fault.rise stops none
  where
    by : (r : Option Rise) → MatchOption r ((◌≡◌ {A = Option ℕ} None (Some (before + fault.in_flight))) × (1 ≤ fault.in_flight)) (λ r. IsBefore (before + fault.in_flight) None) → r ≡ None → ⊥
    by None is none = (let no : ◌≡◌ {A = Option ℕ} None (Some (before + fault.in_flight)) = is.0 in cc)
    by (Some r) is none = cc

-- what it has written is in flight
pub stopped_crash : (node : ℕ) (d next : DiskState) (a c : Option (List Operation)) (ws : List Written) (made : ℕ) (fault : TurnFault) → made ≤ length ws → StopsAt ws fault.block (take made ws) (take made ws)
    → fault ≡ record { block = fault.block; rise = None; on_disk = 0; in_flight = made } → AreInFlight node d next (flights_of (take made ws)) → Gains a c (writes_of node (take made ws))
    → HasStoppedInAs node (moment d a) (moment next c) ws fault
stopped_crash node d next a c ws made fault low stops is fly gains = record {
  stopped = record { wrote = take made ws; flying = take made ws; stops = stops; disk = fly; gains = gains };
  in_flight = ap (λ (f : TurnFault). f.in_flight) is ∙ sym (length-take-le made ws low);
  exactly = subst (λ (r : Option Rise). IfNone r (take made ws ≡ take made ws)) (sym (ap (λ (f : TurnFault). f.rise) is)) refl;
}
