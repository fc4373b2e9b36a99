-- What a write and a barrier of node 1 make of a disk.
use Rattle.std.proofs.Common.{◌≡◌, ◌<◌, ℕ, inl, inr, Bool, true, false, List, [], ◌∷◌, length, Option, None, Some, refl, sym, ap, subst, ◌∙◌}
use Rattle.std.specs.Prelude.{◌==◌, ◌≢◌, IsTrue, nat_lt, if◌then◌else◌, unwrap_or}
use Rattle.std.specs.List.{AllByRecursion}
use Rattle.std.proofs.lemmas.Bool.{cases_Bool, cond-true, cond-false, eq-eqb, ne_eqb}
use Rattle.image_model.specs.Image.{image_of}
use Rattle.journal_outcomes.specs.Disks.{flown_by}
use Rattle.lone_ends.specs.States.{FliesBesides, HasLandedAs}
use Rattle.shared_disk.specs.Disk.{AreFlights, DiskState, Flight, IsSound, after_barrier, after_write, flight_to, settled, with_flight, with_value, written}
use Rattle.shared_disk.proofs.NodeLaws.{flights_with}
use Rattle.logged_steps.specs.Points.{MayWrite, Point}

-- ---- writes in flight, with one more

module _ (new : Flight) where
  there : (fs : List Flight) → flight_to fs new.block ≡ None → flight_to (with_flight fs new) new.block ≡ Some new.bytes
  there [] none = cond-true (new.block == new.block) (Some new.bytes) None (eq-eqb new.block new.block refl)
  there (f ∷ fs) none = elim (cases_Bool (f.block == new.block)) [
    | inl is ↦ absurd (let e : Some f.bytes ≡ None = sym (cond-true (f.block == new.block) (Some f.bytes) (flight_to fs new.block) is) ∙ none in cc)
    | inr off ↦ by (nat_lt new.block f.block) off (there fs (sym (cond-false (f.block == new.block) (Some f.bytes) (flight_to fs new.block) off) ∙ none))
  ]
    where
      by : (t : Bool) → (f.block == new.block) ≡ false → flight_to (with_flight fs new) new.block ≡ Some new.bytes → flight_to (if t then new ∷ f ∷ fs else f ∷ with_flight fs new) new.block ≡ Some new.bytes
      by true off behind = cond-true (new.block == new.block) (Some new.bytes) (flight_to (f ∷ fs) new.block) (eq-eqb new.block new.block refl)
      by false off behind = cond-false (f.block == new.block) (Some f.bytes) (flight_to (with_flight fs new) new.block) off ∙ behind

  others : (fs : List Flight) (k : ℕ) → k ≢ new.block → flight_to (with_flight fs new) k ≡ flight_to fs k
  others [] k off = cond-false (new.block == k) (Some new.bytes) None (ne_eqb new.block k (λ e. off (sym e)))
  others (f ∷ fs) k off = by (nat_lt new.block f.block) (others fs k off)
    where
      by : (t : Bool) → flight_to (with_flight fs new) k ≡ flight_to fs k → flight_to (if t then new ∷ f ∷ fs else f ∷ with_flight fs new) k ≡ flight_to (f ∷ fs) k
      by true behind = cond-false (new.block == k) (Some new.bytes) (flight_to (f ∷ fs) k) (ne_eqb new.block k (λ e. off (sym e)))
      by false behind = ap (λ o. if f.block == k then Some f.bytes else o) behind

-- ---- of one node

own : {A : Type 0} (f : ℕ → A) (value : A) → with_value f 1 value 1 ≡ value
own f value = refl

-- the others' are as they were
pub others_still : {A : Type 0} (f : ℕ → A) (value was : A) (j : ℕ) → j ≢ 1 → f j ≡ was → with_value f 1 value j ≡ was
others_still f value was j off is = cond-false (j == 1) value (f j) (ne_eqb j 1 off) ∙ is

module _ (p : Point) (b : ℕ) (bytes : List ℕ) (may : MayWrite p b bytes) where
  abbrev new : Flight
  new = record { block = b; bytes = bytes }

  pub flies_besides : FliesBesides (image_of p.disk) (flown_by p.disk 1) (flown_by (after_write p.disk 1 b bytes) 1) b bytes
  flies_besides = record {
    whole = may.whole;
    there = there new (p.disk.in_flight 1) may.free;
    others = λ c off. others new (p.disk.in_flight 1) c off;
  }

  module _ (sound : IsSound p.disk) where
    flights : (i : ℕ) → AreFlights p.disk.count p.disk.size (with_value p.disk.in_flight 1 (with_flight (p.disk.in_flight 1) new) i)
    flights i = elim (cases_Bool (i == 1)) [
      | inl is ↦ subst (AreFlights p.disk.count p.disk.size) (sym (cond-true (i == 1) (with_flight (p.disk.in_flight 1) new) (p.disk.in_flight i) is))
          (flights_with p.disk.count p.disk.size (p.disk.in_flight 1) new (sound.flights 1) may.free may.inside may.whole)
      | inr off ↦ subst (AreFlights p.disk.count p.disk.size) (sym (cond-false (i == 1) (with_flight (p.disk.in_flight 1) new) (p.disk.in_flight i) off)) (sound.flights i)
    ]

    pub sound_write : IsSound (after_write p.disk 1 b bytes)
    sound_write = record { sizes = sound.sizes; flights = flights; run_open = sound.run_open }

module _ (d : DiskState) (tells : IsTrue d.tells) (sound : IsSound d) where
  settled_is : (b : ℕ) → settled d (d.in_flight 1) b ≡ written d.block_at (d.in_flight 1) b
  settled_is b = cond-true d.tells (written d.block_at (d.in_flight 1) b) (d.block_at b) tells

  whole_flight : (size : ℕ) (fs : List Flight) (b : ℕ) (bytes : List ℕ) → AllByRecursion (λ (f : Flight). length f.bytes ≡ size) fs → flight_to fs b ≡ Some bytes → length bytes ≡ size
  whole_flight size [] b bytes all is = absurd (let e : None ≡ Some bytes = is in cc)
  whole_flight size (f ∷ fs) b bytes all is = elim (cases_Bool (f.block == b)) [
    | inl at ↦ let e : Some f.bytes ≡ Some bytes = sym (cond-true (f.block == b) (Some f.bytes) (flight_to fs b) at) ∙ is in let same : f.bytes ≡ bytes = cc in sym (ap length same) ∙ all.0
    | inr off ↦ whole_flight size fs b bytes all.1 (sym (cond-false (f.block == b) (Some f.bytes) (flight_to fs b) off) ∙ is)
  ]

  sizes : (k : ℕ) → k < d.count → length (settled d (d.in_flight 1) k) ≡ d.size
  sizes k low = ap length (settled_is k) ∙ by (flight_to (d.in_flight 1) k) refl
    where
      by : (o : Option (List ℕ)) → flight_to (d.in_flight 1) k ≡ o → length (unwrap_or o (d.block_at k)) ≡ d.size
      by None e = sound.sizes tells k low
      by (Some bytes) e = whole_flight d.size (d.in_flight 1) k bytes (sound.flights 1).sizes e

  none_flies : AreFlights d.count d.size []
  none_flies = record { rise = tt; within = tt; sizes = tt }

  flights_left : (i : ℕ) → AreFlights d.count d.size (with_value d.in_flight 1 [] i)
  flights_left i = elim (cases_Bool (i == 1)) [
    | inl is ↦ subst (AreFlights d.count d.size) (sym (cond-true (i == 1) [] (d.in_flight i) is)) none_flies
    | inr off ↦ subst (AreFlights d.count d.size) (sym (cond-false (i == 1) [] (d.in_flight i) off)) (sound.flights i)
  ]

  pub sound_barrier : IsSound (after_barrier d 1)
  sound_barrier = record { sizes = λ told k low. sizes k low; flights = flights_left; run_open = sound.run_open }

  pub landed_as : HasLandedAs (image_of d) (flown_by d 1) (image_of (after_barrier d 1))
  landed_as = record {
    size = refl;
    count = refl;
    new = λ b bytes is. settled_is b ∙ ap (λ o. unwrap_or o (d.block_at b)) is;
    still = λ b none. settled_is b ∙ ap (λ o. unwrap_or o (d.block_at b)) none;
  }
