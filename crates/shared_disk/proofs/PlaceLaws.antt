-- Writes in flight in the order of their places.
use Rattle.std.proofs.Common.{◌≡◌, ◌≢◌, ℕ, zero, suc, ◌+◌, ◌*◌, ◌<◌, ◌≤◌, List, [], ◌∷◌, ◌++◌, length, take, drop, map, get_or, refl, sym, ap, ◌∙◌, subst, inl, inr, arith}
use Rattle.std.specs.Prelude.{None, Some}
use Rattle.std.specs.List.{insert}
use Rattle.std.proofs.lemmas.List.{get_or_default, take-append-drop, append-nil, length-append, drop_at, take_all, map-append}
use Rattle.std.proofs.lemmas.Bool.{lt-ltb, le-ltb, cases_lt}
use Rattle.shared_disk.specs.Blocks.{block_in}
use Rattle.shared_disk.specs.Disk.{Flight, flight_to, with_flight, AreRising}
use Rattle.shared_disk.specs.Places.{flight_at, flights_at, AreThere, AreInOrder, AreBelow, AreNotBelow}
use Rattle.shared_disk.specs.declared.places.Place.{Place}
use Rattle.shared_disk.proofs.BlockLaws.{same_front}
use Rattle.shared_disk.proofs.FlightLaws.{all_at, all_map, all_weaken, all_take, all_drop, all_append, rising_head, rising_tail, not_equal, equal, strictly, none_some}

-- what is read where there is no place
abbrev pub nowhere : Place
nowhere = record { block = 0; number = 0 }

-- a place's block alone
abbrev pub bare : Place → Flight
bare p = record { block = p.block; bytes = [] }

-- whatever their bytes are
pub in_order : (size : ℕ) (bytes : List ℕ) (places : List Place) → AreRising (flights_at size bytes places) → AreInOrder places
in_order size bytes [] rising = tt
in_order size bytes (p ∷ []) rising = tt
in_order size bytes (p ∷ q ∷ ps) rising = (rising.0, in_order size bytes (q ∷ ps) rising.1)

pub rises : (places : List Place) (i j : ℕ) (d : Place) → AreInOrder places → i < j → j < length places → (get_or places i d).block < (get_or places j d).block
rises [] i j d h order within = absurd (omega arith)
rises (p ∷ ps) i zero d h order within = absurd (omega arith)
rises (p ∷ ps) zero (suc j) d h order within =
    all_at (λ (x : Place). p.block < x.block) ps j d (all_map (λ (g : Flight). p.block < g.block) bare ps (rising_head (bare p) (map bare ps) h)) (omega arith)
rises (p ∷ ps) (suc i) (suc j) d h order within = rises ps i j d (rising_tail (bare p) (map bare ps) h) (omega arith) (omega arith)

-- one step of a binary search
pub below_after : (places : List Place) (middle block : ℕ) (e : Place) → AreInOrder places → middle < length places → (get_or places middle e).block < block → AreBelow places (middle + 1) block
below_after places middle block e rising within low =
    λ k d h.
    let same : (get_or places middle e).block ≡ (get_or places middle d).block = ap (λ (p : Place). p.block) (get_or_default places middle e d within) in
    elim (cases_lt k middle) [
      | inl before ↦ omega (arith, rises places k middle d rising before within)
      | inr after ↦
          let at : middle ≡ k = omega arith in
          let P : ℕ → Type 0 = λ i. (get_or places i d).block < block in
          subst P at (omega arith)
    ]

pub not_below_from : (places : List Place) (middle block : ℕ) (e : Place) → AreInOrder places → middle < length places → block ≤ (get_or places middle e).block → AreNotBelow places middle block
not_below_from places middle block e rising within high =
    λ k d from h.
    let same : (get_or places middle e).block ≡ (get_or places middle d).block = ap (λ (p : Place). p.block) (get_or_default places middle e d within) in
    elim (cases_lt middle k) [
      | inl after ↦ omega (arith, rises places middle k d rising after h)
      | inr before ↦
          let at : middle ≡ k = omega arith in
          let P : ℕ → Type 0 = λ i. block ≤ (get_or places i d).block in
          subst P at (omega arith)
    ]

pub other_block : (places : List Place) (place block : ℕ) (e d : Place) → place < length places → (get_or places place e).block ≢ block → (get_or places place d).block ≢ block
other_block places place block e d within other =
    λ same. other (ap (λ (p : Place). p.block) (get_or_default places place e d within) ∙ same)

pub same_block : (places : List Place) (place block : ℕ) (e d : Place) → place < length places → (get_or places place e).block ≡ block → (get_or places place d).block ≡ block
same_block places place block e d within same = ap (λ (p : Place). p.block) (get_or_default places place d e within) ∙ same

module _ (size : ℕ) (bytes : List ℕ) where
  pub flight_to-none : (places : List Place) (block : ℕ) → ((k : ℕ) (d : Place) → k < length places → (get_or places k d).block ≢ block) → flight_to (flights_at size bytes places) block ≡ None
  flight_to-none [] block h = refl
  flight_to-none (p ∷ ps) block h =
      rw (not_equal p.block block (h 0 p (omega arith))) (flight_to-none ps block (λ k d within. h (suc k) d (omega arith)))

  pub flight_to-found : (places : List Place) (block place : ℕ) (d : Place) → AreBelow places place block → place < length places → (get_or places place d).block ≡ block → flight_to (flights_at size bytes places) block ≡ Some (block_in size bytes (get_or places place d).number)
  flight_to-found [] block place d below within same = absurd (omega arith)
  flight_to-found (p ∷ ps) block zero d below within same = rw (equal p.block block same) refl
  flight_to-found (p ∷ ps) block (suc place) d below within same =
      let first : p.block < block = below 0 p (omega arith) in
      rw (not_equal p.block block (λ e. omega (arith, first, e))) (flight_to-found ps block place d (λ k d' h. below (suc k) d' (omega arith)) (omega arith) same)

  -- nothing is in flight to a block that is not at its place
  pub flight_to-absent : (places : List Place) (block place : ℕ) → AreInOrder places → AreBelow places place block → AreNotBelow places place block → ((d : Place) → place < length places → (get_or places place d).block ≢ block) → flight_to (flights_at size bytes places) block ≡ None
  flight_to-absent places block place rising below above other =
      flight_to-none places block (λ k d within same.
      elim (cases_lt k place) [
        | inl before ↦ omega (arith, below k d before)
        | inr after ↦ elim (cases_lt place k) [
          | inl past ↦ omega (arith, rises places place k d rising past within, above place d (omega arith) (omega arith))
          | inr here ↦
              let at : k ≡ place = omega arith in
              let P : ℕ → Type 0 = λ i. (get_or places i d).block ≡ block in
              other d (omega arith) (subst P at same)
        ]
      ])

  -- a new write comes to its place
  pub with_flight-at : (places : List Place) (place : ℕ) (new : Flight) → AreBelow places place new.block → ((k : ℕ) (d : Place) → place ≤ k → k < length places → new.block < (get_or places k d).block) → with_flight (flights_at size bytes places) new ≡ flights_at size bytes (take place places) ++ new ∷ flights_at size bytes (drop place places)
  with_flight-at [] zero new below above = refl
  with_flight-at [] (suc place) new below above = refl
  with_flight-at (p ∷ ps) zero new below above = rw (lt-ltb new.block p.block (above 0 p (omega arith) (omega arith))) refl
  with_flight-at (p ∷ ps) (suc place) new below above =
      let first : p.block < new.block = below 0 p (omega arith) in
      rw (le-ltb new.block p.block (omega arith)) (ap (λ l. flight_at size bytes p ∷ l) (with_flight-at ps place new (λ k d h. below (suc k) d (omega arith)) (λ k d h w. above (suc k) d (omega arith) (omega arith))))

  -- a new write comes to its place
  pub in_place : (places : List Place) (place : ℕ) (new : Flight) → AreInOrder places → AreBelow places place new.block → AreNotBelow places place new.block → flight_to (flights_at size bytes places) new.block ≡ None
      → with_flight (flights_at size bytes places) new ≡ flights_at size bytes (take place places) ++ new ∷ flights_at size bytes (drop place places)
  in_place places place new rising below above free = with_flight-at places place new below other
    where
      apart : (d : Place) → place < length places → (get_or places place d).block ≢ new.block
      apart d within same =
          none_some (flight_to (flights_at size bytes places) new.block) (block_in size bytes (get_or places place d).number) free (flight_to-found places new.block place d below within same)

      other : (k : ℕ) (d : Place) → place ≤ k → k < length places → new.block < (get_or places k d).block
      other k d from within =
          let least = above place d (omega arith) (omega (arith, from, within)) in
          elim (cases_lt place k) [
            | inl after ↦ omega (arith, rises places place k d rising after within, least)
            | inr here ↦
                let at : place ≡ k = omega (arith, here, from) in
                let P : ℕ → Type 0 = λ i. new.block < (get_or places i d).block in
                subst P at (strictly new.block (get_or places place d).block least (apart d (omega (arith, from, within))))
          ]

-- ---- one more write

pub length-insert : (places : List Place) (place : ℕ) (p : Place) → length (insert places place p) ≡ length places + 1
length-insert places place p = omega (arith, length-append (take place places) (p ∷ drop place places), length-append (take place places) (drop place places), ap length (take-append-drop place places))

-- what stood among the bytes stands there yet
pub flights_stay : (size : ℕ) (bytes new : List ℕ) (places : List Place) → AreThere size bytes places → flights_at size (bytes ++ new) places ≡ flights_at size bytes places
flights_stay size bytes new [] there = refl
flights_stay size bytes new (p ∷ ps) there =
    let same : block_in size (bytes ++ new) p.number ≡ block_in size bytes p.number = same_front (p.number * size) size bytes new [] there.0 ∙ ap (λ (l : List ℕ). block_in size l p.number) (append-nil bytes) in
    (λ i. record { block = p.block; bytes = same i } ∷ flights_stay size bytes new ps there.1 i)

pub still_there : (size : ℕ) (bytes new : List ℕ) (places : List Place) → AreThere size bytes places → AreThere size (bytes ++ new) places
still_there size bytes new places there =
    all_weaken (λ (p : Place). p.number * size + size ≤ length bytes) (λ (p : Place). p.number * size + size ≤ length (bytes ++ new)) (λ p h. omega (arith, h, length-append bytes new)) places there

-- the place of the next write
abbrev pub next_place : List Place → ℕ → Place
next_place places block = record { block = block; number = length places }

module _ (bytes new : List ℕ) (places : List Place) (place block : ℕ) (whole : length bytes ≡ length places * length new) where
  abbrev added : Place
  added = next_place places block

  its_bytes : block_in (length new) (bytes ++ new) (length places) ≡ new
  its_bytes = ap (take (length new)) (drop_at bytes new (length places * length new) whole) ∙ take_all (length new) new (omega arith)

  pub all_there : AreThere (length new) bytes places → AreThere (length new) (bytes ++ new) (insert places place added)
  all_there there =
      let P : Place → Type 0 = λ p. p.number * length new + length new ≤ length (bytes ++ new) in
      let old = still_there (length new) bytes new places there in
      all_append P (take place places) (added ∷ drop place places) (all_take P place places old) (omega (arith, whole, length-append bytes new), all_drop P place places old)

  pub put_there : AreThere (length new) bytes places → AreRising (flights_at (length new) bytes places) → AreBelow places place block → AreNotBelow places place block → flight_to (flights_at (length new) bytes places) block ≡ None
      → flights_at (length new) (bytes ++ new) (insert places place added) ≡ with_flight (flights_at (length new) bytes places) (record { block = block; bytes = new })
  put_there there rising below above free =
      let size = length new in
      let P : Place → Type 0 = λ p. p.number * size + size ≤ length bytes in
      let front = flights_stay size bytes new (take place places) (all_take P place places there) in
      let back = flights_stay size bytes new (drop place places) (all_drop P place places there) in
      map-append (flight_at size (bytes ++ new)) (take place places) (added ∷ drop place places)
      ∙ (λ i. front i ++ record { block = block; bytes = its_bytes i } ∷ back i)
      ∙ sym (in_place size bytes places place (record { block = block; bytes = new }) (in_order size bytes places rising) below above free)
