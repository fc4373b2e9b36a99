-- Writes in flight that come to their places one by one.
use Rattle.std.proofs.Common.{◌≡◌, ◌≢◌, ℕ, ◌<◌, ◌≤◌, List, [], ◌∷◌, length, map, drop, refl, sym, ap, ◌∙◌, inl, inr, subst, arith}
use Rattle.std.specs.Prelude.{None, unwrap_or}
use Rattle.std.specs.List.{AllByRecursion}
use Rattle.std.proofs.lemmas.Bool.Decides.{eqb_tells}
use Rattle.shared_disk.specs.Disk.{Flight, flight_to, with_value, written, AreRising, AreFlights}
use Rattle.shared_disk.specs.Outcomes.{fate, became}
use Rattle.shared_disk.specs.declared.disk.Settle.{Settle}
use Rattle.shared_disk.specs.declared.outcomes.Outcome.{Outcome}
use Rattle.std.proofs.Common.{take, get_or, ◌-◌}
use Rattle.std.proofs.lemmas.List.{take_rest}
use Rattle.shared_disk.specs.Blocks.{block_in}
use Rattle.shared_disk.specs.Places.{flight_at, flights_at, AreThere}
use Rattle.shared_disk.specs.Outcomes.{AreOfSize}
use Rattle.shared_disk.specs.declared.places.Place.{Place}
use Rattle.shared_disk.specs.declared.disk.Settle.TheVariants.{Old as SettleOld, New as SettleNew, Torn}
use Rattle.shared_disk.specs.declared.outcomes.Outcome.TheVariants.{Old, New, Bytes}
use Rattle.shared_disk.specs.Disk.{DiskState, IsOutcome}
use Rattle.shared_disk.specs.Operations.{as_in, now_at}
use Rattle.std.proofs.Common.{◌++◌}
use Rattle.std.proofs.lemmas.List.{length-append, length-take, length-drop}
use Rattle.shared_disk.proofs.PlaceLaws.{nowhere}
use Rattle.shared_disk.proofs.FlightLaws.{equal, not_equal, rising_head, rising_tail, rising_cons, all_weaken}

pub not_to : (block : ℕ) (fs : List Flight) → AllByRecursion (λ g. block < g.block) fs → flight_to fs block ≡ None
not_to block [] h = refl
not_to block (f ∷ fs) h = rw (not_equal f.block block (λ e. omega (arith, h.0, e))) (not_to block fs h.1)

pub written_same : (g h : ℕ → List ℕ) (fs : List Flight) (k : ℕ) → g k ≡ h k → written g fs k ≡ written h fs k
written_same g h fs k e = ap (λ (b : List ℕ). unwrap_or (flight_to fs k) b) e

-- the first comes to its place, and then the rest do
pub written_first : (g : ℕ → List ℕ) (f : Flight) (fs : List Flight) (k : ℕ) → flight_to fs f.block ≡ None → written g (f ∷ fs) k ≡ written (with_value g f.block f.bytes) fs k
written_first g f fs k apart =
    elim (eqb_tells k f.block) [
      | inl here ↦
          let same : k ≡ f.block = here.1 in
          let none : flight_to fs k ≡ None = let P : ℕ → Type 0 = λ i. flight_to fs i ≡ None in subst P (sym same) apart in
          rw (here.0, equal f.block k (sym same), none) refl
      | inr there ↦ rw (there.0, not_equal f.block k (λ e. there.1 (sym e))) refl
    ]

pub flights_tail : (count size : ℕ) (f : Flight) (fs : List Flight) → AreFlights count size (f ∷ fs) → AreFlights count size fs
flights_tail count size f fs h = record { rise = rising_tail f fs h.rise; within = h.within.1; sizes = h.sizes.1 }

-- one step of a loop that puts the writes
pub put_step : (g h : ℕ → List ℕ) (f : Flight) (fs : List Flight) → AreRising (f ∷ fs) → ((k : ℕ) → h k ≡ with_value g f.block f.bytes k) → (k : ℕ) → written h fs k ≡ written g (f ∷ fs) k
put_step g h f fs rising put k =
    written_same h (with_value g f.block f.bytes) fs k (put k)
    ∙ sym (written_first g f fs k (not_to f.block fs (rising_head f fs rising)))

pub became_above : (order : Settle) (os : List Outcome) (g : ℕ → List ℕ) (block : ℕ) (fs : List Flight) → AllByRecursion (λ f. block < f.block) fs → AllByRecursion (λ f. block < f.block) (became order os g fs)
became_above order os g block [] h = tt
became_above order os g block (f ∷ fs) h = (h.0, became_above order (drop 1 os) g block fs h.1)

-- only the old blocks at the writes' places count
pub became_same : (order : Settle) (os : List Outcome) (g h : ℕ → List ℕ) (block : ℕ) (fs : List Flight) → AllByRecursion (λ f. block < f.block) fs → ((k : ℕ) → k ≢ block → h k ≡ g k) → became order os h fs ≡ became order os g fs
became_same order os g h block [] above same = refl
became_same order os g h block (f ∷ fs) above same =
    let here : h f.block ≡ g f.block = same f.block (λ e. omega (arith, above.0, e)) in
    rw (here, became_same order (drop 1 os) g h block fs above.1 same) refl

pub elsewhere : (g : ℕ → List ℕ) (block : ℕ) (new : List ℕ) (k : ℕ) → k ≢ block → with_value g block new k ≡ g k
elsewhere g block new k other = rw (not_equal k block other) refl

-- one step of a loop that settles the writes
pub settle_step : (order : Settle) (os : List Outcome) (g h : ℕ → List ℕ) (f : Flight) (fs : List Flight) → AreRising (f ∷ fs) → ((k : ℕ) → h k ≡ with_value g f.block (fate order os (g f.block) f.bytes) k) → (k : ℕ) → written h (became order (drop 1 os) h fs) k ≡ written g (became order os g (f ∷ fs)) k
settle_step order os g h f fs rising put k =
    let above = rising_head f fs rising in
    let new : Flight = record { block = f.block; bytes = fate order os (g f.block) f.bytes } in
    let rest = became order (drop 1 os) g fs in
    let same : became order (drop 1 os) h fs ≡ rest = became_same order (drop 1 os) g h f.block fs above (λ i other. put i ∙ elsewhere g f.block new.bytes i other) in
    ap (λ (l : List Flight). written h l k) same
    ∙ written_same h (with_value g f.block new.bytes) rest k (put k)
    ∙ sym (written_first g new rest k (not_to f.block rest (became_above order (drop 1 os) g f.block fs above)))

-- the same over places, of which the first was put or settled
pub flights_rest : (count size : ℕ) (bytes : List ℕ) (xs : List Place) → 1 ≤ length xs → AreFlights count size (flights_at size bytes xs) → AreFlights count size (flights_at size bytes (take (length xs - 1) (drop 1 xs)))
flights_rest count size bytes [] some h = absurd (omega arith)
flights_rest count size bytes (x ∷ xs) some h =
    let P : List Place → Type 0 = λ l. AreFlights count size (flights_at size bytes l) in
    subst P (sym (take_rest (x ∷ xs) 1)) (flights_tail count size (flight_at size bytes x) (flights_at size bytes xs) h)

pub there_rest : (size : ℕ) (bytes : List ℕ) (xs : List Place) → AreThere size bytes xs → AreThere size bytes (take (length xs - 1) (drop 1 xs))
there_rest size bytes [] there = tt
there_rest size bytes (x ∷ xs) there = subst (AreThere size bytes) (sym (take_rest (x ∷ xs) 1)) there.1

pub put_loop : (size : ℕ) (bytes : List ℕ) (g h end : ℕ → List ℕ) (xs : List Place) → 1 ≤ length xs → AreRising (flights_at size bytes xs)
    → ((k : ℕ) → h k ≡ with_value g (get_or xs 0 nowhere).block (block_in size bytes (get_or xs 0 nowhere).number) k) → ((k : ℕ) → written g (flights_at size bytes xs) k ≡ end k) → (k : ℕ)
    → written h (flights_at size bytes (take (length xs - 1) (drop 1 xs))) k ≡ end k
put_loop size bytes g h end [] some rising put same k = absurd (omega arith)
put_loop size bytes g h end (x ∷ xs) some rising put same k =
    ap (λ (l : List Place). written h (flights_at size bytes l) k) (take_rest (x ∷ xs) 1)
    ∙ put_step g h (flight_at size bytes x) (flights_at size bytes xs) rising put k
    ∙ same k

pub settle_loop : (size : ℕ) (bytes : List ℕ) (order : Settle) (os os' : List Outcome) (g h end : ℕ → List ℕ) (xs : List Place) → 1 ≤ length xs → AreRising (flights_at size bytes xs) → os' ≡ drop 1 os
    → ((k : ℕ) → h k ≡ with_value g (get_or xs 0 nowhere).block (fate order os (g (get_or xs 0 nowhere).block) (block_in size bytes (get_or xs 0 nowhere).number)) k)
    → ((k : ℕ) → written g (became order os g (flights_at size bytes xs)) k ≡ end k) → (k : ℕ) → written h (became order os' h (flights_at size bytes (take (length xs - 1) (drop 1 xs)))) k ≡ end k
settle_loop size bytes order os os' g h end [] some rising left put same k = absurd (omega arith)
settle_loop size bytes order os os' g h end (x ∷ xs) some rising left put same k =
    ap (λ (l : List Place). written h (became order os' h (flights_at size bytes l)) k) (take_rest (x ∷ xs) 1)
    ∙ ap (λ (l : List Outcome). written h (became order l h (flights_at size bytes xs)) k) left
    ∙ settle_step order os g h (flight_at size bytes x) (flights_at size bytes xs) rising put k
    ∙ same k

-- what stands in the blocks of writes, from their places alone
pub now_is : (h : ℕ → List ℕ) (size : ℕ) (bytes : List ℕ) (xs : List Place) → map (now_at h) xs ≡ map (as_in h) (flights_at size bytes xs)
now_is h size bytes [] = refl
now_is h size bytes (x ∷ xs) = ap (λ (l : List Flight). now_at h x ∷ l) (now_is h size bytes xs)

pub outcomes_rest : (size : ℕ) (os os' : List Outcome) → os' ≡ drop 1 os → AreOfSize size os → AreOfSize size os'
outcomes_rest size [] os' is h = let P : List Outcome → Type 0 = λ l. AreOfSize size l in subst P (sym is) tt
outcomes_rest size (o ∷ os) os' is h = let P : List Outcome → Type 0 = λ l. AreOfSize size l in subst P (sym is) h.1

pub became_rising : (order : Settle) (os : List Outcome) (g : ℕ → List ℕ) (fs : List Flight) → AreRising fs → AreRising (became order os g fs)
became_rising order os g [] h = tt
became_rising order os g (f ∷ fs) h =
    rising_cons (record { block = f.block; bytes = fate order os (g f.block) f.bytes }) (became order (drop 1 os) g fs) (became_above order (drop 1 os) g f.block fs (rising_head f fs h)) (became_rising order (drop 1 os) g fs (rising_tail f fs h))

past_first : (g : ℕ → List ℕ) (f : Flight) (fs bs : List Flight) → AllByRecursion (λ b. f.block < b.block) bs → AllByRecursion (λ b. written g fs b.block ≡ b.bytes) bs → AllByRecursion (λ b. written g (f ∷ fs) b.block ≡ b.bytes) bs
past_first g f fs [] above h = tt
past_first g f fs (b ∷ bs) above h = (rw (not_equal f.block b.block (λ e. omega (arith, above.0, e))) h.0, past_first g f fs bs above.1 h.1)

-- each write stands in its block
pub written_each : (g : ℕ → List ℕ) (bs : List Flight) → AreRising bs → AllByRecursion (λ b. written g bs b.block ≡ b.bytes) bs
written_each g [] h = tt
written_each g (b ∷ bs) h =
    (rw (equal b.block b.block refl) refl, past_first g b bs bs (rising_head b bs h) (written_each g bs (rising_tail b bs h)))

as_in-became : (order : Settle) (os : List Outcome) (g h : ℕ → List ℕ) (fs : List Flight) → AllByRecursion (λ b. h b.block ≡ b.bytes) (became order os g fs) → map (as_in h) fs ≡ became order os g fs
as_in-became order os g h [] each = refl
as_in-became order os g h (f ∷ fs) each = rw (each.0, as_in-became order (drop 1 os) g h fs each.1) refl

-- what the writes became is what stands in their blocks
pub settled_flights : (order : Settle) (os : List Outcome) (g h : ℕ → List ℕ) (fs : List Flight) → AreRising fs → ((k : ℕ) → h k ≡ written g (became order os g fs) k) → map (as_in h) fs ≡ became order os g fs
settled_flights order os g h fs rising is =
    let bs = became order os g fs in
    as_in-became order os g h fs (all_weaken (λ (b : Flight). written g bs b.block ≡ b.bytes) (λ (b : Flight). h b.block ≡ b.bytes) (λ b e. is b.block ∙ e) bs (written_each g bs (became_rising order os g fs rising)))

torn_length : (count size : ℕ) (old new : List ℕ) → length old ≡ size → length new ≡ size → length (take count new ++ drop count old) ≡ size
torn_length count size old new was is = omega (arith, length-append (take count new) (drop count old), length-take count new, length-drop count old)

fate_length : (order : Settle) (os : List Outcome) (size : ℕ) (old new : List ℕ) → AreOfSize size os → length old ≡ size → length new ≡ size → length (fate order os old new) ≡ size
fate_length SettleOld [] size old new sizes was is = was
fate_length SettleNew [] size old new sizes was is = is
fate_length (Torn count) [] size old new sizes was is = torn_length count size old new was is
fate_length order (Old ∷ os) size old new sizes was is = was
fate_length order (New ∷ os) size old new sizes was is = is
fate_length order (Bytes bytes ∷ os) size old new sizes was is = sizes.0

became_places : (order : Settle) (os : List Outcome) (g : ℕ → List ℕ) (fs : List Flight) → map (λ f. f.block) (became order os g fs) ≡ map (λ f. f.block) fs
became_places order os g [] = refl
became_places order os g (f ∷ fs) = ap (λ (l : List ℕ). f.block ∷ l) (became_places order (drop 1 os) g fs)

became_sizes : (order : Settle) (os : List Outcome) (g : ℕ → List ℕ) (count size : ℕ) (fs : List Flight) → AreOfSize size os → ((k : ℕ) → k < count → length (g k) ≡ size) → AllByRecursion (λ f. f.block < count) fs → AllByRecursion (λ f. length f.bytes ≡ size) fs → AllByRecursion (λ f. length f.bytes ≡ size) (became order os g fs)
became_sizes order os g count size [] outcomes blocks within sizes = tt
became_sizes order os g count size (f ∷ fs) outcomes blocks within sizes =
    (fate_length order os size (g f.block) f.bytes outcomes (blocks f.block within.0) sizes.0, became_sizes order (drop 1 os) g count size fs (outcomes_rest size os (drop 1 os) refl outcomes) blocks within.1 sizes.1)

-- each write in flight becomes a whole block in its place
pub became_outcome : (order : Settle) (os : List Outcome) (s : DiskState) (node : ℕ) → AreOfSize s.size os → ((k : ℕ) → k < s.count → length (s.block_at k) ≡ s.size) → AreFlights s.count s.size (s.in_flight node) → IsOutcome s node (became order os s.block_at (s.in_flight node))
became_outcome order os s node outcomes blocks flights = record {
  places = became_places order os s.block_at (s.in_flight node);
  sizes = became_sizes order os s.block_at s.count s.size (s.in_flight node) outcomes blocks flights.within flights.sizes;
}
