-- What a disk keeps for its nodes, after a change at one node.
use Rattle.std.proofs.Common.{◌≡◌, ◌≢◌, ℕ, zero, suc, ◌+◌, ◌*◌, ◌<◌, ◌≤◌, Bool, true, false, cond, List, [], ◌∷◌, length, map, set, get_or, replicate, ltb, refl, sym, ap, ◌∙◌, inl, inr, subst, arith}
use Rattle.std.specs.Prelude.{None, Some, vec_capacity}
use Rattle.std.specs.List.{AllByRecursion}
use Rattle.std.proofs.lemmas.List.{get_or-map, get_or-set_same, get_or-set_other, length-map, length-set, map-set}
use Rattle.std.proofs.lemmas.Bool.{ltb-true, ltb-false}
use Rattle.std.proofs.lemmas.Bool.Decides.{eqb_tells}
use Rattle.shared_disk.specs.Disk.{Flight, flight_to, with_flight, AreRising, AreFlights}
use Rattle.shared_disk.specs.Places.{flight_at, AreThere}
use Rattle.shared_disk.specs.Nodes.{NodeStates, AreNodes, IsQueue, queued, flights_of}
use Rattle.shared_disk.specs.declared.nodes.Queue.{Queue}
use Rattle.shared_disk.proofs.FlightLaws.{rising_head, rising_tail, rising_cons, strictly, all_weaken}

pub queues_empty : (size n : ℕ) (qs : List Queue) → length qs ≡ n → AllByRecursion (λ q. IsQueue size q × (queued size q ≡ [])) qs → map (queued size) qs ≡ replicate n []
queues_empty size zero [] e h = refl
queues_empty size (suc n) [] e h = absurd (omega arith)
queues_empty size zero (q ∷ qs) e h = absurd (omega arith)
queues_empty size (suc n) (q ∷ qs) e h = rw (h.0.1, queues_empty size n qs (omega arith) h.1) refl

pub queues_sound : (size : ℕ) (qs : List Queue) → AllByRecursion (λ q. IsQueue size q × (queued size q ≡ [])) qs → AllByRecursion (IsQueue size) qs
queues_sound size qs h = all_weaken (λ (q : Queue). IsQueue size q × (queued size q ≡ [])) (IsQueue size) (λ q p. p.0) qs h

pub none_at : (n node : ℕ) → flights_of (replicate n []) node ≡ []
none_at zero node = refl
none_at (suc n) zero = refl
none_at (suc n) (suc node) = none_at n node

pub no_flights : (count size : ℕ) → AreFlights count size []
no_flights count size = record { rise = tt; within = tt; sizes = tt }

-- the flights of one node are these now, and the others' stay
pub flights_of-set : (P : List Flight → Type 0) (flights : List (List Flight)) (node : ℕ) (fs : List Flight) → node < length flights → P fs → ((k : ℕ) → P (flights_of flights k)) → (k : ℕ) → P (flights_of (set flights node fs) k)
flights_of-set P flights node fs within new old k =
    elim (eqb_tells k node) [
      | inl here ↦
          let Q : ℕ → Type 0 = λ i. P (get_or (set flights node fs) i []) in
          subst Q (sym here.1) (subst P (sym (get_or-set_same flights node fs [] within)) new)
      | inr there ↦ subst P (sym (get_or-set_other flights node k fs [] there.1)) (old k)
    ]

pub nodes_with : (n : NodeStates) (node : ℕ) (fs : List Flight) → AreNodes n → node ≤ 8 → AreFlights n.count n.size fs → AreNodes (record n { flights = set n.flights node fs })
nodes_with n node fs sound within new = record {
  queues = length-set n.flights node fs ∙ sound.queues;
  fences = sound.fences;
  counts = sound.counts;
  flights = flights_of-set (AreFlights n.count n.size) n.flights node fs (omega (arith, sound.queues)) new sound.flights;
  run_open = sound.run_open;
}

-- the flights that a node's queue holds
pub queue_at : (size : ℕ) (qs : List Queue) (node : ℕ) (q : Queue) → node < length qs → q ≡ get_or qs node q → flights_of (map (queued size) qs) node ≡ queued size q
queue_at size qs node q within is = get_or-map (queued size) qs node q [] within ∙ ap (queued size) (sym is)

some_none : (bytes : List ℕ) → Some bytes ≡ None → ⊥
some_none bytes e = cc

pub free_first : (f : Flight) (fs : List Flight) (block : ℕ) → flight_to (f ∷ fs) block ≡ None → f.block ≢ block
free_first f fs block free same =
    elim (eqb_tells f.block block) [
      | inl here ↦ some_none f.bytes (rw here.0 at free)
      | inr there ↦ there.1 same
    ]

pub free_rest : (f : Flight) (fs : List Flight) (block : ℕ) → flight_to (f ∷ fs) block ≡ None → flight_to fs block ≡ None
free_rest f fs block free =
    elim (eqb_tells f.block block) [
      | inl here ↦ absurd (some_none f.bytes (rw here.0 at free))
      | inr there ↦ rw there.0 at free
    ]

pub all_with : (P : Flight → Type 0) (fs : List Flight) (new : Flight) → AllByRecursion P fs → P new → AllByRecursion P (with_flight fs new)
all_with P [] new h p = (p, tt)
all_with P (f ∷ fs) new h p =
    elim (ltb new.block f.block) as (λ b. AllByRecursion P (cond b (new ∷ f ∷ fs) (f ∷ with_flight fs new))) [ true ↦ (p, h) | false ↦ (h.0, all_with P fs new h.1 p) ]

rising_choice : (b : Bool) (f : Flight) (fs gs : List Flight) (new : Flight) → ltb new.block f.block ≡ b → AreRising (f ∷ fs) → f.block ≢ new.block → (f.block < new.block → AreRising (f ∷ gs)) → AreRising (cond b (new ∷ f ∷ fs) (f ∷ gs))
rising_choice true f fs gs new e h other rest = (ltb-true new.block f.block e, h)
rising_choice false f fs gs new e h other rest =
    rest (strictly f.block new.block (ltb-false new.block f.block e) (λ same. other (sym same)))

pub rising_with : (fs : List Flight) (new : Flight) → AreRising fs → flight_to fs new.block ≡ None → AreRising (with_flight fs new)
rising_with [] new h free = tt
rising_with (f ∷ fs) new h free =
    rising_choice (ltb new.block f.block) f fs (with_flight fs new) new refl h (free_first f fs new.block free) (λ below.
    rising_cons f (with_flight fs new) (all_with (λ (g : Flight). f.block < g.block) fs new (rising_head f fs h) below) (rising_with fs new (rising_tail f fs h) (free_rest f fs new.block free)))

pub flights_with : (count size : ℕ) (fs : List Flight) (new : Flight) → AreFlights count size fs → flight_to fs new.block ≡ None → new.block < count → length new.bytes ≡ size → AreFlights count size (with_flight fs new)
flights_with count size fs new h free within same = record {
  rise = rising_with fs new h.rise free;
  within = all_with (λ (f : Flight). f.block < count) fs new h.within within;
  sizes = all_with (λ (f : Flight). length f.bytes ≡ size) fs new h.sizes same;
}

pub length_queued : (size : ℕ) (q : Queue) → length (queued size q) ≡ length q.places.items
length_queued size q = length-map q.places.items (flight_at size q.bytes.items)

-- a queue is changed, and its flights are these
pub queue_set : (n : NodeStates) (size : ℕ) (qs : List Queue) (node : ℕ) (q : Queue) → AreNodes (record n { flights = map (queued size) qs }) → node ≤ 8 → AreFlights n.count n.size (queued size q)
    → AreNodes (record n { flights = map (queued size) (set qs node q) })
queue_set n size qs node q sound within new =
    let P : List (List Flight) → Type 0 = λ l. AreNodes (record n { flights = l }) in
    subst P (sym (map-set (queued size) qs node q)) (nodes_with (record n { flights = map (queued size) qs }) node (queued size q) sound within new)

pub view_set : (n now : NodeStates) (size : ℕ) (qs : List Queue) (node : ℕ) (q : Queue) (fs : List Flight) → record n { flights = map (queued size) qs } ≡ now → queued size q ≡ fs
    → record n { flights = map (queued size) (set qs node q) } ≡ record now { flights = set now.flights node fs }
view_set n now size qs node q fs view is =
    ap (λ (l : List (List Flight)). record n { flights = l }) (map-set (queued size) qs node q ∙ ap (λ (l : List Flight). set (map (queued size) qs) node l) is)
    ∙ ap (λ (v : NodeStates). record v { flights = set v.flights node fs }) view

-- a node's queue with one more write, whose bytes stand behind the others
pub record PutsIn (size : ℕ) (q q' : Queue) (new : Flight) : Type 0 where
  pub whole : length q'.bytes.items ≡ length q'.places.items * size
  pub there : AreThere size q'.bytes.items q'.places.items
  pub count : length q'.places.items ≡ length q.places.items + 1
  pub room : vec_capacity q.places ≤ vec_capacity q'.places
  pub bytes_room : vec_capacity q.bytes ≤ vec_capacity q'.bytes
  pub flights : queued size q' ≡ with_flight (queued size q) new

pub queue_more : (size : ℕ) (q q' : Queue) (new : Flight) → IsQueue size q → PutsIn size q q' new → length (queued size q) < 512 → IsQueue size q'
queue_more size q q' new was puts room = record {
  whole = puts.whole;
  there = puts.there;
  few = omega (arith, room, length_queued size q, puts.count);
  room = omega (arith, was.room, puts.room);
  bytes_room = omega (arith, was.bytes_room, puts.bytes_room);
}

pub sound_more : (count size : ℕ) (q q' : Queue) (new : Flight) → PutsIn size q q' new → AreFlights count size (queued size q) → flight_to (queued size q) new.block ≡ None → new.block < count → length new.bytes ≡ size
    → AreFlights count size (queued size q')
sound_more count size q q' new puts was free within same =
    let P : List Flight → Type 0 = AreFlights count size in
    subst P (sym puts.flights) (flights_with count size (queued size q) new was free within same)
