use Rattle.std.proofs.Common.{◌≡◌, ◌+◌, ◌*◌, ◌<◌, ◌≤◌, length, sym, ap, ◌∙◌, arith}
use Rattle.std.specs.Prelude.{Option, None, is_some, unwrap_or, List, ℕ}
use Rattle.shared_disk.specs.Disk.{flight_to}
use Rattle.shared_disk.specs.Places.{flights_at}
use Rattle.shared_disk.specs.declared.places.Place.{Place}
use Rattle.shared_disk.proofs.FlightLaws.{all_at}
use Rattle.shared_disk.proofs.PlaceLaws.{nowhere, in_order, flight_to-found, flight_to-absent, other_block}
use Rattle.shared_disk.proofs.places.copy_flight.Goals as goal
use Rattle.shared_disk.proofs.places.copy_flight.Goals.{Joined-then-place-places, then-place-places-via-then-place-places, then-place-places-via-else-place-places+then-places-place}

absent : (c : Joined-then-place-places) → flight_to (flights_at (length c.args.into.now) c.args.bytes.now c.args.places.now) c.args.block ≡ None
absent c =
    let p = c.place_of-place.ensures in
    let none = flight_to-absent (length c.args.into.now) c.args.bytes.now c.args.places.now c.args.block c.place_of-place.result (in_order _ _ _ c.requires.rising) p.below p.above in
    elim c.then-place-places.branch [
      | then-place-places-via-then-place-places w ↦ none (λ d within. absurd (omega arith))
      | then-place-places-via-else-place-places+then-places-place w ↦ none (λ d within. other_block c.args.places.now c.place_of-place.result c.args.block nowhere d within w.if-places-place.true)
    ]

pub place_of-place-requires : goal.place_of-place-requires
place_of-place-requires c = in_order _ _ _ c.requires.rising

pub returns-then-place-places-clause-found : goal.returns-then-place-places-clause-found
returns-then-place-places-clause-found c = ap is_some (sym (absent c))

pub returns-then-place-places-clause-bytes : goal.returns-then-place-places-clause-bytes
returns-then-place-places-clause-bytes c = ap (λ (o : Option (List ℕ)). unwrap_or o c.args.into.now) (sym (absent c))

pub bytes_at-requires : goal.bytes_at-requires
bytes_at-requires c =
    let P : Place → Type 0 = λ p. p.number * length c.args.into.now + length c.args.into.now ≤ length c.args.bytes.now in
    all_at P c.args.places.now c.place_of-place.result nowhere c.requires.there (grind (arith, c.place_of-place.ensures.bound, c.if-place-places.false))

pub returns-clause-found : goal.returns-clause-found
returns-clause-found c =
    let within : c.place_of-place.result < length c.args.places.now = grind (arith, c.place_of-place.ensures.bound, c.if-place-places.false) in
    ap is_some (sym (flight_to-found (length c.args.into.now) c.args.bytes.now c.args.places.now c.args.block c.place_of-place.result nowhere c.place_of-place.ensures.below within c.if-places-place.false))

pub returns-clause-bytes : goal.returns-clause-bytes
returns-clause-bytes c =
    let within : c.place_of-place.result < length c.args.places.now = grind (arith, c.place_of-place.ensures.bound, c.if-place-places.false) in
    let found = flight_to-found (length c.args.into.now) c.args.bytes.now c.args.places.now c.args.block c.place_of-place.result nowhere c.place_of-place.ensures.below within c.if-places-place.false in
    c.copy_from_slice.ensures.after ∙ c.bytes_at.ensures ∙ ap (λ (o : Option (List ℕ)). unwrap_or o c.args.into.now) (sym found)
