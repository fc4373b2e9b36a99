use Rattle.std.proofs.Common.{ℕ, ◌≡◌, ◌/◌, ◌<◌, List, length, map, true, sym, ap, ◌∙◌, subst}
use Rattle.shared_disk.specs.Disk.{Flight, Fence, written, AreFlights}
use Rattle.shared_disk.specs.Blocks.{block_in}
use Rattle.shared_disk.specs.Places.{flight_at, flights_at}
use Rattle.shared_disk.specs.Nodes.{disk_of, flights_of}
use Rattle.shared_disk.specs.Operations.{as_in, now_at, list_told, with_operation}
use Rattle.shared_disk.specs.Outcomes.{became}
use Rattle.std.specs.List.{AllByRecursion}
use Rattle.shared_disk.specs.declared.places.Place.{Place}
use Rattle.shared_disk.proofs.FlightLaws.{all_map}
use Rattle.shared_disk.proofs.BlockLaws.{block_length}
use Rattle.shared_disk.proofs.SettleLaws.{now_is, settled_flights, became_outcome}
use Rattle.shared_disk.proofs.memory.settle_row.Goals as goal

pub returns-clause-told : goal.returns-clause-told
returns-clause-told c =
    let n = c.args.nodes.now in
    let row' = c.settle_blocks.new.row in
    let old = block_in n.size c.args.row.now in
    let flights = flights_of n.flights c.args.node in
    let places = c.in_flight.result.0.now in
    let bytes = c.in_flight.result.1.now in
    let e : c.block_size-size.result ≡ n.size = c.block_size-size.ensures in
    let held : flights_at n.size bytes places ≡ flights = c.in_flight.ensures.flights in
    let P : ℕ → List Flight → Type 0 = λ size fs. (k : ℕ) → block_in size row' k ≡ written (block_in size c.args.row.now) (became c.args.order c.args.outcomes.now (block_in size c.args.row.now) fs) k in
    let Q : ℕ → Type 0 = λ size. P size (flights_at size bytes places) in
    let settled : P n.size flights = subst (P n.size) held (subst Q e c.settle_blocks.ensures) in
    c.note_fence.ensures.told
    ∙ ap (λ (l : List Flight). with_operation c.args.operations.now.limit (list_told c.args.operations.now) (Fence c.args.node l)) (
    ap (λ (size : ℕ). map (now_at (block_in size row')) places) e
    ∙ now_is (block_in n.size row') n.size bytes places
    ∙ ap (λ (l : List Flight). map (as_in (block_in n.size row')) l) held
    ∙ settled_flights c.args.order c.args.outcomes.now old (block_in n.size row') flights (c.in_flight.ensures.sound.flights c.args.node).rise settled
    )

pub returns-clause-outcome : goal.returns-clause-outcome
returns-clause-outcome c =
    let n = c.args.nodes.now in
    let P : ℕ → Type 0 = λ count. (k : ℕ) → k < count → length (block_in n.size c.args.row.now k) ≡ n.size in
    became_outcome c.args.order c.args.outcomes.now (disk_of true (block_in n.size c.args.row.now) n) c.args.node c.requires.outcomes (subst P (sym c.requires.row) (λ k below. block_length k n.size c.args.row.now below)) (c.in_flight.ensures.sound.flights c.args.node)

pub note_fence-requires-clause-within : goal.note_fence-requires-clause-within
note_fence-requires-clause-within c =
    let n = c.args.nodes.now in
    let places = c.in_flight.result.0.now in
    let bytes = c.in_flight.result.1.now in
    let flights = subst (AreFlights n.count n.size) (sym c.in_flight.ensures.flights) (c.in_flight.ensures.sound.flights c.args.node) in
    let count : n.count ≡ length c.settle_blocks.new.row / c.block_size-size.result =
    c.requires.row ∙ ap (λ (k : ℕ). k / n.size) (sym c.settle_blocks.auto.row) ∙ ap (λ (k : ℕ). length c.settle_blocks.new.row / k) (sym c.block_size-size.ensures) in
    subst (λ (k : ℕ). AllByRecursion (λ (p : Place). p.block < k) places) count (all_map (λ (f : Flight). f.block < n.count) (flight_at n.size bytes) places flights.within)
