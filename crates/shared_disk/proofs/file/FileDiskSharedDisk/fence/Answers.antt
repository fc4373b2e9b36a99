use Rattle.std.proofs.Common.{ℕ, ◌<◌, ◌*◌, ◌^◌, true, List, refl, sym, ap, ◌∙◌, subst}
use Rattle.std.specs.List.{AllByRecursion}
use Rattle.shared_disk.specs.Disk.{Flight, AreFlights, IsOutcome, after_fence}
use Rattle.shared_disk.specs.Files.{file_state}
use Rattle.shared_disk.specs.Nodes.{NodeStates, flights_of, with_fence}
use Rattle.shared_disk.specs.declared.places.Place.{Place}
use Rattle.shared_disk.proofs.FileLaws.{offsets_fit, fence_state}
use Rattle.shared_disk.proofs.file.FileDiskSharedDisk.fence.Goals as goal

pub settle_flights-requires-clause-within : goal.settle_flights-requires-clause-within
settle_flights-requires-clause-within c =
    let n = c.self.inside.nodes in
    let flights = c.in_flight.ensures in
    let P : List Flight → Type 0 = AreFlights n.count n.size in
    let Q : ℕ → Type 0 = λ size. AllByRecursion (λ (p : Place). p.block * size < 2 ^ 64) c.in_flight.result.0.now in
    subst Q (sym c.block_size-size.ensures) (offsets_fit n.count n.size c.in_flight.result.1.now c.in_flight.result.0.now (subst P (sym flights.flights) (flights.sound.flights c.args.node)) c.self.invariant.0)

pub returns-clause-ok : goal.returns-clause-ok
returns-clause-ok c =
    let n = c.self.inside.nodes in
    let now = c.args.self.now in
    let sound = c.in_flight.ensures.sound in
    let fs = flights_of now.flights c.args.node in
    let P : NodeStates → Type 0 = λ m. AreFlights m.count m.size (flights_of m.flights c.args.node) in
    let is : IsOutcome (file_state now) c.args.node fs = record { places = refl; sizes = (subst P c.self.view_is (sound.flights c.args.node)).sizes } in (
      fs,
      is,
      ap file_state (c.set_fenced.ensures ∙ ap (λ (m : NodeStates). with_fence m c.args.node true) c.clear.ensures)
          ∙ fence_state n c.args.node sound c.requires.node
          ∙ ap (λ (m : NodeStates). after_fence (file_state m) c.args.node (flights_of m.flights c.args.node)) c.self.view_is,
      tt,
    )
