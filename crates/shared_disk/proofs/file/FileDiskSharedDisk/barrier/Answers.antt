use Rattle.std.proofs.Common.{ℕ, ◌<◌, ◌*◌, ◌^◌, [], false, List, sym, ap, ◌∙◌, subst, arith}
use Rattle.shared_disk.specs.Disk.{Flight, AreFlights, after_barrier}
use Rattle.shared_disk.specs.Files.{file_state}
use Rattle.shared_disk.specs.Nodes.{NodeStates}
use Rattle.shared_disk.specs.declared.places.Place.{Place}
use Rattle.std.specs.List.{AllByRecursion}
use Rattle.shared_disk.proofs.StateLaws.{disk_with_flights}
use Rattle.shared_disk.proofs.FileLaws.{offsets_fit}
use Rattle.shared_disk.proofs.file.FileDiskSharedDisk.barrier.Goals as goal

pub write_flights-requires-clause-within : goal.write_flights-requires-clause-within
write_flights-requires-clause-within c =
    let n = c.self.inside.nodes in
    let flights = c.in_flight.ensures in
    let P : List Flight → Type 0 = AreFlights n.count n.size in
    let Q : ℕ → Type 0 = λ size. AllByRecursion (λ (p : Place). p.block * size < 2 ^ 64) c.in_flight.result.0.now in
    subst Q (sym c.block_size-size.ensures) (offsets_fit n.count n.size c.in_flight.result.1.now c.in_flight.result.0.now (subst P (sym flights.flights) (flights.sound.flights c.args.node)) c.self.invariant.0)

pub returns-clause-ok : goal.returns-clause-ok
returns-clause-ok c = (
  ap file_state c.clear.ensures
      ∙ disk_with_flights false (λ block. []) c.self.inside.nodes c.args.node [] (omega (arith, c.in_flight.ensures.sound.queues, c.requires.node))
      ∙ ap (λ (n : NodeStates). after_barrier (file_state n) c.args.node) c.self.view_is,
  tt,
)
