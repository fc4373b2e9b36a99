use Rattle.std.proofs.Common.{◌≡◌, ◌*◌, List, [], length, sym, ap, ◌∙◌, subst, arith}
use Rattle.std.proofs.lemmas.List.{length-map}
use Rattle.shared_disk.specs.Disk.{Flight, AreFlights}
use Rattle.shared_disk.specs.Nodes.{queued, IsQueue}
use Rattle.shared_disk.specs.Places.{flights_at, AreThere}
use Rattle.shared_disk.specs.declared.nodes.Queue.{Queue}
use Rattle.shared_disk.specs.declared.places.Place.{Place}
use Rattle.shared_disk.proofs.FlightLaws.{all_set, all_at}
use Rattle.shared_disk.proofs.NodeLaws.{queue_set, view_set, no_flights}
use Rattle.shared_disk.proofs.nodes.Nodes.clear.Goals as goal

pub invariant_of-self : goal.invariant_of-self
invariant_of-self c =
    let i = c.self.inside in
    let q = c.index_mut-queue.result.now in
    let q' : Queue = record { places = c.clear.new.self; bytes = c.clear-2.new.self } in
    let within = c.self.invariant.1.queues in
    let was : IsQueue i.size q = subst (IsQueue i.size) (sym c.index_mut-queue.ensures.value) (all_at (IsQueue i.size) i.queues.items c.args.node q c.self.invariant.0 (omega (arith, length-map i.queues.items (queued i.size), within, c.requires))) in
    let zero : 0 ≡ 0 * i.size = omega arith in
    let is : IsQueue i.size q' = record {
      whole = ap length c.clear-2.ensures.items ∙ zero ∙ ap (λ (l : List Place). length l * i.size) (sym c.clear.ensures.items);
      there = subst (AreThere i.size c.clear-2.new.self.items) (sym c.clear.ensures.items) tt;
      few = omega (arith, ap length c.clear.ensures.items);
      room = omega (arith, was.room, c.clear.ensures.capacity);
      bytes_room = omega (arith, was.bytes_room, c.clear-2.ensures.capacity);
    } in
    let none : queued i.size q' ≡ [] = ap (flights_at i.size c.clear-2.new.self.items) c.clear.ensures.items in
    let P : List Flight → Type 0 = AreFlights i.count i.size in (
      all_set (IsQueue i.size) i.queues.items c.args.node q' c.self.invariant.0 is,
      queue_set (record { count = i.count; size = i.size; flights = []; fenced = i.fenced; faults = i.faults }) i.size i.queues.items c.args.node q' c.self.invariant.1 c.requires (subst P (sym none) (no_flights i.count i.size)),
    )

pub returns : goal.returns
returns c =
    let i = c.self.inside in
    let q' : Queue = record { places = c.clear.new.self; bytes = c.clear-2.new.self } in
    view_set (record { count = i.count; size = i.size; flights = []; fenced = i.fenced; faults = i.faults }) c.args.self.now i.size i.queues.items c.args.node q' [] c.self.view_is
    (ap (flights_at i.size c.clear-2.new.self.items) c.clear.ensures.items)
