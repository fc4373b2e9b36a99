use Rattle.std.proofs.Common.{◌≡◌, ◌<◌, ◌*◌, ℕ, List, [], length, map, sym, ap, ◌∙◌, subst, arith}
use Rattle.std.proofs.lemmas.List.{length-map}
use Rattle.shared_disk.specs.Disk.{Flight, flight_to, with_flight, AreFlights}
use Rattle.shared_disk.specs.Nodes.{queued, IsQueue, NodeStates, flights_of}
use Rattle.shared_disk.specs.Places.{flights_at, AreThere}
use Rattle.shared_disk.specs.declared.nodes.Queue.{Queue}
use Rattle.shared_disk.proofs.FlightLaws.{all_set, all_at}
use Rattle.shared_disk.proofs.NodeLaws.{PutsIn, queue_set, view_set, queue_more, sound_more, queue_at}
use Rattle.shared_disk.proofs.nodes.Nodes.put.Goals as goal

module _ (c : goal.After-self-1) where
  abbrev held : Queue
  held = c.index_mut-queue.result.now

  abbrev left : Queue
  left = record { places = c.put_flight.new.places; bytes = c.put_flight.new.bytes }

  abbrev new : Flight
  new = record { block = c.args.block; bytes = c.args.bytes.now }

  abbrev size : ℕ
  size = c.self.inside.size

  within : c.args.node < length c.self.inside.queues.items
  within = omega (arith, length-map c.self.inside.queues.items (queued size), c.self.invariant.1.queues, c.requires.node)

  flights : flights_of (map (queued size) c.self.inside.queues.items) c.args.node ≡ queued size held
  flights = queue_at size c.self.inside.queues.items c.args.node held within c.index_mut-queue.ensures.value

  flights_now : flights_of c.args.self.now.flights c.args.node ≡ queued size held
  flights_now = ap (λ (n : NodeStates). flights_of n.flights c.args.node) (sym c.self.view_is) ∙ flights

  sized : length c.args.bytes.now ≡ size
  sized = c.requires.size ∙ ap (λ (n : NodeStates). n.size) (sym c.self.view_is)

  puts : PutsIn size held left new
  puts =
      let done = c.put_flight.ensures in
      record {
        whole = done.whole ∙ ap (λ (n : ℕ). length c.put_flight.new.places.items * n) sized;
        there = subst (λ (n : ℕ). AreThere n c.put_flight.new.bytes.items c.put_flight.new.places.items) sized done.there;
        count = done.count;
        room = done.capacity;
        bytes_room = done.bytes_capacity;
        flights = subst (λ (n : ℕ). flights_at n c.put_flight.new.bytes.items c.put_flight.new.places.items ≡ with_flight (flights_at n held.bytes.items held.places.items) new) sized done.flights;
      }

  was : IsQueue size held
  was = subst (IsQueue size) (sym c.index_mut-queue.ensures.value) (all_at (IsQueue size) c.self.inside.queues.items c.args.node held c.self.invariant.0 within)

pub invariant_of-self : goal.invariant_of-self
invariant_of-self c =
    let i = c.self.inside in
    let room : length (queued i.size (held c)) < 512 = omega (arith, c.requires.room, ap (λ (l : List Flight). length l) (flights_now c)) in
    let below : c.args.block < i.count = omega (arith, c.requires.block, ap (λ (n : NodeStates). n.count) c.self.view_is) in
    let P : List Flight → Type 0 = AreFlights i.count i.size in
    let free = ap (λ (l : List Flight). flight_to l c.args.block) (sym (flights_now c)) ∙ c.requires.free in (
      all_set (IsQueue i.size) i.queues.items c.args.node (left c) c.self.invariant.0 (queue_more i.size (held c) (left c) (new c) (was c) (puts c) room),
      queue_set (record { count = i.count; size = i.size; flights = []; fenced = i.fenced; faults = i.faults }) i.size i.queues.items c.args.node (left c) c.self.invariant.1 c.requires.node
          (sound_more i.count i.size (held c) (left c) (new c) (puts c) (subst P (flights c) (c.self.invariant.1.flights c.args.node)) free below (sized c)),
    )

pub returns : goal.returns
returns c =
    let i = c.self.inside in
    view_set (record { count = i.count; size = i.size; flights = []; fenced = i.fenced; faults = i.faults }) c.args.self.now i.size i.queues.items c.args.node (left c)
    (with_flight (flights_of c.args.self.now.flights c.args.node) (new c)) c.self.view_is ((puts c).flights ∙ ap (λ (l : List Flight). with_flight l (new c)) (sym (flights_now c)))
