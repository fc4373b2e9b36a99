use Rattle.std.proofs.Common.{◌≡◌, List, ℕ, length, sym, ap, ◌∙◌, subst, arith}
use Rattle.std.proofs.lemmas.List.{length-map}
use Rattle.shared_disk.specs.Disk.{Flight, AreRising}
use Rattle.shared_disk.specs.Places.{flights_at}
use Rattle.shared_disk.specs.Nodes.{NodeStates, queued}
use Rattle.shared_disk.specs.declared.places.Place.{Place}
use Rattle.shared_disk.proofs.NodeLaws.{queue_at}
use Rattle.shared_disk.proofs.nodes.Nodes.copy.Goals as goal

pub copy_flight-requires-clause-rising : goal.copy_flight-requires-clause-rising
copy_flight-requires-clause-rising c =
    let i = c.self.inside in
    let q = c.index-queue.result.now in
    let sound = c.self.invariant.1 in
    let at = queue_at i.size i.queues.items c.args.node q (omega (arith, length-map i.queues.items (queued i.size), sound.queues, c.requires.node)) c.index-queue.ensures in
    let P : List Flight → Type 0 = AreRising in
    let size : length c.args.into.now ≡ i.size = c.requires.size ∙ ap (λ (n : NodeStates). n.size) (sym c.self.view_is) in
    subst (λ (n : ℕ). AreRising (flights_at n c.deref-2.result.now c.deref.result.now)) (sym size)
    (subst (λ (b : List ℕ). AreRising (flights_at i.size b c.deref.result.now)) (sym c.deref-2.ensures.value)
    (subst (λ (l : List Place). AreRising (flights_at i.size q.bytes.items l)) (sym c.deref.ensures.value) (subst P at (sound.flights c.args.node).rise)))
