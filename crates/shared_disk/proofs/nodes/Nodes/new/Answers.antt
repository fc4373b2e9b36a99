use Rattle.std.proofs.Common.{ℕ, List, [], false, replicate, refl, sym, ap, subst}
use Rattle.shared_disk.specs.Disk.{Flight, AreFlights}
use Rattle.shared_disk.specs.Nodes.{AreNodes}
use Rattle.shared_disk.proofs.NodeLaws.{queues_empty, queues_sound, none_at, no_flights}
use Rattle.shared_disk.proofs.nodes.Nodes.new.Goals as goal

new_nodes : (count size : ℕ) → AreNodes (record { count = count; size = size; flights = replicate 9 []; fenced = replicate 9 false; faults = replicate 9 0 })
new_nodes count size = record {
  queues = refl;
  fences = refl;
  counts = refl;
  flights = λ node. let P : List Flight → Type 0 = AreFlights count size in subst P (sym (none_at 9 node)) (no_flights count size);
  run_open = refl;
}

pub invariant_of-result : goal.invariant_of-result
invariant_of-result c =
    let made = c.in_ok-make_queues.ensures in
    let qs = c.in_ok-make_queues.field-0.items in
    let P : List (List Flight) → Type 0 = λ l. AreNodes (record { count = c.args.count; size = c.args.size; flights = l; fenced = replicate 9 false; faults = replicate 9 0 }) in (
      queues_sound c.args.size qs made.queues,
      subst P (sym (queues_empty c.args.size 9 qs made.count made.queues)) (new_nodes c.args.count c.args.size),
    )

pub returns : goal.returns
returns c =
    let made = c.in_ok-make_queues.ensures in
    ap (λ (l : List (List Flight)). record { count = c.args.count; size = c.args.size; flights = l; fenced = replicate 9 false; faults = replicate 9 0 }) (queues_empty c.args.size 9 c.in_ok-make_queues.field-0.items made.count made.queues)
