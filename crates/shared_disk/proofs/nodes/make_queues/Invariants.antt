use Rattle.std.proofs.Common.{◌≡◌, [], length}
use Rattle.std.specs.List.{AllByRecursion}
use Rattle.shared_disk.specs.Nodes.{IsQueue, queued}
use Rattle.shared_disk.proofs.nodes.make_queues.Given as goal

abbrev pub invariant-loop : goal.invariant-loop
invariant-loop l = record {
  count : length l.queues.items ≡ l.counter;
  queues : AllByRecursion (λ q. IsQueue l.size q × (queued l.size q ≡ [])) l.queues.items;
}
