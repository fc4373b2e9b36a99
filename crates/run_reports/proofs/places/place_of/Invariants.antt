use Rattle.std.proofs.Common.{◌≡◌, ◌+◌, drop}
use Rattle.run_rules.specs.Follows.{place_of}
use Rattle.run_reports.proofs.places.place_of.Given as goal

abbrev pub invariant-loop-client : goal.invariant-loop-client
invariant-loop-client l = record {
  count : l.place ≡ l.client-index;
  same : place_of l.clients l.name ≡ l.client-index + place_of (drop l.client-index l.clients) l.name;
}
