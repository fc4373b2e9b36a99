use Rattle.std.proofs.Common.{◌≤◌, vec_capacity}
use Rattle.log_memory.proofs.Listing.{IsListedUpTo}
use Rattle.log_memory.proofs.lists.list_kind.Given as goal

abbrev pub invariant-loop-place : goal.invariant-loop-place
invariant-loop-place l = record {
  listed : IsListedUpTo l.tables l.plain l.into.items l.place;
  capacity : vec_capacity l.initial.into ≤ vec_capacity l.into;
}
