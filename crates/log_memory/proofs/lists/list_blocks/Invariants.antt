use Rattle.std.proofs.Common.{◌≡◌, ◌≤◌, map, take, vec_capacity, vec_len}
use Rattle.std.specs.FinMap as table
use Rattle.log_memory.proofs.Listing.{number}
use Rattle.log_memory.proofs.lists.list_blocks.Given as goal

abbrev pub invariant-loop-place : goal.invariant-loop-place
invariant-loop-place l = record {
  items : l.into.items ≡ map number (take l.place (table.entries l.blocks.at));
  len : vec_len l.into ≡ l.place;
  capacity : vec_capacity l.initial.into ≤ vec_capacity l.into;
}
