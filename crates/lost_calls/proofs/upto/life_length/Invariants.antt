use Rattle.std.proofs.Common.{◌≡◌, ◌++◌, take, drop}
use Rattle.run_rules.specs.Lives.{to_its_end}
use Rattle.lost_calls.proofs.upto.life_length.Given as goal

abbrev pub invariant-loop-item : goal.invariant-loop-item
invariant-loop-item l = record {
  place : l.place ≡ l.item-index;
  life : take l.item-index l.items ++ to_its_end 1 (drop l.item-index l.items) ≡ to_its_end 1 l.items;
}
