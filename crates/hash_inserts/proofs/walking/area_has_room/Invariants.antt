use Rattle.std.proofs.Common.{◌≡◌, length}
use Rattle.gfs2_layout.specs.Area.{IsArea, slots_of}
use Rattle.hash_steps.specs.Leaves.{has_room_for}
use Rattle.hash_inserts.proofs.walking.area_has_room.Given as goal

abbrev pub invariant-loop-record : goal.invariant-loop-record
invariant-loop-record l = record {
  area : IsArea l.rest;
  same : has_room_for l.len (slots_of l.area) ≡ has_room_for l.len (slots_of l.rest);
}

abbrev pub decreases-loop-record : goal.decreases-loop-record
decreases-loop-record l = length l.rest
