use Rattle.std.proofs.Common.{◌≡◌, ◌≤◌, filter, length}
use Rattle.gfs2_layout.specs.Area.{IsArea, slots_of}
use Rattle.leaf_areas.specs.Parts.{belongs}
use Rattle.leaf_areas.proofs.parts.next_of.Given as goal

abbrev pub invariant-loop-record : goal.invariant-loop-record
invariant-loop-record l = record {
  area : IsArea l.rest;
  same : filter (belongs l.part) (slots_of l.area) ≡ filter (belongs l.part) (slots_of l.rest);
  few : length l.rest ≤ length l.area;
}

abbrev pub decreases-loop-record : goal.decreases-loop-record
decreases-loop-record l = length l.rest
