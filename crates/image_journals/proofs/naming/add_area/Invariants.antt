use Rattle.std.proofs.Common.{◌≡◌, ◌++◌, List, length}
use Rattle.gfs2_layout.specs.Area.{IsArea}
use Rattle.gfs2_layout.specs.Records.{Record, records_in}
use Rattle.image_journals.specs.Adding.{AreAdded, IsNamedAmong}
use Rattle.image_journals.proofs.naming.add_area.Given as goal

abbrev pub invariant-loop-record : goal.invariant-loop-record
invariant-loop-record l = record {
  area : IsArea l.rest;
  front : List Record;
  all : records_in l.area ≡ front ++ records_in l.rest;
  added : AreAdded l.fn.found.items l.found.items (IsNamedAmong front);
}

abbrev pub decreases-loop-record : goal.decreases-loop-record
decreases-loop-record l = length l.rest
