use Rattle.std.proofs.Common.{◌≡◌, ◌≤◌, ◌+◌, ◌++◌, List, length}
use Rattle.gfs2_layout.specs.Area.{IsArea}
use Rattle.gfs2_layout.specs.Records.{Record, records_in}
use Rattle.hash_dirs.proofs.gathering.count_records.Given as goal

abbrev pub invariant-loop-record : goal.invariant-loop-record
invariant-loop-record l = record {
  area : IsArea l.rest;
  front : List Record;
  all : records_in l.area ≡ front ++ records_in l.rest;
  counted : l.count ≡ length front;
  few : l.count + length l.rest ≤ length l.area;
}

abbrev pub decreases-loop-record : goal.decreases-loop-record
decreases-loop-record l = length l.rest
