use Rattle.std.proofs.Common.{◌≡◌, ◌++◌, List, length}
use Rattle.gfs2_layout.specs.Area.{IsArea}
use Rattle.gfs2_layout.specs.Records.{Record, records_in, names_of}
use Rattle.hash_dirs.proofs.listing.add_names.Given as goal

abbrev pub invariant-loop-record : goal.invariant-loop-record
invariant-loop-record l = record {
  area : IsArea l.rest;
  front : List Record;
  all : records_in l.area ≡ front ++ records_in l.rest;
  names : l.names.items ≡ l.fn.names.items ++ names_of front;
}

abbrev pub decreases-loop-record : goal.decreases-loop-record
decreases-loop-record l = length l.rest
