use Rattle.gfs2_layout.proofs.FoundAfter.{no_room, told_put, found_new, found_others}
use Rattle.gfs2_layout.proofs.laws.put_records_are_found.Goals as goal

pub returns : goal.returns
returns c = record {
  room = no_room;
  told = λ entry name slots after of put. told_put entry name of slots after put;
  found = found_new;
  others = found_others;
}
