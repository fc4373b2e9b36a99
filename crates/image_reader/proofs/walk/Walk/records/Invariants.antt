use Rattle.std.proofs.Common.{◌≡◌, ◌≤◌, ◌<◌, ◌+◌, ◌^◌, length, vec_len}
use Rattle.gfs2_layout.specs.Area.{IsArea}
use Rattle.image_reader.specs.Going.{IsGoing, IsNameOf, GoesOn}
use Rattle.image_reader.proofs.Going.{IsOver}
use Rattle.image_reader.proofs.walk.Walk.records.Given as goal

abbrev pub invariant-loop-record : goal.invariant-loop-record
invariant-loop-record l = record {
  area : IsArea l.rest;
  short : length l.rest < 2 ^ 32;
  going : IsGoing l.self l.visit l.found.items;
  on : GoesOn (IsNameOf l.visit.inode.block.number) l.visit l.initial.self.owners.entries.items l.initial.found.items l.self.owners.entries.items l.found.items;
  over : IsOver l.area.bytes.now l.rest l.initial.tally l.tally l.visit l.found.items;
  falls : vec_len l.found + l.self.owners.free ≤ vec_len l.initial.found + l.initial.self.owners.free;
  free : l.self.owners.free ≤ l.initial.self.owners.free;
  grows : vec_len l.initial.found ≤ vec_len l.found;
  same : l.self.image ≡ l.initial.self.image;
}

abbrev pub decreases-loop-record : goal.decreases-loop-record
decreases-loop-record l = length l.rest
