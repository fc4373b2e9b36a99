use Rattle.std.proofs.Common.{◌≡◌, ◌≤◌, ℕ, length, take, None, false}
use Rattle.gfs2_layout.specs.Area.{slots_of, slots_within, first_named, slot_at, has_no_record, HasItsName}
use Rattle.gfs2_layout.proofs.Records.{IsRest}
use Rattle.gfs2_layout.proofs.Places.{IsBetween}
use Rattle.gfs2_layout.proofs.area.find_record.Given as goal

abbrev pub invariant-loop-rest : goal.invariant-loop-rest
invariant-loop-rest l = record {
  most : ℕ;
  is : IsRest most l.rest;
  named : first_named l.name (slots_of l.area) ≡ first_named l.name (slots_within most l.rest);
  opens : 1 ≤ length l.rest → (has_no_record l.rest ≡ false) × HasItsName (slot_at l.rest);
  place : IsBetween l.area l.at l.rest;
  none : first_named l.name (slots_of (take l.at l.area)) ≡ None;
}

abbrev pub decreases-loop-rest : goal.decreases-loop-rest
decreases-loop-rest l = length l.rest
