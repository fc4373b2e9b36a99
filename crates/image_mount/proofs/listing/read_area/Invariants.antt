use Rattle.std.proofs.Common.{◌≡◌, length}
use Rattle.std.specs.Prelude.{map}
use Rattle.std.specs.List.{All}
use Rattle.gfs2_layout.specs.Area.{IsArea}
use Rattle.image_mount.specs.Listing.{said}
use Rattle.image_mount.proofs.Areas.{IsHalf}
use Rattle.image_mount.proofs.listing.read_area.Given as goal

abbrev pub invariant-loop-record : goal.invariant-loop-record
invariant-loop-record l = record {
  area : IsArea l.rest;
  half : IsHalf l.area l.rest (map said l.records.items);
  here : All (λ n. n.block ≡ l.block) l.records.items;
}

abbrev pub decreases-loop-record : goal.decreases-loop-record
decreases-loop-record l = length l.rest
