use Rattle.std.proofs.Common.{◌≡◌, ◌≤◌, take}
use Rattle.std.specs.Prelude.{map}
use Rattle.gfs2_layout.specs.Exchanges.{directory_count}
use Rattle.image_mount.specs.Listing.{said}
use Rattle.image_mount.proofs.listing.count_directories.Given as goal

abbrev pub invariant-loop-record : goal.invariant-loop-record
invariant-loop-record l = record {
  value : l.count ≡ directory_count (map said (take l.record-index l.records));
  low : l.count ≤ l.record-index;
}
