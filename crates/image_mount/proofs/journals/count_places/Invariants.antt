use Rattle.std.proofs.Common.{◌≡◌, ℕ, List}
use Rattle.image_model.specs.Image.{Image}
use Rattle.image_mount.specs.Rings.{IsJournalIn, IsSearched}
use Rattle.image_mount.specs.Searching.{IsWorking, ShowsSystem}
use Rattle.image_mount.specs.Marked.{IsGrown}
use Rattle.shared_disk.specs.Disk.{ReadsOnly}
use Rattle.image_mount.proofs.journals.count_places.Given as goal

abbrev pub invariant-loop-places : goal.invariant-loop-places
invariant-loop-places g l = record {
  work : IsWorking (g.D.SharedDisk.state l.disk) l.table;
  grown : IsGrown l.initial.table l.table;
  places : l.table.places ≡ l.initial.table.places;
  searched : (done : List ℕ) (d n : ℕ) → (im : Image) → ShowsSystem (g.D.SharedDisk.state l.initial.disk) im → IsJournalIn im l.journal → IsSearched im done d n l.initial.table → IsSearched im done d n l.table;
  reads : ReadsOnly (g.D.SharedDisk.state l.initial.disk) (g.D.SharedDisk.state l.disk) (g.D.SharedDisk.list l.initial.disk) (g.D.SharedDisk.list l.disk) (g.D.SharedDisk.faults l.initial.disk) (g.D.SharedDisk.faults l.disk);
}

abbrev pub decreases-loop-places : goal.decreases-loop-places
decreases-loop-places g l = l.table.left
