use Rattle.std.proofs.Common.{[]}
use Rattle.image_model.specs.Image.{Image}
use Rattle.image_mount.specs.Rings.{IsSearched}
use Rattle.image_mount.specs.Searching.{IsWorking, ShowsSystem}
use Rattle.image_mount.specs.System.{IsMasterOf, IsNamedBy}
use Rattle.image_mount.specs.Marked.{IsGrown}
use Rattle.shared_disk.specs.Disk.{ReadsOnly}
use Rattle.image_mount.proofs.mounting.search_groundwork.Given as goal

abbrev pub invariant-loop-ground : goal.invariant-loop-ground
invariant-loop-ground g l = record {
  work : IsWorking (g.D.SharedDisk.state l.disk) l.table;
  grown : IsGrown l.initial.table l.table;
  searched : (im : Image) → ShowsSystem (g.D.SharedDisk.state l.initial.disk) im → IsMasterOf im l.master → IsNamedBy im l.master l.names → IsSearched im [] 0 0 l.initial.table → IsSearched im [] 0 0 l.table;
  reads : ReadsOnly (g.D.SharedDisk.state l.initial.disk) (g.D.SharedDisk.state l.disk) (g.D.SharedDisk.list l.initial.disk) (g.D.SharedDisk.list l.disk) (g.D.SharedDisk.faults l.initial.disk) (g.D.SharedDisk.faults l.disk);
}

abbrev pub decreases-loop-ground : goal.decreases-loop-ground
decreases-loop-ground g l = l.table.left
