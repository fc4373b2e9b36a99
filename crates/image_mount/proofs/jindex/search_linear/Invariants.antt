use Rattle.std.proofs.Common.{[]}
use Rattle.image_model.specs.Image.{Image}
use Rattle.image_mount.specs.Rings.{IsSearched}
use Rattle.image_mount.specs.Searching.{IsWorking, ShowsSystem}
use Rattle.image_mount.specs.System.{IsJindexIn}
use Rattle.image_mount.specs.Marked.{IsGrown}
use Rattle.shared_disk.specs.Disk.{ReadsOnly}
use Rattle.image_mount.proofs.jindex.search_linear.Given as goal

abbrev pub invariant-loop-journals : goal.invariant-loop-journals
invariant-loop-journals g l = record {
  work : IsWorking (g.D.SharedDisk.state l.disk) l.table;
  grown : IsGrown l.initial.table l.table;
  searched : (im : Image) → ShowsSystem (g.D.SharedDisk.state l.initial.disk) im → IsJindexIn im l.master l.inode → IsSearched im [] 0 0 l.initial.table → IsSearched im [] 0 0 l.table;
  reads : ReadsOnly (g.D.SharedDisk.state l.initial.disk) (g.D.SharedDisk.state l.disk) (g.D.SharedDisk.list l.initial.disk) (g.D.SharedDisk.list l.disk) (g.D.SharedDisk.faults l.initial.disk) (g.D.SharedDisk.faults l.disk);
}

abbrev pub decreases-loop-journals : goal.decreases-loop-journals
decreases-loop-journals g l = l.table.left
