use Rattle.std.proofs.Common.{◌≡◌, [], true}
use Rattle.gfs2_layout.specs.Inode.{is_hashed_in}
use Rattle.image_model.specs.Claims.{every}
use Rattle.image_mount.specs.Leaves.{IsSystemDirectory}
use Rattle.image_model.specs.Image.{Image}
use Rattle.image_mount.specs.Rings.{IsSearched}
use Rattle.image_mount.specs.Searching.{IsWorking, ShowsSystem}
use Rattle.image_mount.specs.Marked.{IsGrown}
use Rattle.shared_disk.specs.Disk.{ReadsOnly}
use Rattle.image_mount.proofs.walking.search_pointers.Given as goal

abbrev pub invariant-loop-pointers : goal.invariant-loop-pointers
invariant-loop-pointers g l = record {
  work : IsWorking (g.D.SharedDisk.state l.disk) l.table;
  grown : IsGrown l.initial.table l.table;
  searched : (im : Image) → ShowsSystem (g.D.SharedDisk.state l.initial.disk) im → IsSystemDirectory im l.inode → is_hashed_in (every im l.inode.block) ≡ true → IsSearched im [] 0 0 l.initial.table → IsSearched im [] 0 0 l.table;
  reads : ReadsOnly (g.D.SharedDisk.state l.initial.disk) (g.D.SharedDisk.state l.disk) (g.D.SharedDisk.list l.initial.disk) (g.D.SharedDisk.list l.disk) (g.D.SharedDisk.faults l.initial.disk) (g.D.SharedDisk.faults l.disk);
}

abbrev pub decreases-loop-pointers : goal.decreases-loop-pointers
decreases-loop-pointers g l = l.table.left
