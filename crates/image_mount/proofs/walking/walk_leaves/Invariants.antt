use Rattle.std.proofs.Common.{◌≡◌, ◌≤◌, ◌+◌, ◌^◌, [], length, vec_len}
use Rattle.image_model.specs.Image.{Image}
use Rattle.image_mount.specs.Leaves.{AreLeavesRead, IsTableOf, IsWalked, LooksFor, steps_left}
use Rattle.image_mount.specs.Rings.{IsSearched}
use Rattle.image_mount.specs.Searching.{IsWorking, ShowsSystem}
use Rattle.image_mount.specs.Marked.{IsGrown}
use Rattle.shared_disk.specs.Disk.{ReadsOnly}
use Rattle.image_mount.proofs.walking.walk_leaves.Given as goal

abbrev pub invariant-loop-link : goal.invariant-loop-link
invariant-loop-link g l = record {
  work : IsWorking (g.D.SharedDisk.state l.disk) l.table;
  grown : IsGrown l.initial.table l.table;
  count : vec_len l.walk.owners.entries ≡ (g.D.SharedDisk.state l.initial.disk).count;
  size : length l.bytes.items ≡ (g.D.SharedDisk.state l.initial.disk).size;
  within : l.walk.index ≤ 2 ^ l.pointers.depth;
  walked : (im : Image) → ShowsSystem (g.D.SharedDisk.state l.initial.disk) im → IsTableOf im l.inode l.pointers → LooksFor im l.inode.block l.fn.names → IsSearched im [] 0 0 l.initial.table → IsWalked im l.inode.block l.walk;
  read : AreLeavesRead l.walk l.inode.block l.table;
  directory : l.walk.directory ≡ l.inode.block;
  names : l.walk.names ≡ l.fn.names;
  searched : (im : Image) → ShowsSystem (g.D.SharedDisk.state l.initial.disk) im → IsTableOf im l.inode l.pointers → LooksFor im l.inode.block l.fn.names → IsSearched im [] 0 0 l.initial.table → IsSearched im [] 0 0 l.table;
  reads : ReadsOnly (g.D.SharedDisk.state l.initial.disk) (g.D.SharedDisk.state l.disk) (g.D.SharedDisk.list l.initial.disk) (g.D.SharedDisk.list l.disk) (g.D.SharedDisk.faults l.initial.disk) (g.D.SharedDisk.faults l.disk);
}

abbrev pub decreases-loop-link : goal.decreases-loop-link
decreases-loop-link g l = l.table.left + steps_left l.walk (2 ^ l.pointers.depth)
