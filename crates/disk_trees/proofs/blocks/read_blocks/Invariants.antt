use Rattle.std.proofs.Common.{◌≡◌, length}
use Rattle.disk_trees.specs.Reading.{AreFirstBlocks}
use Rattle.shared_disk.specs.Disk.{ReadsOnly}
use Rattle.disk_trees.proofs.blocks.read_blocks.Given as goal

abbrev pub invariant-loop-number : goal.invariant-loop-number
invariant-loop-number g l = record {
  blocks : AreFirstBlocks (g.D.SharedDisk.state l.fn.disk) l.number l.bytes.items;
  reads : ReadsOnly (g.D.SharedDisk.state l.fn.disk) (g.D.SharedDisk.state l.disk) (g.D.SharedDisk.list l.fn.disk) (g.D.SharedDisk.list l.disk) (g.D.SharedDisk.faults l.fn.disk) (g.D.SharedDisk.faults l.disk);
  size : length l.block.items ≡ (g.D.SharedDisk.state l.fn.disk).size;
}
