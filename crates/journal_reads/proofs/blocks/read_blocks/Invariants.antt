use Rattle.std.proofs.Common.{◌≡◌, length}
use Rattle.journal_reads.specs.Reading.{AreFirstPlaces}
use Rattle.shared_disk.specs.Disk.{ReadsOnly}
use Rattle.journal_reads.proofs.blocks.read_blocks.Given as goal

abbrev pub invariant-loop-place : goal.invariant-loop-place
invariant-loop-place g l = record {
  blocks : AreFirstPlaces (g.D.SharedDisk.state l.fn.disk) l.fn.node l.fn.blocks l.place l.bytes.items;
  reads : ReadsOnly (g.D.SharedDisk.state l.fn.disk) (g.D.SharedDisk.state l.disk) (g.D.SharedDisk.list l.fn.disk) (g.D.SharedDisk.list l.disk) (g.D.SharedDisk.faults l.fn.disk) (g.D.SharedDisk.faults l.disk);
  size : length l.block.items ≡ (g.D.SharedDisk.state l.fn.disk).size;
}
