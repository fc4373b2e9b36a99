use Rattle.std.proofs.Common.{◌≡◌, length}
use Rattle.log_layout.specs.Journal.{best_from}
use Rattle.image_model.specs.Image.{Image}
use Rattle.image_mount.specs.Rings.{ring_at}
use Rattle.image_mount.specs.Searching.{ShowsSystem}
use Rattle.image_model.specs.SystemFiles.{IsSystemBlock}
use Rattle.std.specs.List.{All}
use Rattle.shared_disk.specs.Disk.{ReadsOnly}
use Rattle.image_mount.proofs.journals.best_header.Given as goal

abbrev pub invariant-loop-block : goal.invariant-loop-block
invariant-loop-block g l = record {
  place : l.place ≡ l.block-index;
  size : length l.bytes ≡ (g.D.SharedDisk.state l.initial.disk).size;
  found : (im : Image) → ShowsSystem (g.D.SharedDisk.state l.initial.disk) im → All (IsSystemBlock im) l.blocks → l.best ≡ best_from (ring_at im l.blocks) 0 l.block-index;
  reads : ReadsOnly (g.D.SharedDisk.state l.initial.disk) (g.D.SharedDisk.state l.disk) (g.D.SharedDisk.list l.initial.disk) (g.D.SharedDisk.list l.disk) (g.D.SharedDisk.faults l.initial.disk) (g.D.SharedDisk.faults l.disk);
}
