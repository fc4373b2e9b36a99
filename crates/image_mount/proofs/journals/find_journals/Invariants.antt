use Rattle.std.proofs.Common.{◌≡◌, length}
use Rattle.std.specs.List.{All}
use Rattle.image_model.specs.Image.{Image}
use Rattle.image_mount.specs.Rings.{AreJournals, IsRingOf}
use Rattle.image_mount.specs.Searching.{ShowsSystem}
use Rattle.image_mount.specs.declared.journals.Ring.{Ring}
use Rattle.shared_disk.specs.Disk.{ReadsOnly}
use Rattle.image_mount.proofs.journals.find_journals.Given as goal

abbrev pub invariant-loop-ring : goal.invariant-loop-ring
invariant-loop-ring g l = record {
  size : length l.bytes.items ≡ (g.D.SharedDisk.state l.initial.disk).size;
  found : (im : Image) → ShowsSystem (g.D.SharedDisk.state l.initial.disk) im → All (λ (ring : Ring). IsRingOf im ring.dinode ring.blocks.items) l.fn.rings.items → AreJournals im l.yielded l.journals.items;
  reads : ReadsOnly (g.D.SharedDisk.state l.initial.disk) (g.D.SharedDisk.state l.disk) (g.D.SharedDisk.list l.initial.disk) (g.D.SharedDisk.list l.disk) (g.D.SharedDisk.faults l.initial.disk) (g.D.SharedDisk.faults l.disk);
}
