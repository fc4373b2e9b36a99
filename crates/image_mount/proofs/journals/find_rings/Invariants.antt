use Rattle.std.proofs.Common.{◌<◌, [], take}
use Rattle.std.specs.Prelude.{map}
use Rattle.std.specs.List.{All}
use Rattle.image_model.specs.Image.{Image}
use Rattle.image_mount.specs.Looks.{IsInGroups}
use Rattle.image_mount.specs.Marked.{AreMarked, IsGrown, IsKept}
use Rattle.image_mount.specs.Rings.{IsOwn, AreKeptWays, IsSearched, AreRings, all_places}
use Rattle.image_mount.specs.Searching.{IsWorking, ShowsSystem}
use Rattle.image_mount.specs.System.{IsSystemOf}
use Rattle.image_mount.specs.declared.journals.Ring.{Ring}
use Rattle.shared_disk.specs.Disk.{ReadsOnly}
use Rattle.image_mount.proofs.journals.find_rings.Given as goal

abbrev pub invariant-loop-journal : goal.invariant-loop-journal
invariant-loop-journal g l = record {
  work : IsWorking (g.D.SharedDisk.state l.disk) l.table;
  inside : All (λ (ring : Ring). All (λ b. b < (g.D.SharedDisk.state l.initial.disk).count) ring.blocks.items) l.rings.items;
  placed : All (λ (ring : Ring). All (IsInGroups l.system.groups.items) ring.blocks.items) l.rings.items;
  own : All (λ (ring : Ring). IsOwn l.system ring.dinode) l.rings.items;
  ways : (im : Image) → ShowsSystem (g.D.SharedDisk.state l.initial.disk) im → IsSystemOf im l.system → IsSearched im [] 0 0 l.initial.table → All (λ (ring : Ring). AreKeptWays im l.table ring.dinode ring.blocks.items) l.rings.items;
  grown : IsGrown l.initial.table l.table;
  kept : All (λ (ring : Ring). IsKept l.table ring.dinode) l.rings.items;
  marked : AreMarked l.initial.table l.table (all_places l.rings.items);
  found : (im : Image) → ShowsSystem (g.D.SharedDisk.state l.initial.disk) im → IsSystemOf im l.system → IsSearched im [] 0 0 l.initial.table → AreRings im (take l.journal-index l.system.journals.items) l.rings.items;
  searched : (im : Image) → ShowsSystem (g.D.SharedDisk.state l.initial.disk) im → IsSystemOf im l.system → IsSearched im [] 0 0 l.initial.table → IsSearched im (map (λ (ring : Ring). ring.dinode) l.rings.items) 0 0 l.table;
  reads : ReadsOnly (g.D.SharedDisk.state l.initial.disk) (g.D.SharedDisk.state l.disk) (g.D.SharedDisk.list l.initial.disk) (g.D.SharedDisk.list l.disk) (g.D.SharedDisk.faults l.initial.disk) (g.D.SharedDisk.faults l.disk);
}
