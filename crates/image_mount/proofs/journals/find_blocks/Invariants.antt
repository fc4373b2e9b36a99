use Rattle.std.proofs.Common.{◌≡◌, ◌<◌, ℕ, List, length}
use Rattle.std.specs.List.{All}
use Rattle.image_model.specs.Claims.{every}
use Rattle.image_model.specs.Image.{Image}
use Rattle.image_mount.specs.Looks.{IsInGroups}
use Rattle.image_mount.specs.Marked.{AreMarked, IsGrown, IsKept, IsKeptWay}
use Rattle.image_mount.specs.Rings.{IsNext, IsSearched, HasPlaces, AreBlocksOf}
use Rattle.image_mount.specs.Searching.{IsWorking, ShowsSystem}
use Rattle.shared_disk.specs.Disk.{ReadsOnly}
use Rattle.image_mount.proofs.journals.find_blocks.Given as goal

abbrev pub invariant-loop-place : goal.invariant-loop-place
invariant-loop-place g l = record {
  work : IsWorking (g.D.SharedDisk.state l.disk) l.table;
  inside : All (λ b. b < (g.D.SharedDisk.state l.initial.disk).count) l.blocks.items;
  placed : All (IsInGroups l.system.groups.items) l.blocks.items;
  ways : (done : List ℕ) → (im : Image) → ShowsSystem (g.D.SharedDisk.state l.initial.disk) im → IsNext im done l.system l.journal → HasPlaces im l.journal.entry.addr l.places → IsSearched im done l.journal.entry.addr 0 l.initial.table → IsKept l.initial.table l.journal.entry.addr → (p : ℕ) → p < l.place → IsKeptWay l.table (every im l.journal.entry.addr) p;
  grown : IsGrown l.initial.table l.table;
  marked : AreMarked l.initial.table l.table l.blocks.items;
  count : length l.blocks.items ≡ l.place;
  found : (done : List ℕ) → (im : Image) → ShowsSystem (g.D.SharedDisk.state l.initial.disk) im → IsNext im done l.system l.journal → HasPlaces im l.journal.entry.addr l.places → IsSearched im done l.journal.entry.addr 0 l.initial.table
      → AreBlocksOf im l.journal.entry.addr l.place l.blocks.items;
  searched : (done : List ℕ) → (im : Image) → ShowsSystem (g.D.SharedDisk.state l.initial.disk) im → IsNext im done l.system l.journal → HasPlaces im l.journal.entry.addr l.places → IsSearched im done l.journal.entry.addr 0 l.initial.table
      → IsSearched im done l.journal.entry.addr l.place l.table;
  reads : ReadsOnly (g.D.SharedDisk.state l.initial.disk) (g.D.SharedDisk.state l.disk) (g.D.SharedDisk.list l.initial.disk) (g.D.SharedDisk.list l.disk) (g.D.SharedDisk.faults l.initial.disk) (g.D.SharedDisk.faults l.disk);
}
