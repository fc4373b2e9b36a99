use Rattle.std.proofs.Common.{ℕ, ◌+◌, ◌*◌, ◌<◌, ◌≤◌}
use Rattle.gfs2_layout.specs.Holding.{Holding}
use Rattle.glock_names.specs.Views.{HasBlock}
use Rattle.dinode_tree.specs.Shown.{IsShown}
use Rattle.growth_laws.specs.Files.{IsFile, block_on}
use Rattle.file_walks.specs.Walks.{IsOfInode, IsPassed, LeadsOn, place_above}
use Rattle.file_walks.proofs.walks.walk_down.Given as goal

abbrev pub invariant-loop-stop : goal.invariant-loop-stop
invariant-loop-stop g l = record {
  above : l.way.level ≤ l.stop.level;
  there : HasBlock (g.V.View.seen l.view) l.stop.pointer.from;
  fits : l.stop.pointer.start + 8 * l.stop.pointer.index + 8 ≤ (g.V.View.seen l.view).size;
  leads : (h : Holding) → IsShown (g.V.View.seen l.view) l.way.inode h → LeadsOn h l.way.level l.way.index l.fn.first → LeadsOn h l.way.level l.way.index l.stop;
  from : (h : Holding) → IsShown (g.V.View.seen l.view) l.way.inode h → LeadsOn h l.way.level l.way.index l.fn.first → IsOfInode h l.fn.first.pointer.from → IsOfInode h l.stop.pointer.from;
  seen : (h : Holding) → IsFile h → IsShown (g.V.View.seen l.view) l.way.inode h → IsPassed h l.way.level l.way.index l.fn.first → LeadsOn h l.way.level l.way.index l.fn.first
      → (n : ℕ) → l.stop.level < n → n ≤ l.fn.first.level → HasBlock (g.V.View.seen l.view) (block_on h n (place_above h.size l.way.level l.way.index n));
  passed : (h : Holding) → IsFile h → IsShown (g.V.View.seen l.view) l.way.inode h → IsPassed h l.way.level l.way.index l.fn.first → LeadsOn h l.way.level l.way.index l.fn.first → IsPassed h l.way.level l.way.index l.stop;
}

abbrev pub decreases-loop-stop : goal.decreases-loop-stop
decreases-loop-stop g l = l.stop.level
