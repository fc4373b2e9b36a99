use Rattle.std.specs.Prelude.{ℕ, Contains}
use Rattle.gfs2_layout.specs.Holding.{Holding}
use Rattle.hash_dirs.specs.Leaves.{IsLeaf}
use Rattle.hash_dirs.specs.Shown.{IsShown}
use Rattle.hash_dirs.proofs.Counted.{IsCountedTo}
use Rattle.hash_dirs.proofs.gathering.have_records.Given as goal

abbrev pub invariant-loop-leaf : goal.invariant-loop-leaf
invariant-loop-leaf g l = (h : Holding) → IsShown (g.V.View.seen l.view) l.dir h → ((x : ℕ) → Contains l.leaves x → IsLeaf h x) → IsCountedTo h l.leaves l.leaf-index l.count l.left
