use Rattle.std.proofs.Common.{sym, subst, arith}
use Rattle.image_mount.specs.Kept.{Kept}
use Rattle.image_mount.specs.Marked.{IsTaken}
use Rattle.image_mount.proofs.Taken.{taken_inside}
use Rattle.image_mount.proofs.kept_blocks.KeptBlocks.count.Goals as goal

pub returns-clause-inside : goal.returns-clause-inside
returns-clause-inside c b taken =
    let inside : Kept = record { size = c.self.inside.size; entries = c.self.inside.entries.items; places = c.self.inside.places.items; leaves = c.self.inside.leaves.items; left = c.self.inside.left } in
    let low = taken_inside inside c.self.invariant.2 c.self.invariant.3 b (subst (λ (k : Kept). IsTaken k b) (sym c.self.view_is) taken) in
    omega (arith, low, c.len.ensures)
