use Rattle.std.proofs.Common.{◌≡◌, true, length, ap, sym, ◌∙◌, arith}
use Rattle.std.specs.Prelude.{slice_set}
use Rattle.image_mount.specs.Kept.{Kept}
use Rattle.image_mount.proofs.Marked.{leaf_taken}
use Rattle.image_mount.proofs.kept_blocks.KeptBlocks.mark_leaf.Goals as goal

pub returns-clause-read : goal.returns-clause-read
returns-clause-read c =
    let count : length c.args.self.now.leaves ≡ length c.args.self.now.entries = ap (λ (k : Kept). length k.leaves) (sym c.self.view_is) ∙ c.self.invariant.3 ∙ ap (λ (k : Kept). length k.entries) c.self.view_is in
    leaf_taken c.args.self.now (record { size = c.self.inside.size; entries = c.self.inside.entries.items; places = c.self.inside.places.items; leaves = slice_set c.self.inside.leaves.items c.args.block true; left = c.self.inside.left }) c.args.block
    (omega (arith, count, c.requires)) (ap (λ (k : Kept). slice_set k.leaves c.args.block true) c.self.view_is)
