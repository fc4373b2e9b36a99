use Rattle.std.proofs.Common.{◌≡◌, true, length, sym, ap, ◌∙◌, arith}
use Rattle.std.specs.Prelude.{slice_set}
use Rattle.image_mount.specs.Kept.{Kept}
use Rattle.image_mount.proofs.Marked.{grown_marked, marked_one}
use Rattle.image_mount.proofs.kept_blocks.KeptBlocks.mark.Goals as goal

pub returns-clause-marked : goal.returns-clause-marked
returns-clause-marked c free =
    let count : length c.args.self.now.places ≡ length c.args.self.now.entries = ap (λ (k : Kept). length k.places) (sym c.self.view_is) ∙ c.self.invariant.2 ∙ ap (λ (k : Kept). length k.entries) c.self.view_is in
    marked_one c.args.self.now (record { size = c.self.inside.size; entries = c.self.inside.entries.items; places = slice_set c.self.inside.places.items c.args.block true; leaves = c.self.inside.leaves.items; left = c.self.inside.left }) c.args.block (omega (arith, count, c.requires)) (ap (λ (k : Kept). slice_set k.places c.args.block true) c.self.view_is) free

pub returns-clause-grown : goal.returns-clause-grown
returns-clause-grown c free =
    grown_marked c.args.self.now (record { size = c.self.inside.size; entries = c.self.inside.entries.items; places = slice_set c.self.inside.places.items c.args.block true; leaves = c.self.inside.leaves.items; left = c.self.inside.left }) c.args.block
    (ap (λ (k : Kept). k.entries) c.self.view_is) (ap (λ (k : Kept). slice_set k.places c.args.block true) c.self.view_is) (ap (λ (k : Kept). k.leaves) c.self.view_is) free
