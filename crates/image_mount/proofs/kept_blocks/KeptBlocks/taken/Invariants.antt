use Rattle.std.proofs.Common.{ℕ, ◌<◌}
use Rattle.std.specs.Prelude.{Contains, ◌↔◌}
use Rattle.std.specs.List.Sorted.{IsStrictlyIncreasing}
use Rattle.image_mount.specs.Marked.{IsTaken}
use Rattle.image_mount.proofs.kept_blocks.KeptBlocks.taken.Given as goal

abbrev pub invariant-loop-block : goal.invariant-loop-block
invariant-loop-block l = record {
  rise : IsStrictlyIncreasing l.blocks.items;
  there : (b : ℕ) → Contains l.blocks.items b ↔ (IsTaken l.self b × (b < l.block));
}
