use Rattle.std.proofs.Common.{◌≡◌, ℕ, Some, take}
use Rattle.std.specs.Prelude.{Contains}
use Rattle.std.specs.FinMap.{get}
use Rattle.drafts.specs.declared.fate.Fate.TheVariants.{Freed}
use Rattle.resource_groups.specs.Freeing.{KeepsAllBut}
use Rattle.resource_groups.proofs.freeing.free_each.Given as goal

abbrev pub invariant-loop-block : goal.invariant-loop-block
invariant-loop-block g l = record {
  freed : (b : ℕ) → Contains (take l.block-index l.blocks) b → get l.draft.fates b ≡ Some Freed;
  rest : KeepsAllBut l.initial.draft l.draft (take l.block-index l.blocks);
}
