use Rattle.std.proofs.Common.{◌≡◌, ℕ, List, None, Some, sym, ◌∙◌, rules}
use Rattle.image_mount.specs.Kept.{seen_of}
use Rattle.image_mount.specs.Marked.{of_kept, of_leaf, of_place}
use Rattle.image_mount.proofs.Causes.{lacks}
use Rattle.image_mount.proofs.KeptLaws.{some_there}
use Rattle.image_mount.proofs.kept_blocks.KeptBlocks.is_taken.Goals as goal

pub returns-clause-taken : goal.returns-clause-taken
returns-clause-taken c some =
    let there = some_there c.block.result (λ bytes. (seen_of c.args.self.now).block_at c.args.block ≡ Some bytes.now) (sym c.is_some.ensures ∙ some) c.block.ensures.some in
    of_kept there.0.now there.1

pub returns-clause-untaken : goal.returns-clause-untaken
returns-clause-untaken c none taken =
    let free : (seen_of c.args.self.now).block_at c.args.block ≡ None = search (rules, c.block.ensures.none) in
    elim taken [
      | of_place at ↦ lacks c.is_place.result c.is_place.ensures c.if-is_place.false at
      | of_leaf at ↦ lacks c.is_leaf.result c.is_leaf.ensures c.if-is_leaf.false at
      | of_kept bytes at ↦ none_some bytes (sym free ∙ at)
    ]
  where
    none_some : (y : List ℕ) → None ≡ Some y → ⊥
    none_some y e = cc
