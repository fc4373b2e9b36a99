use Rattle.std.proofs.Common.{◌≡◌, ◌++◌}
use Rattle.drafts.specs.Fates.{blocks_in, locks_in, freed_in}
use Rattle.drafts.proofs.draft.Draft.finish.Given as goal

abbrev pub invariant-loop-block : goal.invariant-loop-block
invariant-loop-block g l =
    (l.change.blocks.items ++ blocks_in l.block-iterator ≡ blocks_in l.initial.block-iterator)
    × (l.change.locks.items ++ locks_in l.block-iterator ≡ locks_in l.initial.block-iterator)
    × (l.change.freed.items ++ freed_in l.block-iterator ≡ freed_in l.initial.block-iterator)
