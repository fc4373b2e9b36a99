use Rattle.std.proofs.Common.{◌++◌, ◌∷◌, [], ◌∙◌, append-nil, append_assoc, ap, sym}
use Rattle.std.specs.FinMap as map
use Rattle.drafts.specs.Fates.{blocks_in, locks_in, freed_in}
use Rattle.drafts.proofs.Fates.{entries_again, blocks_append, locks_append, freed_append}
use Rattle.drafts.proofs.draft.Draft.finish.Goals as goal

pub loop-block-init : goal.loop-block-init
loop-block-init g c = (
  ap (λ l. l ++ blocks_in c.into_iter-block-iterator.result) c.new.ensures.items,
  ap (λ l. l ++ locks_in c.into_iter-block-iterator.result) c.new-2.ensures.items,
  ap (λ l. l ++ freed_in c.into_iter-block-iterator.result) c.new-3.ensures.items,
)

pub loop-block-preserved : goal.loop-block-preserved
loop-block-preserved g c = (
  ap (λ l. l ++ blocks_in c.next.new.self) c.in_ok-add.ensures.blocks ∙ append_assoc c.loop-block.change.blocks.items (blocks_in ((c.in-Some.block, c.in-Some.fate) ∷ [])) (blocks_in c.next.new.self)
      ∙ ap (λ l. c.loop-block.change.blocks.items ++ l) (sym (blocks_append c.in-Some.block c.in-Some.fate c.next.new.self)) ∙ ap (λ l. c.loop-block.change.blocks.items ++ blocks_in l) (sym c.in-Some.ensures.steps) ∙ c.loop-block.invariant.0,
  ap (λ l. l ++ locks_in c.next.new.self) c.in_ok-add.ensures.locks ∙ append_assoc c.loop-block.change.locks.items (locks_in ((c.in-Some.block, c.in-Some.fate) ∷ [])) (locks_in c.next.new.self)
      ∙ ap (λ l. c.loop-block.change.locks.items ++ l) (sym (locks_append c.in-Some.block c.in-Some.fate c.next.new.self)) ∙ ap (λ l. c.loop-block.change.locks.items ++ locks_in l) (sym c.in-Some.ensures.steps) ∙ c.loop-block.invariant.1,
  ap (λ l. l ++ freed_in c.next.new.self) c.in_ok-add.ensures.freed ∙ append_assoc c.loop-block.change.freed.items (freed_in ((c.in-Some.block, c.in-Some.fate) ∷ [])) (freed_in c.next.new.self)
      ∙ ap (λ l. c.loop-block.change.freed.items ++ l) (sym (freed_append c.in-Some.block c.in-Some.fate c.next.new.self)) ∙ ap (λ l. c.loop-block.change.freed.items ++ freed_in l) (sym c.in-Some.ensures.steps) ∙ c.loop-block.invariant.2,
)

pub returns-clause-blocks : goal.returns-clause-blocks
returns-clause-blocks g c = sym (append-nil c.loop-block.change.blocks.items) ∙ ap (λ l. c.loop-block.change.blocks.items ++ blocks_in l) (sym c.in-None.ensures.steps.0) ∙ c.loop-block.invariant.0
    ∙ ap blocks_in (c.into_iter-block-iterator.ensures.into_iter_gives.0 ∙ sym (entries_again _ c.self.invariant.1)) ∙ (λ i. blocks_in (map.entries (c.self.view_is i).fates))

pub returns-clause-locks : goal.returns-clause-locks
returns-clause-locks g c = sym (append-nil c.loop-block.change.locks.items) ∙ ap (λ l. c.loop-block.change.locks.items ++ locks_in l) (sym c.in-None.ensures.steps.0) ∙ c.loop-block.invariant.1
    ∙ ap locks_in (c.into_iter-block-iterator.ensures.into_iter_gives.0 ∙ sym (entries_again _ c.self.invariant.1)) ∙ (λ i. locks_in (map.entries (c.self.view_is i).fates))

pub returns-clause-freed : goal.returns-clause-freed
returns-clause-freed g c = sym (append-nil c.loop-block.change.freed.items) ∙ ap (λ l. c.loop-block.change.freed.items ++ freed_in l) (sym c.in-None.ensures.steps.0) ∙ c.loop-block.invariant.2
    ∙ ap freed_in (c.into_iter-block-iterator.ensures.into_iter_gives.0 ∙ sym (entries_again _ c.self.invariant.1)) ∙ (λ i. freed_in (map.entries (c.self.view_is i).fates))
