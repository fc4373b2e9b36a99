use Rattle.std.proofs.Common.{true, false, refl, sym, subst, ◌∙◌, true≢false, arith}
use Rattle.std.proofs.lemmas.List.{get_or_default}
use Rattle.std.proofs.lemmas.List.Elements.{AllWithin-more}
use Rattle.logged_calls.specs.Adding.{IsBlockOfLog}
use Rattle.logged_calls.proofs.loggable.are_blocks_of_log.Goals as goal

pub returns-then-not-is_block_of_log : goal.returns-then-not-is_block_of_log
returns-then-not-is_block_of_log c = (
  (λ never. absurd (true≢false (sym never))),
  (λ all. absurd (true≢false (sym (c.is_block_of_log.ensures.1 (subst IsBlockOfLog (sym c.written-item.is) (all c.loop-written.written-index c.written-item.result c.loop-written-test.true))) ∙ c.if-not-is_block_of_log.true))),
)

pub loop-written-preserved : goal.loop-written-preserved
loop-written-preserved c = AllWithin-more IsBlockOfLog c.args.blocks.now 0 c.loop-written.written-index c.loop-written.invariant
    (λ d. subst IsBlockOfLog (c.written-item.is ∙ get_or_default c.args.blocks.now c.loop-written.written-index c.written-item.result d c.loop-written-test.true) (c.is_block_of_log.ensures.0 c.if-not-is_block_of_log.false))

pub returns : goal.returns
returns c = (
  (λ is k d low. c.loop-written.invariant k d (omega arith) (let past = c.loop-written-test.false in omega (arith, past, low))),
  (λ all. refl),
)
