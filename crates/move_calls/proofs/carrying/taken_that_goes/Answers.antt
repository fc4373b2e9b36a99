use borrow.Author.Count.{below_more}
use Rattle.std.proofs.Common.{◌≡◌, true, false, sym, ◌∙◌, subst, arith}
use Rattle.std.proofs.lemmas.Bool.{eq-eqb}
use Rattle.std.proofs.lemmas.Grind.{get_or_default_zero}
use Rattle.std.specs.Prelude.{Contains, slice_index_or}
use Rattle.move_calls.proofs.carrying.taken_that_goes.Goals as goal

other : false ≡ true → ⊥
other e = cc

pub loop-block-preserved : goal.loop-block-preserved
loop-block-preserved c =
    below_more (λ k. Contains c.freed_blocks-freed.result.now (slice_index_or c.args.room.now k 0) → ⊥) c.loop-block.block-index c.loop-block.invariant
    (λ has. other (sym (c.if-contains.ensures.cases has.0 (slice_index_or c.args.room.now c.loop-block.block-index 0) (omega arith) has.1) ∙ eq-eqb _ _ has.2))

pub returns-clause-none : goal.returns-clause-none
returns-clause-none c b has goes =
    c.loop-block.invariant has.0 (omega (arith, has.1, c.loop-block-test.false))
    (subst (Contains c.freed_blocks-freed.result.now) (sym has.2 ∙ get_or_default_zero c.args.room.now has.0 b has.1)
    (subst (λ xs. Contains xs b) (sym c.freed_blocks-freed.ensures) goes))
