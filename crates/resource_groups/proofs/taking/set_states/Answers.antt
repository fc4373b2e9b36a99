use Rattle.std.proofs.Common.{ℕ, List, [], ◌∷◌, get_or, take, sym, subst}
use Rattle.std.specs.Prelude.{Contains}
use Rattle.std.proofs.lemmas.List.{take_more}
use Rattle.glock_names.proofs.StepLaws.{answer_at, needed_at}
use Rattle.drafts.specs.Fates.{seen_in}
use Rattle.resource_groups.specs.Freeing.{BreaksSome}
use Rattle.resource_groups.specs.Taking.{AreSet, KeepsBlocks}
use Rattle.resource_groups.proofs.Sets.{groups_same, set_none, keeps_none, set_both, keeps_both, keeps_upto, grouped_then, item_has, needed_before, broken_some, handed}
use Rattle.resource_groups.proofs.taking.set_states.Goals as goal

pub loop-block-init : goal.loop-block-init
loop-block-init g c = record { set = set_none g.V.View.seen c.args.draft.now c.args.state; rest = keeps_none g.V.View.seen c.args.draft.now }

pub set_one-requires-clause-block : goal.set_one-requires-clause-block
set_one-requires-clause-block g c =
    grouped_then g.V.View.seen c.args.draft.now c.loop-block.draft _ c.loop-block.invariant.rest.view (c.requires.blocks _ (item_has c.args.blocks.now c.loop-block.block-index 0 c.loop-block-test.true))

pub returns-in_err-set_one-clause-rest : goal.returns-in_err-set_one-clause-rest
returns-in_err-set_one-clause-rest g c =
    keeps_upto g.V.View.seen c.args.draft.now c.loop-block.draft c.set_one.new.draft c.args.blocks.now c.loop-block.block-index 0 c.loop-block-test.true c.loop-block.invariant.rest c.set_one.ensures.rest

pub returns-in_err-set_one-clause-damaged : goal.returns-in_err-set_one-clause-damaged
returns-in_err-set_one-clause-damaged g c =
    let x = get_or c.args.blocks.now c.loop-block.block-index 0 in
    let has : Contains c.args.blocks.now x = item_has c.args.blocks.now c.loop-block.block-index 0 c.loop-block-test.true in
    handed c.from_residual.result _ (BreaksSome (seen_in g.V.View.seen c.args.draft.now) c.args.blocks.now) c.from_residual.ensures.1
    (broken_some g.V.View.seen c.args.draft.now c.loop-block.draft (take c.loop-block.block-index c.args.blocks.now) c.args.blocks.now _ x c.args.state c.requires.state c.block_size-size.ensures.view c.set_one.ensures.view
    c.loop-block.invariant.rest.view c.loop-block.invariant.set (c.requires.blocks x has) has c.in_err-set_one.ensures.damaged)

pub returns-in-NeedBlock-clause-rest : goal.returns-in-NeedBlock-clause-rest
returns-in-NeedBlock-clause-rest g c =
    keeps_upto g.V.View.seen c.args.draft.now c.loop-block.draft c.set_one.new.draft c.args.blocks.now c.loop-block.block-index 0 c.loop-block-test.true c.loop-block.invariant.rest c.set_one.ensures.rest

pub returns-in-NeedBlock-clause-needed : goal.returns-in-NeedBlock-clause-needed
returns-in-NeedBlock-clause-needed g c =
    let x = get_or c.args.blocks.now c.loop-block.block-index 0 in
    let has : Contains c.args.blocks.now x = item_has c.args.blocks.now c.loop-block.block-index 0 c.loop-block-test.true in
    let there = c.requires.blocks x has in (
      there.0,
      there.1,
      (
        x,
        has,
        there.2,
        needed_before g.V.View.seen c.args.draft.now c.loop-block.draft (take c.loop-block.block-index c.args.blocks.now) there.0 x c.args.state c.in-NeedBlock.missing
            c.loop-block.invariant.rest.view c.loop-block.invariant.set there.1
            (needed_at c.in_ok-set_one.field-0 c.in-NeedBlock.missing _ c.in-NeedBlock.is
            (c.in_ok-set_one.ensures.needed there.0 (groups_same g.V.View.seen c.args.draft.now c.loop-block.draft c.loop-block.invariant.rest.view there.0 there.1) there.2)),
      ),
    )

pub loop-block-preserved : goal.loop-block-preserved
loop-block-preserved g c =
    let seen = g.V.View.seen in
    let blocks : List ℕ = c.args.blocks.now in
    let n = c.loop-block.block-index in
    let x = get_or blocks n 0 in
    let more = take_more blocks n 0 c.loop-block-test.true in
    record {
      set = subst (λ xs. AreSet seen c.args.draft.now c.set_one.new.draft xs c.args.state) (sym more)
          (set_both seen c.args.draft.now c.loop-block.draft c.set_one.new.draft (take n blocks) (x ∷ []) c.args.state c.set_one.ensures.view
          c.loop-block.invariant.rest c.loop-block.invariant.set c.set_one.ensures.rest (answer_at _ _ _ c.in-Is.is c.in_ok-set_one.ensures.set));
      rest = subst (λ xs. KeepsBlocks seen c.args.draft.now c.set_one.new.draft xs) (sym more)
          (keeps_both seen c.args.draft.now c.loop-block.draft c.set_one.new.draft (take n blocks) (x ∷ []) c.loop-block.invariant.rest c.set_one.ensures.rest);
    }
