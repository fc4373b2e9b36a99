use Rattle.std.proofs.Common.{sym, subst}
use Rattle.std.specs.Prelude.{Contains}
use Rattle.glock_names.specs.Steps.{IfDamaged, IfNeedBlock}
use Rattle.glock_names.specs.Views.{IsOfView}
use Rattle.drafts.specs.Fates.{seen_in}
use Rattle.resource_groups.specs.Freeing.{BreaksSome, IsNeededFor}
use Rattle.resource_groups.specs.Putting.{HasDataBlock}
use Rattle.name_moves.proofs.Fates.{seen_new}
use Rattle.name_moves.specs.Moving.{IsPlaceOfMove, freed_by, move_of}
use Rattle.move_calls.proofs.looking.look_at_freed.Goals as goal

pub free_blocks-requires : goal.free_blocks-requires
free_blocks-requires g c = record {
  blocks = λ b has.
      subst (λ w. HasDataBlock w b) (sym (seen_new g.V.View.seen c.args.view.now c.new-draft.result c.new-draft.ensures))
      (c.requires.can.inside b (IsPlaceOfMove.of_replaced (subst (λ xs. Contains xs b) c.freed_blocks.ensures has)));
}

pub returns-clause-needed : goal.returns-clause-needed
returns-clause-needed g c =
    subst (λ w. IfNeedBlock c.free_blocks.result (IsNeededFor w (freed_by (move_of c.args.m.now)))) (seen_new g.V.View.seen c.args.view.now c.new-draft.result c.new-draft.ensures)
    (subst (λ xs. IfNeedBlock c.free_blocks.result (IsNeededFor (seen_in g.V.View.seen c.new-draft.result) xs)) c.freed_blocks.ensures c.free_blocks.ensures.needed)

pub returns-clause-damaged : goal.returns-clause-damaged
returns-clause-damaged g c =
    subst (λ w. IfDamaged c.free_blocks.result (BreaksSome w (freed_by (move_of c.args.m.now)))) (seen_new g.V.View.seen c.args.view.now c.new-draft.result c.new-draft.ensures)
    (subst (λ xs. IfDamaged c.free_blocks.result (BreaksSome (seen_in g.V.View.seen c.new-draft.result) xs)) c.freed_blocks.ensures c.free_blocks.ensures.damaged)

pub returns-clause-kept : goal.returns-clause-kept
returns-clause-kept g c = subst (λ w. IfDamaged c.free_blocks.result (IsOfView w)) (seen_new g.V.View.seen c.args.view.now c.new-draft.result c.new-draft.ensures) c.free_blocks.ensures.kept
