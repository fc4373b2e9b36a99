use Rattle.std.proofs.Common.{sym, subst}
use Rattle.glock_names.specs.Steps.{TellsOf}
use Rattle.glock_names.specs.Views.{IsOfView}
use Rattle.resource_groups.specs.Freeing.{BreaksSome}
use Rattle.resource_groups.specs.Putting.{HasDataBlock}
use Rattle.group_locks.proofs.Faults.{told_on}
use Rattle.file_changes.proofs.Fresh.{seen_new}
use Rattle.file_changes.proofs.groups.tell_groups.Goals as goal

pub free_blocks-requires : goal.free_blocks-requires
free_blocks-requires g c = record { blocks = λ b has. subst (λ w. HasDataBlock w b) (sym (seen_new g.V.View.seen c.args.view.now c.new-draft.result c.new-draft.ensures)) (c.requires.inside b has) }

pub returns-in_err-free_blocks-clause-damaged : goal.returns-in_err-free_blocks-clause-damaged
returns-in_err-free_blocks-clause-damaged g c =
    told_on (BreaksSome (g.V.View.seen c.args.view.now) c.args.blocks.now) c.from_residual.result _ c.from_residual.ensures.1
    (subst (λ w. TellsOf (BreaksSome w c.args.blocks.now) c.in_err-free_blocks.field-0.0) (seen_new g.V.View.seen c.args.view.now c.new-draft.result c.new-draft.ensures) c.in_err-free_blocks.ensures.damaged)

pub returns-in_err-free_blocks-clause-kept : goal.returns-in_err-free_blocks-clause-kept
returns-in_err-free_blocks-clause-kept g c =
    told_on (IsOfView (g.V.View.seen c.args.view.now)) c.from_residual.result _ c.from_residual.ensures.1
    (subst (λ w. TellsOf (IsOfView w) c.in_err-free_blocks.field-0.0) (seen_new g.V.View.seen c.args.view.now c.new-draft.result c.new-draft.ensures) c.in_err-free_blocks.ensures.kept)
