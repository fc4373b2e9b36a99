use Rattle.std.proofs.Common.{subst}
use Rattle.drafts.specs.Fates.{AreWhole, Drafted}
use Rattle.glock_names.proofs.StepLaws.{answer_at}
use Rattle.removing_calls.proofs.Taken.{freed_and_done}
use Rattle.removing_calls.proofs.drafting.free_and_finish.Goals as goal

pub returns-clause-freed : goal.returns-clause-freed
returns-clause-freed g c =
    freed_and_done g.V.View.seen c.args.draft c.free_blocks.new.draft c.args.blocks.now c.in_ok-finish.field-0 (answer_at _ _ _ c.in-Is.is c.in_ok-free_blocks.ensures.freed) c.in_ok-free_blocks.ensures.rest
    (subst (λ (d : Drafted g.row.V.Denot). AreWhole (g.V.View.seen d.view).size d.fates) c.draft.view_is c.draft.invariant.0)
    (record { blocks = c.in_ok-finish.ensures.blocks; locks = c.in_ok-finish.ensures.locks; freed = c.in_ok-finish.ensures.freed })
