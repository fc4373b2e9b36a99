use Rattle.std.proofs.Common.{sym, subst}
use Rattle.drafts.specs.Fates.{seen_in}
use Rattle.glock_names.specs.Steps.{TellsOf}
use Rattle.glock_names.specs.Views.{HasBlock}
use Rattle.glock_names.proofs.StepLaws.{needed_at}
use Rattle.dinode_tree.specs.Broken.{IsBroken}
use Rattle.dinode_tree.proofs.Sound.{sound_breaks_nothing}
use Rattle.table_changes.proofs.Below.{nothing_needed}
use Rattle.table_changes.proofs.growing.write_table.Goals as goal

pub returns-in-Ok-NeedBlock-clause-written : goal.returns-in-Ok-NeedBlock-clause-written
returns-in-Ok-NeedBlock-clause-written g c = λ h shown can below there.
    let v = seen_in g.V.View.seen c.args.draft.now in
    absurd (nothing_needed v h _ _ c.in-Ok-NeedBlock.field-0-0 (subst (HasBlock v) (sym shown.own) there) below (needed_at c.in-Ok-NeedBlock.field-0 c.in-Ok-NeedBlock.field-0-0 _ c.in-Ok-NeedBlock.field-0-is (c.in-Ok-NeedBlock.ensures.needed h shown)))

pub returns-in-Err-Damaged-clause-written : goal.returns-in-Err-Damaged-clause-written
returns-in-Err-Damaged-clause-written g c = λ h shown can below there.
    absurd (sound_breaks_nothing h _ _ (c.files_are_inodes.ensures.inodes h can.counted.file can.counted.blocks) (subst (TellsOf (IsBroken h)) c.in-Err-Damaged.field-0-is (c.in-Err-Damaged.ensures.damaged h shown)))
