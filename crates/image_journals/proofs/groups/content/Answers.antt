use Rattle.std.proofs.Common.{subst}
use Rattle.glock_names.specs.Steps.{TellsOf}
use Rattle.glock_names.proofs.StepLaws.{answer_at, needed_at}
use Rattle.dinode_tree.specs.Broken.{IsBroken}
use Rattle.image_model.specs.Owners.{holding}
use Rattle.image_journals.specs.Blocks.{seen_of}
use Rattle.image_journals.proofs.Contents.{whole}
use Rattle.image_journals.proofs.Held.{index_sound, seen, shown}
use Rattle.image_journals.proofs.Journals.{unneeded, untold}
use Rattle.image_journals.proofs.Read.{handed}
use Rattle.image_journals.proofs.groups.content.Goals as goal

pub returns-in_err-size : goal.returns-in_err-size
returns-in_err-size c r o l s index = handed c.from_residual.result _ _ _ c.from_residual.ensures.1 (c.in_err-size.ensures r o l s index)

pub returns-in-Err-Damaged : goal.returns-in-Err-Damaged
returns-in-Err-Damaged c r o l s index =
    let v = seen_of c.args.blocks.now in
    let d = c.args.dinode in
    let h = holding r o d in
    untold h c.in-Err-Damaged.field-0-0 c.in-Err-Damaged.field-0-1 c.sound_inodes_break_nothing.ensures (index_sound v r o l s d index)
    (subst (TellsOf (IsBroken h)) c.in-Err-Damaged.field-0-is (c.in-Err-Damaged.ensures.damaged h (shown v r o l s d index c.sound_inodes_are_shown.ensures)))

pub returns-in-NeedBlock : goal.returns-in-NeedBlock
returns-in-NeedBlock c r o l s index =
    let v = seen_of c.args.blocks.now in
    let d = c.args.dinode in
    let is = shown v r o l s d index c.sound_inodes_are_shown.ensures in
    unneeded v d (holding r o d) _ _ _ is (seen v r o l s d index) (needed_at _ _ _ c.in-NeedBlock.is (c.in-Ok.ensures.needed (holding r o d) is))

pub returns-in-Is : goal.returns-in-Is
returns-in-Is c r o l s index =
    let v = seen_of c.args.blocks.now in
    let d = c.args.dinode in
    let h = holding r o d in
    let is = shown v r o l s d index c.sound_inodes_are_shown.ensures in
    let read = answer_at _ _ _ c.in-Is.is (c.in-Ok.ensures.found h is (c.sound_inodes_are_whole.ensures h 0 s.laid.image.block_size (index_sound v r o l s d index))) in
    whole v r o l s d c.in_ok-size.size _ index (c.in_ok-size.ensures r o l s index) read
