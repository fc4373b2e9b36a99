use Rattle.std.proofs.Common.{sym, ◌∙◌}
use Rattle.image_model.specs.Owners.{holding}
use Rattle.glock_names.proofs.StepLaws.{answer_at, needed_at}
use Rattle.image_journals.proofs.Held.{seen_image, seen_now, shown_now, sound_now}
use Rattle.image_journals.proofs.Journals.{file, is_block, not_hole, undamaged, unneeded}
use Rattle.image_journals.specs.Blocks.{seen_of}
use Rattle.image_journals.proofs.places.block_at.Goals as goal

pub returns-in-Err : goal.returns-in-Err
returns-in-Err c r o l j s has low =
    let v = seen_of c.args.blocks.now in
    let d = c.args.dinode in
    let a_file = file v r o l s j d has in
    let is = shown_now v r o l s d a_file c.sound_inodes_are_shown.ensures in
    undamaged (holding (seen_image v r) o d) _ c.sound_inodes_break_nothing.ensures (sound_now v r o l s d a_file) (c.in-Err.ensures.damaged (holding (seen_image v r) o d) is)

pub returns-in-NeedBlock : goal.returns-in-NeedBlock
returns-in-NeedBlock c r o l j s has low =
    let v = seen_of c.args.blocks.now in
    let d = c.args.dinode in
    let a_file = file v r o l s j d has in
    let is = shown_now v r o l s d a_file c.sound_inodes_are_shown.ensures in
    unneeded v d (holding (seen_image v r) o d) _ _ _ is (seen_now v r o l s d a_file) (needed_at _ _ _ c.in-NeedBlock.is (c.in-Ok.ensures.needed (holding (seen_image v r) o d) is))

pub returns-in-Some : goal.returns-in-Some
returns-in-Some c r o l j s has low =
    let v = seen_of c.args.blocks.now in
    let d = c.args.dinode in
    let is = shown_now v r o l s d (file v r o l s j d has) c.sound_inodes_are_shown.ensures in
    is_block v r o l s j d has c.args.index low c.in-Some.block (sym c.in-Some.is ∙ answer_at _ _ _ c.in-Is.is (c.in-Ok.ensures.found (holding (seen_image v r) o d) is))

pub returns-in-None : goal.returns-in-None
returns-in-None c r o l j s has low =
    let v = seen_of c.args.blocks.now in
    let d = c.args.dinode in
    let is = shown_now v r o l s d (file v r o l s j d has) c.sound_inodes_are_shown.ensures in
    not_hole v r o l s j d has c.args.index low (sym c.in-None.is ∙ answer_at _ _ _ c.in-Is.is (c.in-Ok.ensures.found (holding (seen_image v r) o d) is))
