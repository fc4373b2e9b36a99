use Rattle.std.proofs.Common.{◌∙◌}
use Rattle.image_model.specs.Owners.{holding}
use Rattle.glock_names.proofs.StepLaws.{answer_at, needed_at}
use Rattle.image_journals.proofs.Held.{dinode_seen, seen_image, shown_now, sound_now}
use Rattle.image_journals.proofs.Journals.{file, places_read, undamaged}
use Rattle.image_journals.specs.Blocks.{seen_of}
use Rattle.image_journals.proofs.places.place_count.Goals as goal

pub returns-in-Err : goal.returns-in-Err
returns-in-Err c r o l j s has =
    let v = seen_of c.args.blocks.now in
    let d = c.args.dinode in
    let a_file = file v r o l s j d has in
    let is = shown_now v r o l s d a_file c.sound_inodes_are_shown.ensures in
    undamaged (holding (seen_image v r) o d) _ c.sound_inodes_break_nothing.ensures (sound_now v r o l s d a_file) (c.in-Err.ensures.damaged (holding (seen_image v r) o d) is)

pub returns-in-NeedBlock : goal.returns-in-NeedBlock
returns-in-NeedBlock c r o l j s has =
    let v = seen_of c.args.blocks.now in
    dinode_seen v r o l s c.args.dinode (file v r o l s j c.args.dinode has) (needed_at _ _ _ c.in-NeedBlock.is c.in-Ok.ensures.absent)

pub returns-in-Is : goal.returns-in-Is
returns-in-Is c r o l j s has =
    let v = seen_of c.args.blocks.now in
    let d = c.args.dinode in
    let is = shown_now v r o l s d (file v r o l s j d has) c.sound_inodes_are_shown.ensures in
    places_read v r o l s j d has c.from.result c.in-Is.read (c.from.ensures ∙ s.size) (answer_at _ _ _ c.in-Is.is (c.in-Ok.ensures.found (holding (seen_image v r) o d) is))
