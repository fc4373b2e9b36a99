use Rattle.std.proofs.Common.{ap}
use Rattle.gfs2_layout.specs.declared.dinode.Dinode.{Dinode}
use Rattle.glock_names.proofs.StepLaws.{answer_at, needed_at}
use Rattle.image_model.specs.Owners.{holding}
use Rattle.image_journals.specs.Blocks.{seen_of}
use Rattle.image_journals.proofs.Held.{dinode_seen, index_file, index_sound, shown}
use Rattle.image_journals.proofs.Journals.{undamaged}
use Rattle.image_journals.proofs.groups.size_of.Goals as goal

pub returns-in-Err : goal.returns-in-Err
returns-in-Err c r o l s index =
    let v = seen_of c.args.blocks.now in
    let d = c.args.dinode in
    undamaged (holding r o d) _ c.sound_inodes_break_nothing.ensures (index_sound v r o l s d index) (c.in-Err.ensures.damaged (holding r o d) (shown v r o l s d index c.sound_inodes_are_shown.ensures))

pub returns-in-NeedBlock : goal.returns-in-NeedBlock
returns-in-NeedBlock c r o l s index = dinode_seen (seen_of c.args.blocks.now) r o l s c.args.dinode (index_file r o l s.laid c.args.dinode index) (needed_at _ _ _ c.in-NeedBlock.is c.in-Ok.ensures.absent)

pub returns-in-Is : goal.returns-in-Is
returns-in-Is c r o l s index =
    let v = seen_of c.args.blocks.now in
    let d = c.args.dinode in
    ap (λ (x : Dinode). x.size) (answer_at _ _ _ c.in-Is.is (c.in-Ok.ensures.found (holding r o d) (shown v r o l s d index c.sound_inodes_are_shown.ensures)))
