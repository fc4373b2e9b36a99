use Rattle.std.proofs.Common.{refl, sym, ap, ◌∙◌}
use Rattle.gfs2_layout.specs.Structures.{is_directory}
use Rattle.gfs2_layout.specs.declared.dinode.Dinode.{Dinode}
use Rattle.glock_names.proofs.StepLaws.{answer_at, needed_at}
use Rattle.image_model.specs.Owners.{holding}
use Rattle.image_journals.specs.Adding.{IsLeafOf}
use Rattle.image_journals.specs.Blocks.{seen_of}
use Rattle.image_journals.proofs.Adding.{added_none}
use Rattle.image_journals.proofs.Held.{dinode_now, dinode_seen, directory_index, seen_image, shown_now, sound_now}
use Rattle.image_journals.proofs.Journals.{undamaged}
use Rattle.image_journals.proofs.Names.{directory, is_hashed, is_linear}
use Rattle.image_journals.proofs.SystemBlocks.{leafless, no_directory}
use Rattle.image_journals.proofs.system.add_own_leaves.Goals as goal

pub returns-in-Err : goal.returns-in-Err
returns-in-Err c r o l s file =
    let v = seen_of c.args.blocks.now in
    let d = c.args.dinode in
    undamaged (holding (seen_image v r) o d) _ c.sound_inodes_break_nothing.ensures (sound_now v r o l s d file) (c.in-Err.ensures.damaged (holding (seen_image v r) o d) (shown_now v r o l s d file c.sound_inodes_are_shown.ensures))

pub returns-in-NeedBlock : goal.returns-in-NeedBlock
returns-in-NeedBlock c r o l s file = dinode_seen (seen_of c.args.blocks.now) r o l s c.args.dinode file (needed_at _ _ _ c.in-NeedBlock.is c.in-Ok.ensures.absent)

pub returns-then-not-is_directory : goal.returns-then-not-is_directory
returns-then-not-is_directory c r o l s file =
    let v = seen_of c.args.blocks.now in
    let d = c.args.dinode in
    let read = answer_at _ _ _ c.in-Is.is (c.in-Ok.ensures.found (holding (seen_image v r) o d) (shown_now v r o l s d file c.sound_inodes_are_shown.ensures)) ∙ dinode_now v r o l s d file in
    added_none _ (IsLeafOf (holding r o d)) (leafless v r o l s d file (no_directory v r o l s d file c.is_directory.result c.in-Is.read read c.is_directory.ensures c.if-not-is_directory.true))

pub returns-then-not-is_hashed : goal.returns-then-not-is_hashed
returns-then-not-is_hashed c r o l s file =
    let v = seen_of c.args.blocks.now in
    let d = c.args.dinode in
    let read = answer_at _ _ _ c.in-Is.is (c.in-Ok.ensures.found (holding (seen_image v r) o d) (shown_now v r o l s d file c.sound_inodes_are_shown.ensures)) ∙ dinode_now v r o l s d file in
    added_none _ (IsLeafOf (holding r o d)) (leafless v r o l s d file (is_linear (holding r o d) c.in-Is.read read (sym c.is_hashed.ensures ∙ c.if-not-is_hashed.true)))

pub returns : goal.returns
returns c r o l s file =
    let v = seen_of c.args.blocks.now in
    let d = c.args.dinode in
    let read = answer_at _ _ _ c.in-Is.is (c.in-Ok.ensures.found (holding (seen_image v r) o d) (shown_now v r o l s d file c.sound_inodes_are_shown.ensures)) ∙ dinode_now v r o l s d file in
    let dir = ap is_directory (sym read) ∙ sym c.is_directory.ensures ∙ c.if-not-is_directory.false in
    c.add_leaves.ensures (holding r o d) (directory v r o l s d (directory_index r o l s.laid d file dir) dir) refl (is_hashed (holding r o d) c.in-Is.read read dir (sym c.is_hashed.ensures ∙ c.if-not-is_hashed.false)) (ap (λ (x : Dinode). x.depth) read)
