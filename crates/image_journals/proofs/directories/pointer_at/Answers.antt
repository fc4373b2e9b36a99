use Rattle.std.proofs.Common.{◌<◌, ◌*◌, sym, ap, subst, ◌∙◌}
use Rattle.std.specs.Int.{from_be_bytes, w64}
use Rattle.gfs2_layout.specs.Inode.{entry, table_count}
use Rattle.glock_names.specs.Steps.{TellsOf}
use Rattle.glock_names.proofs.StepLaws.{answer_at, needed_at}
use Rattle.dinode_tree.specs.Broken.{IsBroken}
use Rattle.image_journals.proofs.Journals.{unneeded, untold}
use Rattle.image_journals.proofs.Names.{long_enough, pointer_is, shown_whole}
use Rattle.image_journals.specs.Blocks.{seen_of}
use Rattle.image_journals.proofs.directories.pointer_at.Goals as goal

pub returns-in-Err-Damaged : goal.returns-in-Err-Damaged
returns-in-Err-Damaged c h is own hashed low =
    let shown = shown_whole (seen_of c.args.blocks.now) h c.args.dir is own c.sound_inodes_are_shown.ensures in
    untold h c.in-Err-Damaged.field-0-0 c.in-Err-Damaged.field-0-1 c.sound_inodes_break_nothing.ensures is.sound.inode (subst (TellsOf (IsBroken h)) c.in-Err-Damaged.field-0-is (c.in-Err-Damaged.ensures.damaged h shown))

pub returns-in-NeedBlock : goal.returns-in-NeedBlock
returns-in-NeedBlock c h is own hashed low =
    let v = seen_of c.args.blocks.now in
    let shown = shown_whole v h c.args.dir is own c.sound_inodes_are_shown.ensures in
    unneeded v c.args.dir h _ _ _ shown is.has (needed_at _ _ _ c.in-NeedBlock.is (c.in-Ok.ensures.needed h shown))

pub returns-then-len-ne8 : goal.returns-then-len-ne8
returns-then-len-ne8 c h is own hashed low =
    let v = seen_of c.args.blocks.now in
    let shown = shown_whole v h c.args.dir is own c.sound_inodes_are_shown.ensures in
    let long = long_enough h c.from.result _ is.sound hashed (subst (λ n. n < table_count h) (sym c.from.ensures) low) (answer_at _ _ _ c.in-Is.is (c.in-Ok.ensures.length h shown)) in
    c.if-len-ne8.true (c.len.ensures ∙ c.in-Is.bytes.ok.0 ∙ long)

pub returns : goal.returns
returns c h is own hashed low =
    let v = seen_of c.args.blocks.now in
    let shown = shown_whole v h c.args.dir is own c.sound_inodes_are_shown.ensures in
    let found = answer_at _ _ _ c.in-Is.is (c.in-Ok.ensures.found h shown (c.sound_inodes_are_whole.ensures h (8 * c.from.result) is.sound.block_size is.sound.inode)) in
    c.number_of.ensures ∙ ap (from_be_bytes w64) c.deref.ensures.value ∙ pointer_is h c.from.result c.in-Is.bytes.items found ∙ ap (entry h) c.from.ensures
