use Rattle.std.proofs.Common.{◌≡◌, refl, sym, ◌∙◌}
use Rattle.gfs2_layout.specs.Holding.{Itself, bytes_at}
use Rattle.glock_names.proofs.StepLaws.{answer_at, needed_at}
use Rattle.image_model.specs.Owners.{holding}
use Rattle.image_model.proofs.Held.{some_same}
use Rattle.image_journals.specs.Blocks.{seen_of}
use Rattle.image_journals.proofs.Held.{dinode_seen, index_file, index_sound, own, seen_part, shown}
use Rattle.image_journals.specs.Shown.{IsIndex, jindex}
use Rattle.image_journals.proofs.Journals.{undamaged}
use Rattle.image_journals.proofs.Named.{jindex_is_directory, journals_are}
use Rattle.image_journals.proofs.Names.{directory}
use Rattle.image_journals.proofs.Read.{so_found}
use Rattle.image_journals.proofs.naming.add_journal_files.Goals as goal

pub returns-in-Err : goal.returns-in-Err
returns-in-Err c r o l s at =
    let v = seen_of c.args.blocks.now in
    let d = c.args.jindex in
    let index : IsIndex l d = jindex at in
    undamaged (holding r o d) _ c.sound_inodes_break_nothing.ensures (index_sound v r o l s d index) (c.in-Err.ensures.damaged (holding r o d) (shown v r o l s d index c.sound_inodes_are_shown.ensures))

pub returns-in-NeedBlock : goal.returns-in-NeedBlock
returns-in-NeedBlock c r o l s at =
    let v = seen_of c.args.blocks.now in
    dinode_seen v r o l s c.args.jindex (index_file r o l s.laid c.args.jindex (jindex at)) (needed_at _ _ _ c.in-NeedBlock.is c.in-Ok.ensures.absent)

pub returns : goal.returns
returns c r o l s at =
    let v = seen_of c.args.blocks.now in
    let d = c.args.jindex in
    let index : IsIndex l d = jindex at in
    let read = answer_at _ _ _ c.in-Is.is (c.in-Ok.ensures.found (holding r o d) (shown v r o l s d index c.sound_inodes_are_shown.ensures)) in
    let same : c.in-Some.bytes.now ≡ bytes_at (holding r o d) d = some_same (sym c.in-Some.ensures.some ∙ seen_part v r o l s d index d Itself (own v r o l s d (index_file r o l s.laid d index))) in
    so_found c.add_named.result _ _ (λ done are. journals_are v r o l s d at _ _ are) (c.add_named.ensures (holding r o d) (directory v r o l s d index (jindex_is_directory v r o l s d at)) refl read same)
