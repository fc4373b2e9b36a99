use Rattle.std.proofs.Common.{◌≡◌, refl, sym, ap, ◌∙◌}
use Rattle.gfs2_layout.specs.Holding.{Itself, bytes_at}
use Rattle.gfs2_layout.specs.Structures.{is_directory}
use Rattle.glock_names.proofs.StepLaws.{answer_at, needed_at}
use Rattle.image_model.specs.Owners.{holding}
use Rattle.image_model.proofs.Held.{some_same}
use Rattle.image_journals.specs.Blocks.{seen_of}
use Rattle.image_journals.proofs.Held.{dinode_seen, index_file, own, index_sound, seen_part, shown}
use Rattle.image_journals.proofs.Journals.{undamaged}
use Rattle.image_journals.proofs.Names.{child_is, directory, leads_nowhere, leads_to, no_child}
use Rattle.image_journals.proofs.Read.{handed}
use Rattle.image_journals.proofs.directories.look.Goals as goal

pub returns-in-Err : goal.returns-in-Err
returns-in-Err c r o l s index dots =
    let v = seen_of c.args.blocks.now in
    let d = c.args.dir in
    undamaged (holding r o d) _ c.sound_inodes_break_nothing.ensures (index_sound v r o l s d index) (c.in-Err.ensures.damaged (holding r o d) (shown v r o l s d index c.sound_inodes_are_shown.ensures))

pub returns-in-NeedBlock : goal.returns-in-NeedBlock
returns-in-NeedBlock c r o l s index dots = dinode_seen (seen_of c.args.blocks.now) r o l s c.args.dir (index_file r o l s.laid c.args.dir index) (needed_at _ _ _ c.in-NeedBlock.is c.in-Ok.ensures.absent)

pub returns-then-not-is_directory : goal.returns-then-not-is_directory
returns-then-not-is_directory c r o l s index dots =
    let v = seen_of c.args.blocks.now in
    let d = c.args.dir in
    let read = answer_at _ _ _ c.in-Is.is (c.in-Ok.ensures.found (holding r o d) (shown v r o l s d index c.sound_inodes_are_shown.ensures)) in
    sym (no_child v r o l s d index c.args.name.now (ap is_directory (sym read) ∙ sym c.is_directory.ensures ∙ c.if-not-is_directory.true))

pub returns-in_err-found : goal.returns-in_err-found
returns-in_err-found c r o l s index dots =
    let v = seen_of c.args.blocks.now in
    let d = c.args.dir in
    let read = answer_at _ _ _ c.in-Is.is (c.in-Ok.ensures.found (holding r o d) (shown v r o l s d index c.sound_inodes_are_shown.ensures)) in
    let dir = ap is_directory (sym read) ∙ sym c.is_directory.ensures ∙ c.if-not-is_directory.false in
    let same : c.in-Some.bytes.now ≡ bytes_at (holding r o d) d = some_same (sym c.in-Some.ensures.some ∙ seen_part v r o l s d index d Itself (own v r o l s d (index_file r o l s.laid d index))) in
    handed c.from_residual.result _ _ _ c.from_residual.ensures.1 (c.in_err-found.ensures (holding r o d) (directory v r o l s d index dir) refl read same)

pub returns-in-Some-found : goal.returns-in-Some-found
returns-in-Some-found c r o l s index dots =
    let v = seen_of c.args.blocks.now in
    let d = c.args.dir in
    let read = answer_at _ _ _ c.in-Is.is (c.in-Ok.ensures.found (holding r o d) (shown v r o l s d index c.sound_inodes_are_shown.ensures)) in
    let dir = ap is_directory (sym read) ∙ sym c.is_directory.ensures ∙ c.if-not-is_directory.false in
    let same : c.in-Some.bytes.now ≡ bytes_at (holding r o d) d = some_same (sym c.in-Some.ensures.some ∙ seen_part v r o l s d index d Itself (own v r o l s d (index_file r o l s.laid d index))) in
    leads_to _ c.in-Some-found.entry (sym c.in-Some-found.is ∙ c.in_ok-found.ensures (holding r o d) (directory v r o l s d index dir) refl read same) ∙ sym (child_is v r o l s d index c.args.name.now dir dots)

pub returns-in-None : goal.returns-in-None
returns-in-None c r o l s index dots =
    let v = seen_of c.args.blocks.now in
    let d = c.args.dir in
    let read = answer_at _ _ _ c.in-Is.is (c.in-Ok.ensures.found (holding r o d) (shown v r o l s d index c.sound_inodes_are_shown.ensures)) in
    let dir = ap is_directory (sym read) ∙ sym c.is_directory.ensures ∙ c.if-not-is_directory.false in
    let same : c.in-Some.bytes.now ≡ bytes_at (holding r o d) d = some_same (sym c.in-Some.ensures.some ∙ seen_part v r o l s d index d Itself (own v r o l s d (index_file r o l s.laid d index))) in
    leads_nowhere _ (sym c.in-None.is ∙ c.in_ok-found.ensures (holding r o d) (directory v r o l s d index dir) refl read same) ∙ sym (child_is v r o l s d index c.args.name.now dir dots)
