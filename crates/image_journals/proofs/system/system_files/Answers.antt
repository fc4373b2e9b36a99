use Rattle.image_journals.specs.Blocks.{seen_of}
use Rattle.image_journals.proofs.SystemBlocks.{files_are}
use Rattle.image_journals.proofs.system.system_files.Goals as goal

pub returns : goal.returns
returns c r o l s d =
    let jindex = c.in_ok-jindex.ensures r o l s in
    files_are (seen_of c.args.blocks.now) r o l s c.in_ok-master.master c.in_ok-rindex.rindex c.in_ok-jindex.jindex (c.in_ok-master.ensures r o l s) (c.in_ok-rindex.ensures r o l s) jindex
    _ _ _ _ _ c.new-files.ensures.items c.in_ok-push.ensures.items c.in_ok-push-2.ensures.items c.in_ok-push-3.ensures.items (c.in_ok-add_journal_files.ensures r o l s jindex) d
