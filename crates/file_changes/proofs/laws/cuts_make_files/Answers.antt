use Rattle.file_changes.proofs.Cutting.{cut_makes}
use Rattle.file_changes.proofs.laws.cuts_make_files.Goals as goal

pub returns : goal.returns
returns c v a size time freed fates change im o l t path view of at cut can done =
    cut_makes v im o l t path of a at c.files_are_inodes.ensures.files size can time freed fates cut c.files_are_inodes.ensures.inodes view c.groups_say_what_is_taken.ensures.freed done.last done.whole done.frees
