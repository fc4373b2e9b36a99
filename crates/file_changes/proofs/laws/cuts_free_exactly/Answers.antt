use Rattle.file_changes.proofs.Cutting.{is_cut_in}
use Rattle.file_changes.proofs.laws.cuts_free_exactly.Goals as goal

pub returns : goal.returns
returns c v a size time freed fates im o l t path view of at cut can = is_cut_in v im o l t path of a at c.files_are_inodes.ensures.files size can time freed fates cut
