use Rattle.file_changes.proofs.Writing.{write_makes}
use Rattle.file_changes.proofs.laws.writes_make_files.Goals as goal

pub returns : goal.returns
returns c v a at new time room change im o l t path view of there is can =
    write_makes v im o l t of view path a there c.files_are_inodes.ensures.files c.files_are_inodes.ensures.inodes c.free_blocks_are_new.ensures at new time room can is.writes.first is.writes.second
    is.writes.written is.writes.timed is.last is.writes.taken c.groups_say_what_is_taken.ensures.taken is.whole
