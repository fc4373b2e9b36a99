use Rattle.logged_answers.proofs.Logging.{answers_have_room}
use Rattle.logged_answers.proofs.answers_have_room.Goals as goal

pub returns : goal.returns
returns c = answers_have_room c.files_are_inodes.ensures.files c.files_are_inodes.ensures.inodes c.small_changes_fit.ensures c.live_blocks_fit.ensures
