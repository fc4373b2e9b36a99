use Rattle.image_reader.proofs.Directories.{directory_of, whole_of}
use Rattle.image_reader.proofs.walk.Walk.directory.Goals as goal

pub check_tally-requires-clause-directory : goal.check_tally-requires-clause-directory
check_tally-requires-clause-directory c = directory_of c.args.self.now.image c.args.visit.now.inode c.requires.going.visited.same c.requires.directory

pub check_tally-requires-clause-tally : goal.check_tally-requires-clause-tally
check_tally-requires-clause-tally c = whole_of c.args.self.now.image c.args.visit.now.inode _ c.requires.going.visited.same c.in_ok-tally.ensures.tally
