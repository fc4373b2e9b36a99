use Rattle.image_reader.proofs.Directories.{directory_of, linear_area_there}
use Rattle.image_reader.proofs.walk.Walk.linear.Goals as goal

pub check_linear-requires-clause-directory : goal.check_linear-requires-clause-directory
check_linear-requires-clause-directory c = directory_of c.args.self.now.image c.args.visit.now.inode c.requires.going.visited.same c.requires.directory

pub records-requires-clause-area : goal.records-requires-clause-area
records-requires-clause-area c =
    linear_area_there c.args.self.now.image c.args.visit.now.inode c.behind.result.now c.requires.going.visited.same c.requires.directory c.requires.linear c.behind.ensures.value
