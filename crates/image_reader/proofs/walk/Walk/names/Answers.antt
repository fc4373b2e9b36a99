use Rattle.std.proofs.Common.{◌∙◌, sym}
use Rattle.image_reader.proofs.Directories.{directory_at}
use Rattle.image_reader.proofs.Going.{ok_hold}
use Rattle.image_reader.proofs.Visits.{dinode_at, links_all}
use Rattle.image_reader.specs.Complete.{AllAreFound}
use Rattle.image_reader.specs.Reading.{image_at}
use Rattle.image_reader.proofs.walk.Walk.names.Goals as goal

pub directory-requires-clause-directory : goal.directory-requires-clause-directory
directory-requires-clause-directory c = directory_at c.args.self.now.image c.args.visit.now c.requires.going.visited (sym c.is_directory.ensures ∙ c.if-is_directory.true)

pub check_links-requires-clause-inode : goal.check_links-requires-clause-inode
check_links-requires-clause-inode c = dinode_at c.args.self.now.image c.args.visit.now c.requires.going.visited

pub returns-clause-all : goal.returns-clause-all
returns-clause-all c =
    ok_hold c.check_links.result (AllAreFound (image_at c.args.self.now.image) c.args.visit.now c.args.self.now.owners.entries.items c.args.found.now.items)
    (links_all c.args.self.now.image c.args.visit.now c.args.self.now.owners.entries.items c.args.found.now.items c.requires.going.visited (sym c.is_directory.ensures ∙ c.if-is_directory.false))
