use Rattle.image_reader.proofs.Directories.{linear_found, linear_whole}
use Rattle.image_reader.proofs.Going.{goes_wider, name_is_of}
use Rattle.image_reader.specs.Going.{IsNameOf, IsOf}
use Rattle.image_reader.proofs.walk.Walk.linear_tally.Goals as goal

pub returns-clause-on : goal.returns-clause-on
returns-clause-on c =
    let v = c.args.visit.now in
    goes_wider (IsNameOf v.inode.block.number) (IsOf v.inode.block.number) v c.args.self.now.owners.entries.items c.args.found.now.items c.linear.new.self.owners.entries.items c.linear.new.found.items
    (name_is_of v.inode.block.number) c.in_ok-linear.ensures.on

pub returns-clause-tally : goal.returns-clause-tally
returns-clause-tally c =
    linear_whole c.args.self.now.image c.args.visit.now c.none-tally.result c.linear.new.tally c.requires.going.visited.same c.requires.directory c.requires.linear c.none-tally.ensures.entries c.none-tally.ensures.directories
    c.in_ok-linear.ensures.counted

pub returns-clause-all : goal.returns-clause-all
returns-clause-all c =
    linear_found c.args.self.now.image c.args.visit.now c.linear.new.self.owners.entries.items c.linear.new.found.items c.requires.going.visited.same c.requires.linear c.in_ok-linear.ensures.entered
