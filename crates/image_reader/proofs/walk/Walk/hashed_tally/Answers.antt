use Rattle.image_reader.proofs.Directories.{hashed_of, hashed_found, hashed_whole, claims_later}
use Rattle.image_reader.proofs.Leaves.{leaves_none}
use Rattle.image_reader.proofs.walk.Walk.hashed_tally.Goals as goal

pub hashed-requires-clause-leaves : goal.hashed-requires-clause-leaves
hashed-requires-clause-leaves c = record {
  going = c.requires.going;
  over = leaves_none c.args.visit.now c.args.self.now.owners.entries.items c.none-tally.result c.args.found.now.items c.none-tally.ensures.entries c.none-tally.ensures.directories c.requires.fresh;
  chained = λ x hash place has not_open more. absurd (c.requires.fresh x hash place has);
}

pub hashed-requires-clause-hashed : goal.hashed-requires-clause-hashed
hashed-requires-clause-hashed c =
    ((c.requires.going.visited.owner, c.requires.going.visited.at), hashed_of c.args.self.now.image c.args.visit.now.inode _ c.requires.going.visited.same c.requires.hashed)

pub returns-clause-tally : goal.returns-clause-tally
returns-clause-tally c =
    hashed_whole c.args.self.now.image c.args.visit.now c.hashed.new.self.owners.entries.items c.hashed.new.tally c.hashed.new.found.items c.requires.going.visited.same c.requires.directory c.requires.hashed
    (claims_later c.hashed.new.self.image c.args.self.now.image c.hashed.new.self.owners.entries.items c.in_ok-hashed.ensures.same c.in_ok-hashed.ensures.leaves.going.sound.claims)
    c.in_ok-hashed.ensures.leaves.over c.in_ok-hashed.ensures.all

pub returns-clause-all : goal.returns-clause-all
returns-clause-all c =
    hashed_found c.args.self.now.image c.args.visit.now c.hashed.new.self.owners.entries.items c.hashed.new.tally c.hashed.new.found.items c.requires.going.visited.same c.requires.hashed
    c.in_ok-hashed.ensures.leaves.over c.in_ok-hashed.ensures.all
