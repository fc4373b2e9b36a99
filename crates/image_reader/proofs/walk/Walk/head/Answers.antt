use Rattle.std.proofs.Common.{refl}
use Rattle.image_reader.specs.Going.{IsOf, GoesOn}
use Rattle.image_reader.specs.Reading.{held}
use Rattle.image_reader.proofs.Going.{goes_then, ok_then}
use Rattle.image_reader.proofs.Leaves.{chained_first, chained_stay}
use Rattle.image_reader.proofs.walk.Walk.head.Goals as goal

pub chain-requires-clause-leaves : goal.chain-requires-clause-leaves
chain-requires-clause-leaves c = record {
  going = c.in-Ok-true.ensures.going;
  over = c.in-Ok-true.ensures.over;
  chained = chained_first (IsOf c.args.visit.now.inode.block.number) (held c.args.visit.now.inode) c.args.self.now.owners.entries.items c.leaf.new.self.owners.entries.items c.in-Ok-true.ensures.on.claims
      c.args.first.block.number c.requires.leaves.chained c.in-Ok-true.ensures.only;
}

pub returns-in-Ok-false-clause-leaves : goal.returns-in-Ok-false-clause-leaves
returns-in-Ok-false-clause-leaves c = record {
  going = c.in-Ok-false.ensures.going;
  over = c.in-Ok-false.ensures.over;
  chained = chained_stay (IsOf c.args.visit.now.inode.block.number) (held c.args.visit.now.inode) c.args.self.now.owners.entries.items c.leaf.new.self.owners.entries.items c.in-Ok-false.ensures.on.claims
      c.requires.leaves.chained (rw c.in-Ok-false.field-0-test at c.in-Ok-false.ensures.known refl);
}

pub returns-in-Ok-true-clause-on : goal.returns-in-Ok-true-clause-on
returns-in-Ok-true-clause-on c =
    let v = c.args.visit.now in
    let P = IsOf v.inode.block.number in
    ok_then c.chain.result (GoesOn P v c.leaf.new.self.owners.entries.items c.leaf.new.found.items c.chain.new.self.owners.entries.items c.chain.new.found.items)
    (GoesOn P v c.args.self.now.owners.entries.items c.args.found.now.items c.chain.new.self.owners.entries.items c.chain.new.found.items)
    (goes_then P v c.args.self.now.owners.entries.items c.args.found.now.items c.leaf.new.self.owners.entries.items c.leaf.new.found.items c.chain.new.self.owners.entries.items c.chain.new.found.items
    c.in-Ok-true.ensures.on) c.chain.ensures.on
