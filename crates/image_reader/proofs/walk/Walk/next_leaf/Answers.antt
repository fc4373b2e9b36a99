use Rattle.std.proofs.Common.{◌+◌, ◌∙◌, refl}
use Rattle.image_reader.specs.Going.{IsOf}
use Rattle.image_model.specs.Owners.{Chained}
use Rattle.image_reader.specs.Reading.{held, image_at}
use Rattle.image_reader.proofs.Chains.{next_claim, claim_at, leaf_there, depth_differs, next_is, next_placed}
use Rattle.image_reader.proofs.Leaves.{chained_next, chained_known}
use Rattle.image_reader.proofs.Inside.{block_inside}
use Rattle.image_reader.proofs.WalkFaults.{beyond}
use Rattle.image_reader.proofs.walk.Walk.next_leaf.Goals as goal

pub returns-in_default-clause-damaged : goal.returns-in_default-clause-damaged
returns-in_default-clause-damaged c =
    beyond c.args.self.now _ c.args.at.now.block.number c.args.at.now.leaf.next _ c.damaged.ensures (block_inside c.args.at.now.block c.args.self.now.image (c.requires.leaf.same ∙ c.requires.leaves.going.visited.same))
    (next_claim c.args.self.now.image c.args.visit.now.inode c.args.at.now.block.number c.args.at.now.hash c.args.at.now.place c.args.at.now.leaf c.args.self.now.owners.entries.items
    c.requires.leaves.going.visited.same c.requires.leaf.read c.requires.leaves.going.sound.claims c.requires.claimed c.if-number-eq0.false)
    c.in_default.ensures.none

pub read_leaf-requires-clause-leaf : goal.read_leaf-requires-clause-leaf
read_leaf-requires-clause-leaf c =
    leaf_there c.args.self.now.image c.args.visit.now.inode c.args.at.now.block.number c.args.at.now.leaf.next c.in-Some.block.number c.args.at.now.hash (c.args.at.now.place + 1)
    c.requires.leaves.going.visited.same c.in-Some.ensures.some.0
    (next_claim c.args.self.now.image c.args.visit.now.inode c.args.at.now.block.number c.args.at.now.hash c.args.at.now.place c.args.at.now.leaf c.args.self.now.owners.entries.items
    c.requires.leaves.going.visited.same c.requires.leaf.read c.requires.leaves.going.sound.claims c.requires.claimed c.if-number-eq0.false)

pub returns-then-leaf-at-clause-damaged : goal.returns-then-leaf-at-clause-damaged
returns-then-leaf-at-clause-damaged c =
    depth_differs c.args.self.now.image c.args.visit.now.inode c.args.at.now.block.number c.in-Some.block.number c.args.at.now.hash c.args.at.now.place c.args.at.now.leaf c.in_ok-leaf.leaf c.args.self.now.owners.entries.items _
    c.requires.leaves.going.visited.same c.requires.leaf.read c.in_ok-leaf.ensures.read c.in-Some.ensures.some.0 (block_inside c.in-Some.block c.args.self.now.image c.in-Some.ensures.some.1) c.requires.leaves.going.sound.claims c.requires.claimed c.if-number-eq0.false
    c.damaged-then-leaf-at.ensures c.if-leaf-at.true

pub leaf-requires-clause-inside : goal.leaf-requires-clause-inside
leaf-requires-clause-inside c = block_inside c.args.at.now.block c.args.self.now.image (c.requires.leaf.same ∙ c.requires.leaves.going.visited.same)

pub leaf-requires-clause-claimed : goal.leaf-requires-clause-claimed
leaf-requires-clause-claimed c =
    claim_at (image_at c.args.self.now.image) c.args.at.now.block.number c.args.at.now.leaf.next c.in-Some.block.number (Chained c.args.visit.now.inode.block.number c.args.at.now.hash (c.args.at.now.place + 1))
    c.in-Some.ensures.some.0
    (next_claim c.args.self.now.image c.args.visit.now.inode c.args.at.now.block.number c.args.at.now.hash c.args.at.now.place c.args.at.now.leaf c.args.self.now.owners.entries.items
    c.requires.leaves.going.visited.same c.requires.leaf.read c.requires.leaves.going.sound.claims c.requires.claimed c.if-number-eq0.false)

pub leaf-requires-clause-placed : goal.leaf-requires-clause-placed
leaf-requires-clause-placed c =
    next_placed c.args.self.now.image c.args.visit.now.inode c.args.at.now.block.number c.in-Some.block.number c.args.at.now.hash c.args.at.now.place c.args.at.now.leaf c.args.self.now.owners.entries.items
    c.requires.leaves.going.visited.same c.requires.leaf.read c.requires.leaves.going.sound.claims c.requires.claimed c.if-number-eq0.false c.in-Some.ensures.some.0

pub returns-in-Ok-true-clause-leaves : goal.returns-in-Ok-true-clause-leaves
returns-in-Ok-true-clause-leaves c = record {
  going = c.in-Ok-true.ensures.going;
  over = c.in-Ok-true.ensures.over;
  chained = chained_next (IsOf c.args.visit.now.inode.block.number) (held c.args.visit.now.inode) c.args.self.now.owners.entries.items c.leaf.new.self.owners.entries.items c.in-Ok-true.ensures.on.claims
      c.args.at.now.block.number c.args.at.now.hash c.args.at.now.place c.in-Some.block.number c.requires.leaves.chained c.requires.claimed
      (next_is c.args.visit.now.inode c.args.at.now.block.number c.in-Some.block.number c.args.at.now.leaf c.requires.leaf.read c.in-Some.ensures.some.0) c.in-Ok-true.ensures.claimed c.in-Ok-true.ensures.only;
}

pub returns-in-Ok-false-clause-leaves : goal.returns-in-Ok-false-clause-leaves
returns-in-Ok-false-clause-leaves c = record {
  going = c.in-Ok-false.ensures.going;
  over = c.in-Ok-false.ensures.over;
  chained = chained_known (IsOf c.args.visit.now.inode.block.number) (held c.args.visit.now.inode) c.args.self.now.owners.entries.items c.leaf.new.self.owners.entries.items c.in-Ok-false.ensures.on.claims
      c.args.at.now.block.number c.args.at.now.hash c.args.at.now.place c.in-Some.block.number c.requires.leaves.chained c.requires.claimed
      (next_is c.args.visit.now.inode c.args.at.now.block.number c.in-Some.block.number c.args.at.now.leaf c.requires.leaf.read c.in-Some.ensures.some.0) c.in-Ok-false.ensures.claimed
      (rw c.in-Ok-false.field-0-test at c.in-Ok-false.ensures.known refl);
}
