use Rattle.std.proofs.Common.{◌∙◌, sym, arith}
use Rattle.image_reader.proofs.LeafFaults.{leaf_bytes, area_of_leaf, leaf_miscounted}
use Rattle.image_reader.proofs.Leaves.{counted_add, counted_of, found_of_leaf}
use Rattle.image_reader.proofs.walk.Walk.leaf_records.Goals as goal

pub records-requires-clause-area : goal.records-requires-clause-area
records-requires-clause-area c =
    area_of_leaf c.args.self.now.image c.args.visit.now.inode c.args.at.now.block c.behind.result.now c.requires.claimed.0 c.args.at.now.hash c.args.at.now.place
    c.requires.going.visited.same c.requires.leaf.same c.behind.ensures.value c.requires.claimed.1

pub returns-then-own-from-clause-damaged : goal.returns-then-own-from-clause-damaged
returns-then-own-from-clause-damaged c =
    leaf_miscounted c.args.self.now.image c.args.visit.now.inode c.args.at.now.block c.args.at.now.leaf _ c.behind.result.now c.none-own.result c.records.new.tally c.requires.claimed.0 c.args.at.now.hash c.args.at.now.place
    c.requires.going.visited.same c.requires.leaf.same c.requires.leaf.read c.behind.ensures.value c.requires.claimed.1 c.damaged.ensures c.none-own.ensures.entries c.in_ok-records.ensures.counted
    (omega (arith, c.from.ensures, c.from.type_inv)) (λ e. c.if-own-from.true (e ∙ sym c.from.ensures))

pub check_hashes-requires-clause-records : goal.check_hashes-requires-clause-records
check_hashes-requires-clause-records c = leaf_bytes c.args.visit.now.inode c.args.at.now.block c.behind.result.now c.requires.leaf.same c.behind.ensures.value

pub returns-clause-counted : goal.returns-clause-counted
returns-clause-counted c =
    counted_add c.none-own.result c.records.new.tally c.args.tally.now c.add.new.self _ c.none-own.ensures.entries c.none-own.ensures.directories
    (counted_of c.none-own.result c.records.new.tally c.behind.result.now _ (leaf_bytes c.args.visit.now.inode c.args.at.now.block c.behind.result.now c.requires.leaf.same c.behind.ensures.value) c.in_ok-records.ensures.counted)
    c.add.ensures.entries c.add.ensures.directories c.add.ensures.dot c.add.ensures.dots

pub returns-clause-entered : goal.returns-clause-entered
returns-clause-entered c =
    found_of_leaf c.records.new.found.items c.args.visit.now c.behind.result.now _ (leaf_bytes c.args.visit.now.inode c.args.at.now.block c.behind.result.now c.requires.leaf.same c.behind.ensures.value) c.in_ok-records.ensures.entered
