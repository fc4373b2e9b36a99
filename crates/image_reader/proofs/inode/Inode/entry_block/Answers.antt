use Rattle.std.proofs.Common.{◌*◌, ◌/◌, refl, arith}
use Rattle.image_reader.proofs.LeafFaults.{index_within, block_of_stuffed, block_of_table}
use Rattle.image_reader.proofs.inode.Inode.entry_block.Goals as goal

pub returns-then-self-eq0-clause-block : goal.returns-then-self-eq0-clause-block
returns-then-self-eq0-clause-block c = block_of_stuffed c.args.self.now c.args.i c.if-self-eq0.true

pub content_block-requires-clause-within : goal.content_block-requires-clause-within
content_block-requires-clause-within c = index_within c.args.self.now c.args.i c.unit.result c.unit.ensures.value (omega (arith, c.unit.ensures.least)) c.requires.within

pub returns-in-Some-clause-block : goal.returns-in-Some-clause-block
returns-in-Some-clause-block c =
    let here = rw c.in-Some.is at c.in_ok-block.ensures.some in
    block_of_table c.args.self.now c.args.i c.unit.result (8 * c.args.i / c.unit.result) c.in-Some.block.number c.if-self-eq0.false c.unit.ensures.value refl here.0 here.1
