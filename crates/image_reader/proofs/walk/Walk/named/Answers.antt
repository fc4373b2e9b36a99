use Rattle.std.proofs.Common.{◌∙◌, sym}
use Rattle.std.proofs.lemmas.Slice.Eq.{bytes_eq-Decides}
use Rattle.image_reader.proofs.Inside.{block_broken}
use Rattle.image_reader.proofs.RecordFaults.{wrong_dot, wrong_dots}
use Rattle.image_reader.proofs.walk.Walk.named.Goals as goal

pub check_dot-requires-clause-wrong : goal.check_dot-requires-clause-wrong
check_dot-requires-clause-wrong c other =
    block_broken c.args.visit.now.inode.block c.args.self.now.image 10 c.requires.going.visited.same
    (wrong_dot c.args.self.now.image c.args.visit.now.inode.block.number c.args.by c.args.record.now.head c.args.record.now.name.now c.requires.has
    ((bytes_eq-Decides c.args.record.now.name.now c.as_slice.result.now).0 (sym c.eq.ensures ∙ c.if-eq.true) ∙ c.as_slice.ensures) other)

pub check_dot-requires-then-eq-2-clause-wrong : goal.check_dot-requires-then-eq-2-clause-wrong
check_dot-requires-then-eq-2-clause-wrong c other =
    block_broken c.args.visit.now.inode.block c.args.self.now.image 10 c.requires.going.visited.same
    (wrong_dots c.args.self.now.image c.args.visit.now.inode.block.number c.args.by c.args.visit.now.parent c.requires.going.visited.owner c.args.record.now.head c.args.record.now.name.now c.requires.going.visited.at c.requires.going.visited.parent c.requires.has
    ((bytes_eq-Decides c.args.record.now.name.now c.as_slice-2.result.now).0 (sym c.eq-2.ensures ∙ c.if-eq-2.true) ∙ c.as_slice-2.ensures) other)
