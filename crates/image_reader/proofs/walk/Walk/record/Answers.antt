use Rattle.std.proofs.Common.{sym}
use Rattle.image_reader.proofs.Going.{slot_at_place, record_at}
use Rattle.image_reader.proofs.walk.Walk.record.Goals as goal

pub check_hash-requires : goal.check_hash-requires
check_hash-requires c =
    slot_at_place c.args.self.now.image c.args.visit.now.inode.block.number c.args.by c.args.record.now.head c.args.record.now.name.now c.args.behind.now c.requires.slot (sym c.if-not-is_in_use.ensures)

pub named-requires-clause-has : goal.named-requires-clause-has
named-requires-clause-has c =
    record_at c.args.self.now.image c.args.visit.now.inode.block.number c.args.by c.args.record.now.head c.args.record.now.name.now c.args.behind.now c.requires.slot (sym c.if-not-is_in_use.ensures)
