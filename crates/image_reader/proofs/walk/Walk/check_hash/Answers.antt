use Rattle.image_reader.proofs.RecordFaults.{wrong_hash}
use Rattle.image_reader.proofs.walk.Walk.check_hash.Goals as goal

pub returns-then-record-crc32 : goal.returns-then-record-crc32
returns-then-record-crc32 c = record {
  damaged = wrong_hash c.args.self.now.image _ c.args.visit.now.inode.block.number c.args.by c.args.record.now.head c.args.record.now.name.now _ c.damaged.ensures c.requires c.crc32.ensures c.if-record-crc32.true;
}
