use Rattle.std.proofs.Common.{refl}
use Rattle.image_reader.proofs.LeafFaults.{hash_astray, behind_more}
use Rattle.image_reader.proofs.inode.Inode.check_hashes.Goals as goal

pub loop-record-preserved : goal.loop-record-preserved
loop-record-preserved c = record {
  area = c.in-Some.ensures.later;
  behind = behind_more c.args.area.now.bytes.now c.loop-record.rest.now c.in-Some.behind.now c.in-Some.record.head c.in-Some.record.name.now c.loop-record.invariant.behind c.in-Some.ensures;
}

pub returns-then-is_astray : goal.returns-then-is_astray
returns-then-is_astray c =
    let astray = c.is_astray.ensures c.if-is_astray.true in
    record {
      damaged = hash_astray c.args.self.now _ c.requires.claimed.0 c.args.at.now.block.number c.args.at.now.hash c.args.at.now.place _ c.args.at.now.leaf c.args.area.now.bytes.now c.loop-record.rest.now c.in-Some.behind.now
          c.in-Some.record.head c.in-Some.record.name.now c.damaged.ensures c.requires.claimed.1 c.requires.leaf.read c.requires.records c.loop-record.invariant.behind c.in-Some.ensures astray.0 refl astray.1;
    }
