use Rattle.image_reader.proofs.RecordFaults.{wrong_kind, wrong_formal_number}
use Rattle.image_reader.proofs.inode.Inode.check_record.Goals as goal

pub returns-then-head-kind : goal.returns-then-head-kind
returns-then-head-kind c = record {
  damaged = wrong_kind c.args.self.now c.args.head.now _ c.args.by _ c.damaged.ensures c.requires.has c.requires.address c.kind.ensures c.if-head-kind.true;
}

pub returns-then-head-self : goal.returns-then-head-self
returns-then-head-self c = record {
  damaged = wrong_formal_number c.args.self.now c.args.head.now _ c.args.by c.damaged-then-head-self.ensures c.requires.has c.requires.address c.if-head-self.true;
}
