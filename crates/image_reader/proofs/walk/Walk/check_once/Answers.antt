use Rattle.image_reader.specs.Finding.{said_by}
use Rattle.image_reader.proofs.Going.{comes_again_behind, record_at}
use Rattle.image_reader.proofs.InodeFaults.{told_at}
use Rattle.image_reader.proofs.Inside.{record_inside}
use Rattle.image_reader.proofs.walk.Walk.check_once.Goals as goal

pub returns-in-Some : goal.returns-in-Some
returns-in-Some c = record {
  damaged = told_at c.args.self.now.image _ c.args.by 10 c.damaged.ensures
      (record_inside c.args.self.now.image c.args.visit.now.inode.block.number c.args.by (said_by c.args.record.now.head c.args.record.now.name.now)
      (record_at c.args.self.now.image c.args.visit.now.inode.block.number c.args.by c.args.record.now.head c.args.record.now.name.now c.args.behind.now c.requires.slot c.requires.used))
      (comes_again_behind c.args.self.now.image c.args.visit.now.inode.block.number c.args.by c.args.record.now.head c.args.record.now.name.now c.args.behind.now c.requires.slot c.requires.used _ c.in-Some.ensures.first.1);
}
