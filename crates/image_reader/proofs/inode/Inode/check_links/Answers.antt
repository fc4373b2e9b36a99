use Rattle.image_reader.proofs.Visits.{wrong_links}
use Rattle.image_reader.proofs.inode.Inode.check_links.Goals as goal

pub returns-then-self-ne1 : goal.returns-then-self-ne1
returns-then-self-ne1 c = record { damaged = wrong_links c.args.self.now _ c.damaged.ensures c.requires.inode c.requires.file c.if-self-ne1.true }
