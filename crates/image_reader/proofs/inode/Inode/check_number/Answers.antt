use Rattle.image_reader.proofs.InodeFaults.{wrong_address, wrong_number}
use Rattle.image_reader.proofs.inode.Inode.check_number.Goals as goal

pub returns-then-self : goal.returns-then-self
returns-then-self c = record { damaged = wrong_address c.args.self.now _ c.damaged.ensures c.requires c.if-self.true }

pub returns-then-self-eq0 : goal.returns-then-self-eq0
returns-then-self-eq0 c = record { damaged = wrong_number c.args.self.now _ c.damaged-then-self-eq0.ensures c.requires c.if-self-eq0.true }
