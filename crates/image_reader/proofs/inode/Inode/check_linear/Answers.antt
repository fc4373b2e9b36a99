use Rattle.image_reader.proofs.Directories.{wrong_height, wrong_size}
use Rattle.image_reader.proofs.inode.Inode.check_linear.Goals as goal

pub returns-then-self-ne0 : goal.returns-then-self-ne0
returns-then-self-ne0 c = record { damaged = wrong_height c.args.self.now _ c.damaged.ensures c.requires.directory c.requires.linear c.if-self-ne0.true }

pub returns-then-self-room : goal.returns-then-self-room
returns-then-self-room c = record { damaged = wrong_size c.args.self.now _ c.room.result c.damaged-then-self-room.ensures c.requires.directory c.requires.linear c.room.ensures c.if-self-room.true }
