use Rattle.std.proofs.Common.{arith}
use Rattle.image_reader.proofs.InodeFaults.{stuffed_too_large}
use Rattle.image_reader.proofs.inode.Inode.check_stuffed.Goals as goal

pub returns-then-self-room-clause-damaged : goal.returns-then-self-room-clause-damaged
returns-then-self-room-clause-damaged c = stuffed_too_large c.args.self.now _ c.damaged.ensures c.requires.block c.requires.height (omega (arith, c.room.ensures, c.if-self-room.true))
