use Rattle.std.proofs.Common.{◌+◌, refl}
use Rattle.image_reader.proofs.Pointing.{reached_below}
use Rattle.image_reader.proofs.walk.Pointers.of_block.Goals as goal

pub returns-clause-reached : goal.returns-clause-reached
returns-clause-reached c = reached_below c.args.inode.now _ c.requires.reached.0 c.requires.reached.1.0 c.args.block.number (c.args.level + 1) c.requires.image refl refl refl c.requires.reached.1.1
