use Rattle.std.proofs.Common.{refl}
use Rattle.image_reader.proofs.Pointing.{reached_top}
use Rattle.image_reader.proofs.walk.Pointers.of_dinode.Goals as goal

pub returns-clause-reached : goal.returns-clause-reached
returns-clause-reached c = reached_top c.args.inode.now _ refl refl c.requires refl
