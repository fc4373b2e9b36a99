use Rattle.image_reader.proofs.InodeFaults.{lacks_header, lacking}
use Rattle.image_reader.proofs.inode.Inode.at.Goals as goal

pub returns-then-not-has_header-clause-damaged : goal.returns-then-not-has_header-clause-damaged
returns-then-not-has_header-clause-damaged c = lacks_header c.args.block _ c.damaged.ensures c.requires (lacking _ _ c.if-not-has_header.true c.has_header.ensures)
