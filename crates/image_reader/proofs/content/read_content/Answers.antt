use Rattle.image_reader.proofs.Carried.{content_is}
use Rattle.image_reader.proofs.content.read_content.Goals as goal

pub returns-clause-content : goal.returns-clause-content
returns-clause-content c = content_is c.args.inode.now c.in_ok-bytes.bytes.items _ c.in_ok-bytes.ensures.carrier c.truncate.ensures.items
