use Rattle.std.proofs.Common.{◌∙◌, sym}
use Rattle.image_reader.proofs.InodeFaults.{lacking}
use Rattle.image_reader.proofs.Pointing.{lacks_table_at}
use Rattle.image_reader.proofs.inode.Inode.check_content.Goals as goal

pub returns-then-not-has_header : goal.returns-then-not-has_header
returns-then-not-has_header c = record {
  damaged = lacks_table_at c.args.self.now c.args.block.now _ c.requires.of_image c.damaged.ensures c.requires.claimed
      (sym c.is_directory.ensures ∙ c.if-not-is_directory.false) (lacking _ _ c.if-not-has_header.true c.has_header.ensures);
}
