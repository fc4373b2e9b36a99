use Rattle.std.proofs.Common.{◌∙◌, sym}
use Rattle.image_reader.proofs.InodeFaults.{wrong_mode}
use Rattle.image_reader.proofs.inode.Inode.check_mode.Goals as goal

pub returns : goal.returns
returns c = record { damaged = wrong_mode c.args.self.now _ c.damaged.ensures c.requires (sym c.is_directory.ensures ∙ c.if-is_directory.false) (sym c.is_regular.ensures ∙ c.if-is_regular.false) }
