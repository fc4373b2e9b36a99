use Rattle.std.proofs.Common.{◌∙◌, sym}
use Rattle.image_reader.proofs.Tops.{root_not_directory}
use Rattle.image_reader.proofs.tree.check_root.Goals as goal

pub returns-then-not-is_directory-clause-damaged : goal.returns-then-not-is_directory-clause-damaged
returns-then-not-is_directory-clause-damaged c = root_not_directory c.args.root.now _ c.damaged.ensures c.requires (sym c.is_directory.ensures ∙ c.if-not-is_directory.true)
